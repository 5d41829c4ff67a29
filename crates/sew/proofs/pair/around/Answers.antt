use Rattle.std.proofs.Common.{◌+◌, arith, rules}
use Rattle.kernel.specs.Link.{alpha}
use Rattle.orbit.specs.Flood.{axes}
use Rattle.sew.specs.Pairs.{Pairs, Wrong}
use Rattle.sew.proofs.Label.{turned_more, turned-stuck, turned-all}
use Rattle.sew.proofs.Pairs.{clash-wrong}
use Rattle.sew.proofs.pair.around.Goals as goal

pub returns-in_err-u : goal.returns-in_err-u
returns-in_err-u c =
    let a = c.args in
    let α = alpha a.links.now in
    let S = axes a.lo a.hi in
    let L = c.loop-j in
    let K = c.in_err-u.ensures in
    rw c.from_residual.ensures
    (turned-stuck α α a.m S (Pairs a.n) a.n a.e a.x a.w.now a.t (Wrong α a.m S) L.j (search rules) K.0 L.invariant
    (clash-wrong α a.m S a.n L.w L.u (α L.j a.e) (α L.j a.x) K.1))

pub loop-j-preserved : goal.loop-j-preserved
loop-j-preserved c =
    let a = c.args in
    let α = alpha a.links.now in
    let L = c.loop-j in
    turned_more α α a.m (axes a.lo a.hi) (Pairs a.n) a.n a.e a.x a.w.now a.t L.j (search rules) L.invariant c.in_ok-u.ensures

pub returns-in_ok-u : goal.returns-in_ok-u
returns-in_ok-u c =
    let a = c.args in
    let α = alpha a.links.now in
    let S = axes a.lo a.hi in
    let L = c.loop-j in
    turned-all α α a.m S (Pairs a.n) a.n a.e a.x a.w.now a.t (L.j + 1) (omega arith)
    (turned_more α α a.m S (Pairs a.n) a.n a.e a.x a.w.now a.t L.j (search rules) L.invariant c.in_ok-u.ensures)
