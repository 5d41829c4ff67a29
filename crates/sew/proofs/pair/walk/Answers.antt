use Rattle.std.proofs.Common.{not-suc-le-zero, rules}
use Rattle.theory.specs.Carry.{stays}
use Rattle.kernel.specs.Link.{alpha}
use Rattle.orbit.specs.Flood.{axes}
use Rattle.sew.specs.Pairs.{Pairs, Wrong}
use Rattle.sew.proofs.Label.{front-start, front-more, front-stuck, front-end}
use Rattle.sew.proofs.Pairs.{pairs_fit, clash-wrong}
use Rattle.sew.proofs.pair.walk.Goals as goal

pub returns-in_err-tail : goal.returns-in_err-tail
returns-in_err-tail c =
    let a = c.args in
    rw c.from_residual.ensures
    (clash-wrong (alpha a.links.now) a.m (axes a.lo a.hi) a.n a.w.now 0 a.a a.b c.in_err-tail.ensures a.a a.b (λ q h. absurd (not-suc-le-zero h)) stays)

pub loop-head-init : goal.loop-head-init
loop-head-init c =
    let a = c.args in
    let K = c.in_ok-tail.ensures in
    (pairs_fit K.kept, front-start (alpha a.links.now) (alpha a.links.now) a.m (axes a.lo a.hi) (Pairs a.n) a.n a.a a.b K)

pub returns-in_err-tail-2 : goal.returns-in_err-tail-2
returns-in_err-tail-2 c =
    let a = c.args in
    let α = alpha a.links.now in
    let S = axes a.lo a.hi in
    rw c.from_residual-in_err-tail-2.ensures
    (front-stuck α α a.m S (Pairs a.n) a.n a.a a.b (Wrong α a.m S) c.get-e.result c.get-x.result c.loop-head.invariant.1 c.loop-head-test.true
    c.get-e.ensures.0 c.get-x.ensures.0 c.in_err-tail-2.ensures)

pub loop-head-preserved : goal.loop-head-preserved
loop-head-preserved c =
    let a = c.args in
    let α = alpha a.links.now in
    let K = c.in_ok-tail-2.ensures in (
      pairs_fit K.kept,
      front-more α α a.m (axes a.lo a.hi) (Pairs a.n) a.n a.a a.b c.get-e.result c.get-x.result c.loop-head.invariant.1 c.loop-head-test.true
          c.get-e.ensures.0 c.get-x.ensures.0 K,
    )

pub returns : goal.returns
returns c =
    let a = c.args in
    front-end (alpha a.links.now) (alpha a.links.now) a.m (axes a.lo a.hi) (Pairs a.n) a.n a.a a.b c.loop-head.invariant.1 (search rules)
