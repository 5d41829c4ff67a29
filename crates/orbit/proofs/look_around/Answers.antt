use Rattle.std.proofs.Common.{◌+◌, arith, rules}
use Rattle.kernel.specs.Link.{alpha}
use Rattle.orbit.specs.Flood.{axes}
use Rattle.orbit.proofs.Front.{turned_more, turned-all}
use Rattle.orbit.proofs.look_around.Goals as goal

pub loop-j-preserved : goal.loop-j-preserved
loop-j-preserved c =
    let L = c.loop-j in
    let a = c.args in
    let K = c.look-u in
    turned_more (alpha a.links.now) a.m (axes a.lo a.hi) a.n a.e a.work.now a.t L.j (search rules) L.invariant K.ensures

-- the last axis is m itself, and the loop ends behind it
pub returns-2 : goal.returns-2
returns-2 c =
    let L = c.loop-j in
    let a = c.args in
    turned-all _ _ _ _ _ _ _ (L.j + 1) (omega arith) (turned_more (alpha a.links.now) a.m (axes a.lo a.hi) a.n a.e a.work.now a.t L.j (search rules) L.invariant c.look-u.ensures)
