use Rattle.std.proofs.Common.{◌-◌, ◌≤◌}
use Rattle.kernel.specs.Link.{alpha}
use Rattle.orbit.specs.Flood.{axes}
use Rattle.sew.specs.Pairs.{Pairs}
use Rattle.sew.proofs.Label.{Front}
use Rattle.sew.proofs.pair.walk.Given as goal

abbrev pub invariant-loop-head : goal.invariant-loop-head
invariant-loop-head l =
    (l.tail ≤ l.n) × Front (alpha l.links) (alpha l.links) l.m (axes l.lo l.hi) (Pairs l.n) l.n l.a l.b l.w l.head l.tail

abbrev pub decreases-loop-head : goal.decreases-loop-head
decreases-loop-head l = l.n - l.head
