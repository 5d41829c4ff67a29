use Rattle.std.proofs.Common.{◌≡◌, ◌-◌, length}
use Rattle.kernel.specs.Link.{alpha}
use Rattle.orbit.specs.Flood.{axes}
use Rattle.orbit.proofs.Front.{Front}
use Rattle.orbit.proofs.flood.Given as goal

abbrev pub invariant-loop-head : goal.invariant-loop-head
invariant-loop-head l = (length l.work ≡ length l.initial.work) × Front (alpha l.links) l.m (axes l.lo l.hi) l.n l.d l.initial.work l.t l.work l.head l.tail

abbrev pub decreases-loop-head : goal.decreases-loop-head
decreases-loop-head l = l.n - l.head
