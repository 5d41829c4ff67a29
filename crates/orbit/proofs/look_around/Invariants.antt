use Rattle.kernel.specs.Link.{alpha}
use Rattle.orbit.specs.Flood.{axes}
use Rattle.orbit.proofs.Front.{LookedBelow}
use Rattle.orbit.proofs.look_around.Given as goal

abbrev pub invariant-loop-j : goal.invariant-loop-j
invariant-loop-j l = LookedBelow (alpha l.links) l.m (axes l.lo l.hi) l.n l.e l.j l.initial.work l.t l.work l.u
