use Rattle.kernel.specs.Link.{alpha}
use Rattle.orbit.specs.Flood.{axes}
use Rattle.sew.specs.Pairs.{Pairs}
use Rattle.sew.proofs.Label.{Turned}
use Rattle.sew.proofs.pair.around.Given as goal

abbrev pub invariant-loop-j : goal.invariant-loop-j
invariant-loop-j l =
    Turned (alpha l.links) (alpha l.links) l.m (axes l.lo l.hi) (Pairs l.n) l.n l.e l.x l.j l.initial.w l.t l.w l.u
