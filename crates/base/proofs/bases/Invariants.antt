use Rattle.base.proofs.Slots.{Summed}
use Rattle.base.proofs.bases.Given as goal

abbrev pub invariant-loop-d : goal.invariant-loop-d
invariant-loop-d l = Summed l.initial.w l.w l.n l.d l.sum
