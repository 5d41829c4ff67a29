use Rattle.ends.proofs.Gathering.{Gathering}
use Rattle.ends.proofs.gather.gather.Given as goal

abbrev pub invariant-loop-q : goal.invariant-loop-q
invariant-loop-q l = Gathering l.initial.v l.v l.room l.spans l.work l.from l.to l.half l.ends l.q
