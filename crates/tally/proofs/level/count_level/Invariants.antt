use Rattle.tally.proofs.Levels.{Sweeping}
use Rattle.tally.proofs.level.count_level.Given as goal

abbrev pub invariant-loop-d : goal.invariant-loop-d
invariant-loop-d l = Sweeping l.m l.n l.k l.links l.spans l.initial.w l.initial.v l.room l.w l.v l.t l.sum l.d
