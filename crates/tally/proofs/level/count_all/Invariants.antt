use Rattle.std.proofs.Common.{◌≤◌}
use Rattle.tally.proofs.Levels.{Rising}
use Rattle.tally.proofs.level.count_all.Given as goal

abbrev pub invariant-loop-k : goal.invariant-loop-k
invariant-loop-k l = Rising l.m l.n l.links l.spans l.initial.w l.initial.v l.room l.w l.v l.total l.k × (l.total ≤ l.room)
