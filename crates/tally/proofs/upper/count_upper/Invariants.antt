use Rattle.std.proofs.Common.{◌≤◌}
use Rattle.tally.proofs.Uppers.{Uppering}
use Rattle.tally.proofs.upper.count_upper.Given as goal

abbrev pub invariant-loop-d : goal.invariant-loop-d
invariant-loop-d l = Uppering l.m l.n l.links l.spans l.initial.w l.w l.sum l.d × (l.sum ≤ l.room)
