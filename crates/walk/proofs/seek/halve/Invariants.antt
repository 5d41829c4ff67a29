use Rattle.std.proofs.Common.{◌-◌}
use Rattle.walk.proofs.Seeking.{Bracket}
use Rattle.walk.proofs.seek.halve.Given as goal

abbrev pub invariant-loop-from : goal.invariant-loop-from
invariant-loop-from l = Bracket l.v l.p l.n l.i l.lo l.from l.to

abbrev pub decreases-loop-from : goal.decreases-loop-from
decreases-loop-from l = l.to - l.from
