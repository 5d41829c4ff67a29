use Rattle.std.proofs.Common.{◌-◌}
use Rattle.walk.proofs.Walking.{Counting}
use Rattle.walk.proofs.count.count_pieces.Given as goal

abbrev pub invariant-loop-stop : goal.invariant-loop-stop
invariant-loop-stop l = Counting l.v l.p l.n l.spans l.d l.stop.end l.stop.span l.pieces

abbrev pub decreases-loop-stop : goal.decreases-loop-stop
decreases-loop-stop l = l.n - l.stop.end
