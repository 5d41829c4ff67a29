use Rattle.std.proofs.Common.{◌-◌}
use Rattle.places.proofs.Writing.{Writing}
use Rattle.places.proofs.write_places.Given as goal

abbrev pub invariant-loop-stop : goal.invariant-loop-stop
invariant-loop-stop l = Writing l.initial.op l.op l.x l.v l.p l.n l.spans l.places l.d l.m l.stop.end l.stop.span l.count

abbrev pub decreases-loop-stop : goal.decreases-loop-stop
decreases-loop-stop l = l.n - l.stop.end
