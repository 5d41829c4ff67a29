use Rattle.std.proofs.Common.{◌≡◌}
use Rattle.paper.specs.Call.{free_in}
use Rattle.table.proofs.Bits.{byte}
use Rattle.table.proofs.free.free_axes.Given as goal

abbrev pub invariant-loop-i : goal.invariant-loop-i
invariant-loop-i l = l.bits ≡ byte (free_in l.links l.dart) l.i
