use Rattle.std.proofs.Common.{◌≡◌, ◌+◌, drop}
use Rattle.paper.specs.Table.{row_at}
use Rattle.respan.specs.Splice.{met}
use Rattle.respan.proofs.join.spans_met.Given as goal

abbrev pub invariant-loop-j : goal.invariant-loop-j
invariant-loop-j l = l.j + met l.hi (drop l.j (row_at l.spans l.d)) ≡ l.a + met l.hi (drop l.a (row_at l.spans l.d))
