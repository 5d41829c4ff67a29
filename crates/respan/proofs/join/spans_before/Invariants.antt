use Rattle.std.proofs.Common.{◌≡◌, ◌+◌, drop}
use Rattle.paper.specs.Table.{row_at}
use Rattle.respan.specs.Splice.{before}
use Rattle.respan.proofs.join.spans_before.Given as goal

abbrev pub invariant-loop-j : goal.invariant-loop-j
invariant-loop-j l = l.j + before l.lo (drop l.j (row_at l.spans l.d)) ≡ before l.lo (row_at l.spans l.d)
