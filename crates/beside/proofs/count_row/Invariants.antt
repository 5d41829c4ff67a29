use Rattle.std.proofs.Common.{◌+◌, ◌*◌}
use Rattle.paper.specs.Width.{span_width}
use Rattle.paper.specs.Span.{ends_of}
use Rattle.paper.specs.Table.{row_at}
use Rattle.beside.proofs.Counting.{RowCut}
use Rattle.beside.proofs.count_row.Given as goal

abbrev pub invariant-loop-i : goal.invariant-loop-i
invariant-loop-i l = RowCut l.spans (l.d * span_width + 1) l.all (ends_of (row_at l.spans l.e)) l.i l.pieces l.end
