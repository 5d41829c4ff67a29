use Rattle.std.proofs.Common.{◌+◌, ◌*◌}
use Rattle.paper.specs.Width.{span_width}
use Rattle.paper.specs.Span.{ends_of}
use Rattle.paper.specs.Table.{row_at}
use Rattle.beside.proofs.Writing.{RowPut}
use Rattle.beside.proofs.write_row.Given as goal

abbrev pub invariant-loop-i : goal.invariant-loop-i
invariant-loop-i l =
    RowPut l.places l.d l.m l.initial.op l.op l.x l.spans (l.d * span_width + 1) l.all (ends_of (row_at l.spans l.e)) l.i l.pieces l.end
