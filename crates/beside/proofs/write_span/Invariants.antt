use Rattle.std.proofs.Common.{◌-◌}
use Rattle.paper.specs.Span.{ends_of}
use Rattle.paper.specs.Table.{row_at}
use Rattle.span.specs.Row.{span_from}
use Rattle.beside.proofs.Writing.{SpanPut}
use Rattle.beside.proofs.write_span.Given as goal

abbrev pub invariant-loop-cut : goal.invariant-loop-cut
invariant-loop-cut l =
    SpanPut l.places l.d l.m l.initial.op l.op l.x (span_from l.spans l.at) (ends_of (row_at l.spans l.e)) l.j l.foot l.pieces l.end

abbrev pub decreases-loop-cut : goal.decreases-loop-cut
decreases-loop-cut l = l.ends - l.end
