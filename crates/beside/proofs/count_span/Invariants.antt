use Rattle.std.proofs.Common.{◌-◌}
use Rattle.paper.specs.Span.{ends_of}
use Rattle.paper.specs.Table.{row_at}
use Rattle.span.specs.Row.{span_from}
use Rattle.beside.proofs.Counting.{SpanCut}
use Rattle.beside.proofs.count_span.Given as goal

abbrev pub invariant-loop-t : goal.invariant-loop-t
invariant-loop-t l = SpanCut (span_from l.spans l.at) (ends_of (row_at l.spans l.e)) l.j 1 l.foot l.pieces l.end

abbrev pub decreases-loop-t : goal.decreases-loop-t
decreases-loop-t l = l.ends - l.end
