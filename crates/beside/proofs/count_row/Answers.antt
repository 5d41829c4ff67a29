use Rattle.std.proofs.Common.{◌+◌, ◌*◌, length, ap, ◌∙◌, arith}
use Rattle.paper.specs.Width.{span_width}
use Rattle.paper.specs.Span.{ends_of}
use Rattle.paper.specs.Table.{row_at}
use Rattle.beside.proofs.Counting.{RowCut, row-start, row_more, row_done}
use Rattle.beside.proofs.Rows.{rows-order, rows_cut, rows_few, rows_next}
use Rattle.beside.proofs.count_row.Goals as goal

pub loop-i-init : goal.loop-i-init
loop-i-init c =
    let a = c.args in
    let k = c.row_length-all in
    row-start a.spans.now (a.d * span_width + 1) k.result (ends_of (row_at a.spans.now a.e)) (rows-order c.requires k.ensures.0)

pub count_span-r-requires : goal.count_span-r-requires
count_span-r-requires c =
    rows_next c.requires c.row_length-all.ensures.0 c.loop-i.invariant c.loop-i-test.true c.end_count-ends.ensures.0

pub overflow_add-pieces : goal.overflow_add-pieces
overflow_add-pieces c =
    let more : let a = c.args in
    RowCut a.spans.now (a.d * span_width + 1) c.row_length-all.result (ends_of (row_at a.spans.now a.e))
    (c.loop-i.i + 1) (c.loop-i.pieces + c.count_span-r.result.pieces) c.count_span-r.result.end = row_more c.loop-i.invariant c.loop-i-test.true c.count_span-r.ensures in
    omega (arith, (more).left, rows_few c.requires c.row_length-all.ensures.0)

pub loop-i-preserved : goal.loop-i-preserved
loop-i-preserved c =
    let more : let a = c.args in
    RowCut a.spans.now (a.d * span_width + 1) c.row_length-all.result (ends_of (row_at a.spans.now a.e))
    (c.loop-i.i + 1) (c.loop-i.pieces + c.count_span-r.result.pieces) c.count_span-r.result.end = row_more c.loop-i.invariant c.loop-i-test.true c.count_span-r.ensures in
    more

pub returns : goal.returns
returns c =
    row_done c.loop-i.invariant c.loop-i-test.false ∙ ap length (rows_cut c.requires c.row_length-all.ensures.0)
