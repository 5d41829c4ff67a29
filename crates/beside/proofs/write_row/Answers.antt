use Rattle.std.proofs.Common.{◌+◌, ◌*◌, ◌≤◌, List, sym, subst, arith}
use Rattle.paper.specs.Width.{span_width}
use Rattle.paper.specs.Map.{Span}
use Rattle.paper.specs.Span.{ends_of}
use Rattle.paper.specs.Table.{row_at}
use Rattle.places.specs.Write.{Writable, Wrote}
use Rattle.beside.specs.Beside.{piece_limit}
use Rattle.beside.proofs.Writing.{RowPut, row-begun, row-put, row_room, row-all}
use Rattle.beside.proofs.Rows.{rows-order, rows_cut, rows_few, rows_next}
use Rattle.beside.proofs.write_row.Goals as goal

pub loop-i-init : goal.loop-i-init
loop-i-init c =
    let a = c.args in
    let k = c.row_length-all in
    row-begun a.places.now a.d a.m a.op.now a.x a.spans.now (a.d * span_width + 1) k.result (ends_of (row_at a.spans.now a.e))
    (rows-order c.requires.two_rows k.ensures.0)

pub overflow_mul-pieces : goal.overflow_mul-pieces
overflow_mul-pieces c =
    let few : c.loop-i.pieces ≤ piece_limit = omega (arith, c.loop-i.invariant.cut.left, rows_few c.requires.two_rows c.row_length-all.ensures.0) in
    omega (arith, few)

pub overflow_add-x : goal.overflow_add-x
overflow_add-x c =
    let few : c.loop-i.pieces ≤ piece_limit = omega (arith, c.loop-i.invariant.cut.left, rows_few c.requires.two_rows c.row_length-all.ensures.0) in
    omega (arith, few, c.requires.writable.few)

pub write_span-r-requires : goal.write_span-r-requires
write_span-r-requires c =
    let a = c.args in
    let k = c.row_length-all.ensures.0 in record {
      cuttable = rows_next c.requires.two_rows k c.loop-i.invariant.cut c.loop-i-test.true c.end_count-ends.ensures.0;
      writable = row_room c.loop-i.invariant c.loop-i-test.true
          (subst (λ (P : List Span). Writable a.op.now a.x P a.places.now a.d) (sym (rows_cut c.requires.two_rows k)) c.requires.writable);
    }

pub overflow_add-pieces : goal.overflow_add-pieces
overflow_add-pieces c =
    let more : let a = c.args in
    RowPut a.places.now a.d a.m a.op.now c.write_span-r.new.op a.x a.spans.now (a.d * span_width + 1) c.row_length-all.result
    (ends_of (row_at a.spans.now a.e)) (c.loop-i.i + 1) (c.loop-i.pieces + c.write_span-r.result.pieces) c.write_span-r.result.end = row-put c.loop-i.invariant c.loop-i-test.true c.write_span-r.ensures.cut_to c.write_span-r.ensures.op_after in
    omega (arith, (more).cut.left, rows_few c.requires.two_rows c.row_length-all.ensures.0)

pub loop-i-preserved : goal.loop-i-preserved
loop-i-preserved c =
    let more : let a = c.args in
    RowPut a.places.now a.d a.m a.op.now c.write_span-r.new.op a.x a.spans.now (a.d * span_width + 1) c.row_length-all.result
    (ends_of (row_at a.spans.now a.e)) (c.loop-i.i + 1) (c.loop-i.pieces + c.write_span-r.result.pieces) c.write_span-r.result.end = row-put c.loop-i.invariant c.loop-i-test.true c.write_span-r.ensures.cut_to c.write_span-r.ensures.op_after in
    more

pub shape_of-op : goal.shape_of-op
shape_of-op c = c.loop-i.invariant.same

pub returns : goal.returns
returns c =
    let a = c.args in
    subst (λ (P : List Span). Wrote a.places.now a.d a.m P a.x a.op.now c.loop-i.op c.loop-i.pieces)
    (rows_cut c.requires.two_rows c.row_length-all.ensures.0) (row-all c.loop-i.invariant c.loop-i-test.false)
