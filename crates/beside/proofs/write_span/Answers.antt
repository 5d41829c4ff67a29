use Rattle.std.proofs.Common.{◌+◌, ◌*◌, ◌≤◌, ◌∙◌, arith}
use Rattle.paper.specs.Width.{span_limit, pair_width}
use Rattle.paper.specs.Span.{ends_of}
use Rattle.paper.specs.Table.{row_at}
use Rattle.kernel.proofs.Signed.{back}
use Rattle.span.specs.Row.{span_from}
use Rattle.span.proofs.Row.{row-ends-few}
use Rattle.beside.specs.Beside.{Over}
use Rattle.beside.proofs.Cutting.{left-rises}
use Rattle.beside.proofs.Counting.{Under, under, over, span_to}
use Rattle.beside.proofs.Writing.{put-start, put-room, put-pass, put-more, put_last}
use Rattle.beside.proofs.write_span.Goals as goal
use Rattle.beside.proofs.write_span.Goals.{In-loop-cut}

left : (c : In-loop-cut) → let a = c.args in
    Under (ends_of (row_at a.spans.now a.e)) c.loop-cut.end (span_from a.spans.now a.at).hi
left c =
    let a = c.args in
    let f = c.at-head in
    under (ends_of (row_at a.spans.now a.e)) a.ends c.loop-cut.end c.requires.cuttable.many (back f.result f.type_inv ∙ f.ensures) c.is_below.ensures c.loop-cut-test.true

pub loop-cut-init : goal.loop-cut-init
loop-cut-init c =
    let a = c.args in
    let r = c.requires.cuttable in
    let f = c.at-foot in
    put-start a.places.now a.d a.m a.op.now a.x (span_from a.spans.now a.at) (ends_of (row_at a.spans.now a.e)) a.j
    (omega (arith, r.many, r.passed)) (back f.result f.type_inv ∙ f.ensures)

pub end_at-cut-requires : goal.end_at-cut-requires
end_at-cut-requires c =
    (c.requires.cuttable.row, (left (goal.at.end_at-cut-requires c).In-loop-cut).0)

pub overflow_add-end : goal.overflow_add-end
overflow_add-end c =
    omega (arith, (left (goal.at.overflow_add-end c).In-loop-cut).0, row-ends-few c.args.spans.now c.args.e c.requires.cuttable.row)

pub loop-cut-smaller-then-cut-foot : goal.loop-cut-smaller-then-cut-foot
loop-cut-smaller-then-cut-foot c =
    omega (arith, (left (goal.at.loop-cut-smaller-then-cut-foot c).In-loop-cut).0, c.requires.cuttable.many)

pub loop-cut-preserved-then-cut-foot : goal.loop-cut-preserved-then-cut-foot
loop-cut-preserved-then-cut-foot c =
    let g = c.end_at-cut in
    put-pass c.loop-cut.invariant (left (goal.at.loop-cut-preserved-then-cut-foot c).In-loop-cut) (back g.result g.type_inv ∙ g.ensures) c.if-cut-foot.true

pub overflow_mul-pieces : goal.overflow_mul-pieces
overflow_mul-pieces c =
    let few : c.loop-cut.pieces ≤ pair_width * span_limit = let S = c.loop-cut.invariant.cut in
    omega (arith, S.few, S.within.1, row-ends-few c.args.spans.now c.args.e c.requires.cuttable.row) in
    omega (arith, few)

pub overflow_add-x : goal.overflow_add-x
overflow_add-x c = omega (arith, c.loop-cut.invariant.cut.left, c.requires.writable.few)

pub put_pair-requires : goal.put_pair-requires
put_pair-requires c =
    let r = c.requires.writable in
    (put-room c.loop-cut.invariant r.room, r.place)

pub overflow_add-pieces : goal.overflow_add-pieces
overflow_add-pieces c =
    let few : c.loop-cut.pieces ≤ pair_width * span_limit = let S = c.loop-cut.invariant.cut in
    omega (arith, S.few, S.within.1, row-ends-few c.args.spans.now c.args.e c.requires.cuttable.row) in
    omega (arith, few)

pub loop-cut-smaller : goal.loop-cut-smaller
loop-cut-smaller c =
    omega (arith, (left (goal.at.loop-cut-smaller c).In-loop-cut).0, c.requires.cuttable.many)

pub loop-cut-preserved : goal.loop-cut-preserved
loop-cut-preserved c =
    let g = c.end_at-cut in
    put-more c.loop-cut.invariant (left (goal.at.loop-cut-preserved c).In-loop-cut) (back g.result g.type_inv ∙ g.ensures) c.if-cut-foot.false c.put_pair.ensures

pub overflow_mul-pieces-2 : goal.overflow_mul-pieces-2
overflow_mul-pieces-2 c =
    let few : c.loop-cut.pieces ≤ pair_width * span_limit = let S = c.loop-cut.invariant.cut in
    omega (arith, S.few, S.within.1, row-ends-few c.args.spans.now c.args.e c.requires.cuttable.row) in
    omega (arith, few)

pub overflow_add-x-2 : goal.overflow_add-x-2
overflow_add-x-2 c = omega (arith, c.loop-cut.invariant.cut.left, c.requires.writable.few)

pub put_pair-requires-2 : goal.put_pair-requires-2
put_pair-requires-2 c =
    let r = c.requires.writable in
    (put-room c.loop-cut.invariant r.room, r.place)

pub overflow_add-result : goal.overflow_add-result
overflow_add-result c =
    let few : c.loop-cut.pieces ≤ pair_width * span_limit = let S = c.loop-cut.invariant.cut in
    omega (arith, S.few, S.within.1, row-ends-few c.args.spans.now c.args.e c.requires.cuttable.row) in
    omega (arith, few)

pub shape_of-op : goal.shape_of-op
shape_of-op c = c.put_pair-2.auto.op ∙ c.loop-cut.invariant.same

pub returns : goal.returns
returns c =
    let none : let a = c.args in
    Over (ends_of (row_at a.spans.now a.e)) c.loop-cut.end (span_from a.spans.now a.at).hi = let a = c.args in
    let f = c.at-head in
    over (ends_of (row_at a.spans.now a.e)) a.ends c.loop-cut.end c.requires.cuttable.many (back f.result f.type_inv ∙ f.ensures) c.is_below.ensures c.loop-cut-test.false in
    let f = c.at-head in
    let a = c.args in
    let r = left-rises a.spans.now a.e c.loop-cut.end c.requires.cuttable.order in record { cut_to = span_to c.loop-cut.invariant.cut r (none) (c.loop-cut.pieces + 1) (omega arith); op_after = put_last c.loop-cut.invariant (back f.result f.type_inv ∙ f.ensures) c.put_pair-2.ensures r (none) }
