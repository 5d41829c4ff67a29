use Rattle.std.proofs.Common.{refl, ◌∙◌, arith}
use Rattle.paper.specs.Span.{ends_of}
use Rattle.paper.specs.Table.{row_at}
use Rattle.kernel.proofs.Signed.{back}
use Rattle.span.specs.Row.{span_from}
use Rattle.span.proofs.Row.{row-ends-few}
use Rattle.beside.proofs.Cutting.{left-rises}
use Rattle.beside.proofs.Counting.{Under, under, over, span-start, span-pass, span_more, span_to}
use Rattle.beside.proofs.count_span.Goals as goal
use Rattle.beside.proofs.count_span.Goals.{In-loop-t}

left : (c : In-loop-t) → let a = c.args in
    Under (ends_of (row_at a.spans.now a.e)) c.loop-t.end (span_from a.spans.now a.at).hi
left c =
    let a = c.args in
    let f = c.at-head in
    under (ends_of (row_at a.spans.now a.e)) a.ends c.loop-t.end c.requires.many (back f.result f.type_inv ∙ f.ensures) c.is_below.ensures c.loop-t-test.true

pub loop-t-init : goal.loop-t-init
loop-t-init c =
    let a = c.args in
    let r = c.requires in
    let f = c.at-foot in
    span-start (span_from a.spans.now a.at) (ends_of (row_at a.spans.now a.e)) a.j 1 (omega (arith, r.many, r.passed)) (back f.result f.type_inv ∙ f.ensures)

pub end_at-t-requires : goal.end_at-t-requires
end_at-t-requires c =
    (c.requires.row, (left (goal.at.end_at-t-requires c).In-loop-t).0)

pub overflow_add-end : goal.overflow_add-end
overflow_add-end c =
    omega (arith, (left (goal.at.overflow_add-end c).In-loop-t).0, row-ends-few c.args.spans.now c.args.e c.requires.row)

pub loop-t-smaller-then-t-foot : goal.loop-t-smaller-then-t-foot
loop-t-smaller-then-t-foot c =
    omega (arith, (left (goal.at.loop-t-smaller-then-t-foot c).In-loop-t).0, c.requires.many)

pub loop-t-preserved-then-t-foot : goal.loop-t-preserved-then-t-foot
loop-t-preserved-then-t-foot c =
    let g = c.end_at-t in
    span-pass c.loop-t.invariant (left (goal.at.loop-t-preserved-then-t-foot c).In-loop-t) (back g.result g.type_inv ∙ g.ensures) c.if-t-foot.true

pub overflow_add-pieces : goal.overflow_add-pieces
overflow_add-pieces c =
    let S = c.loop-t.invariant in
    omega (arith, S.few, S.within.1, row-ends-few c.args.spans.now c.args.e c.requires.row)

pub loop-t-smaller : goal.loop-t-smaller
loop-t-smaller c =
    omega (arith, (left (goal.at.loop-t-smaller c).In-loop-t).0, c.requires.many)

pub loop-t-preserved : goal.loop-t-preserved
loop-t-preserved c =
    let g = c.end_at-t in
    span_more c.loop-t.invariant (left (goal.at.loop-t-preserved c).In-loop-t) (back g.result g.type_inv ∙ g.ensures) c.if-t-foot.false

pub returns : goal.returns
returns c =
    let a = c.args in
    let f = c.at-head in
    let T = ends_of (row_at a.spans.now a.e) in
    span_to c.loop-t.invariant (left-rises a.spans.now a.e c.loop-t.end c.requires.order)
    (over T a.ends c.loop-t.end c.requires.many (back f.result f.type_inv ∙ f.ensures) c.is_below.ensures c.loop-t-test.false) c.loop-t.pieces refl
