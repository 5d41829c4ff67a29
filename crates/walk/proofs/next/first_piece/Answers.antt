use Rattle.std.proofs.Common.{◌≡◌, length, ◌∙◌, inl, inr, arith}
use Rattle.paper.specs.Table.{row_at}
use Rattle.span.proofs.Row.{row_count}
use Rattle.walk.proofs.Walking.{row-few, past_all, at-span, onward, behind}
use Rattle.walk.proofs.next.first_piece.Goals as goal

pub returns-then-left-eq0 : goal.returns-then-left-eq0
returns-then-left-eq0 c =
    let all : c.row_length-left.result ≡ length (row_at c.args.spans.now c.args.d) = c.row_length-left.ensures.0 ∙ row_count _ _ c.requires.row in
    past_all (omega arith) (inr (omega (arith, all, c.if-left-eq0.true)))

pub returns-then-n-le1 : goal.returns-then-n-le1
returns-then-n-le1 c = past_all (omega arith) (inl c.if-n-le1.true)

pub probe_span-probe-requires : goal.probe_span-probe-requires
probe_span-probe-requires c =
    let all : c.row_length-left.result ≡ length (row_at c.args.spans.now c.args.d) = c.row_length-left.ensures.0 ∙ row_count _ _ c.requires.row in
    (c.requires, (omega (arith, c.if-n-le1.false), (omega (arith, all, c.if-left-eq0.false), omega arith)))

pub returns-then-probe : goal.returns-then-probe
returns-then-probe c = at-span c.probe_span-probe.ensures c.if-probe.true

pub returns-then-left-eq1 : goal.returns-then-left-eq1
returns-then-left-eq1 c =
    let all : c.row_length-left.result ≡ length (row_at c.args.spans.now c.args.d) = c.row_length-left.ensures.0 ∙ row_count _ _ c.requires.row in
    onward c.probe_span-probe.ensures c.if-probe.false (past_all (omega (arith, c.probe_span-probe.ensures.within)) (inr (omega (arith, all, c.if-left-eq1.true))))

pub overflow_add-at-2 : goal.overflow_add-at-2
overflow_add-at-2 c =
    let f = row-few _ _ c.requires.row in
    omega arith

pub descend-found-requires : goal.descend-found-requires
descend-found-requires c =
    let all : c.row_length-left.result ≡ length (row_at c.args.spans.now c.args.d) = c.row_length-left.ensures.0 ∙ row_count _ _ c.requires.row in
    let k = c.if-left-eq0.false in
    let e = all in
    let h = c.if-left-eq1.false in
    (c.requires, (c.probe_span-probe.ensures.within, (omega arith, (omega arith, omega arith))))

pub overflow_sub-result : goal.overflow_sub-result
overflow_sub-result c = omega (arith, c.descend-found.ensures.1)

pub returns : goal.returns
returns c =
    let all : c.row_length-left.result ≡ length (row_at c.args.spans.now c.args.d) = c.row_length-left.ensures.0 ∙ row_count _ _ c.requires.row in
    onward c.probe_span-probe.ensures c.if-probe.false (behind {j = 0} c.descend-found.result.left (all) (omega (arith, c.if-left-eq0.false)) c.descend-found.ensures.0)
