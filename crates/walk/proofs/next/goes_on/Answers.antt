use Rattle.std.proofs.Common.{◌≡◌, ◌+◌, ◌*◌, false, ap, ◌∙◌, arith}
use Rattle.paper.specs.Width.{per_span, span_width}
use Rattle.paper.specs.Span.{covers}
use Rattle.kernel.proofs.Signed.{back}
use Rattle.span.specs.Row.{span_from}
use Rattle.ends.specs.Key.{height_of, key_at}
use Rattle.walk.proofs.Walking.{row-few, in_row, probed-again, last-piece}
use Rattle.walk.proofs.next.goes_on.Goals as goal

pub returns-then-n-end : goal.returns-then-n-end
returns-then-n-end c = let r = c.requires in last-piece r.0 r.1 c.if-n-end.true

pub overflow_mul-at-2 : goal.overflow_mul-at-2
overflow_mul-at-2 c =
    let r = c.requires in
    omega (arith, in_row r.0 r.1, row-few _ _ r.0.row)

pub overflow_add-at-2 : goal.overflow_add-at-2
overflow_add-at-2 c =
    let r = c.requires in
    omega (arith, in_row r.0 r.1, row-few _ _ r.0.row)

pub covers_at-requires : goal.covers_at-requires
covers_at-requires c =
    let r = c.requires in
    omega (arith, in_row r.0 r.1, row-few _ _ r.0.row)

pub returns : goal.returns
returns c =
    let asked : c.covers_at.result ≡ covers
    (span_from c.args.spans.now
    (c.args.d * span_width + 1 + c.args.span * per_span))
    (height_of (key_at c.args.v.now c.args.p (c.args.end + 2)))
    false = let x = span_from c.args.spans.now (c.args.d * span_width + 1 + c.args.span * per_span) in
    c.covers_at.ensures ∙ ap (λ z. covers x z false) (back c.height-head.result c.height-head.type_inv ∙ c.height-head.ensures ∙ ap height_of c.get_end.ensures.0) in
    let r = c.requires in
    probed-again r.0 r.1 c.if-n-end.false (asked)
