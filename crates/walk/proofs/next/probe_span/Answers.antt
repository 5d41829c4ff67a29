use Rattle.std.proofs.Common.{◌+◌, false, get_or, pos, ap, ◌∙◌, arith}
use Rattle.paper.specs.Span.{covers}
use Rattle.kernel.proofs.Signed.{back}
use Rattle.span.specs.Row.{span_from}
use Rattle.ends.specs.Key.{height_of, key_at}
use Rattle.walk.proofs.Walking.{row-few, last_end, probed}
use Rattle.walk.proofs.next.probe_span.Goals as goal

pub key_at-requires : goal.key_at-requires
key_at-requires c = let f = row-few _ _ c.requires.0.row in omega arith

pub returns-then-n-end : goal.returns-then-n-end
returns-then-n-end c =
    let r = c.requires in
    last_end r.0 r.1.1.0 (c.key_at.ensures.0 ∙ ap (λ x. get_or c.args.spans.now x (pos 0)) r.1.1.1) c.seek-end.ensures c.if-n-end.true

pub covers_at-covers-requires : goal.covers_at-covers-requires
covers_at-covers-requires c = let f = row-few _ _ c.requires.0.row in omega arith

pub returns : goal.returns
returns c =
    let r = c.requires in
    let s = c.args.spans.now in
    let x = span_from s c.args.at in
    let t = back c.height-head.result c.height-head.type_inv ∙ c.height-head.ensures ∙ ap height_of c.get_end.ensures.0 in
    let f = height_of (key_at c.args.v.now c.args.p (c.seek-end.result + 1)) in
    probed r.0 r.1.1.0 (c.key_at.ensures.0 ∙ ap (λ y. get_or s y (pos 0)) r.1.1.1) c.seek-end.ensures c.if-n-end.false
    (c.covers_at-covers.ensures ∙ ap (λ z. covers x z false) t ∙ ap (λ y. covers (span_from s y) f false) r.1.1.1)
