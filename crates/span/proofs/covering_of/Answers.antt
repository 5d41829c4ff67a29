use Rattle.std.proofs.Common.{◌≡◌, ◌+◌, ◌*◌, sym, ap, ◌∙◌, arith, to_z-of_z}
use Rattle.paper.specs.Width.{span_width}
use Rattle.paper.specs.Span.{covering}
use Rattle.paper.specs.Table.{row_at}
use Rattle.span.specs.Row.{spans_from, left_of}
use Rattle.span.proofs.Row.{row_from, row_count}
use Rattle.span.proofs.Covering.{left_le, told_none, told-some}
use Rattle.span.proofs.covering_of.Goals as goal

pub returns-then-left-eq0 : goal.returns-then-left-eq0
returns-then-left-eq0 c =
    let left : let a = c.args in c.search-left.result ≡ left_of c.row_length-all.result (covering (row_at a.spans.now a.d) a.t a.up) = let a = c.args in
    let r = c.row_length-all in
    let e = simp (to_z-of_z c.ranges.t) at c.search-left.ensures in
    e ∙ ap (λ l. left_of r.result (covering l a.t a.up)) (ap (spans_from a.spans.now (a.d * span_width + 1)) r.ensures.0 ∙ sym (row_from a.spans.now a.d c.requires.counted)) in
    let a = c.args in
    let n = sym (row_count a.spans.now a.d c.requires) ∙ sym c.row_length-all.ensures.0 in
    sym (told_none c.row_length-all.result (row_at a.spans.now a.d) a.t a.up n (sym (left) ∙ c.if-left-eq0.true))

pub overflow_sub-result : goal.overflow_sub-result
overflow_sub-result c =
    let left : let a = c.args in c.search-left.result ≡ left_of c.row_length-all.result (covering (row_at a.spans.now a.d) a.t a.up) = let a = c.args in
    let r = c.row_length-all in
    let e = simp (to_z-of_z c.ranges.t) at c.search-left.ensures in
    e ∙ ap (λ l. left_of r.result (covering l a.t a.up)) (ap (spans_from a.spans.now (a.d * span_width + 1)) r.ensures.0 ∙ sym (row_from a.spans.now a.d c.requires.counted)) in
    let a = c.args in
    let e = left in
    let h = left_le c.row_length-all.result (covering (row_at a.spans.now a.d) a.t a.up) in
    omega arith

pub returns : goal.returns
returns c =
    let left : let a = c.args in c.search-left.result ≡ left_of c.row_length-all.result (covering (row_at a.spans.now a.d) a.t a.up) = let a = c.args in
    let r = c.row_length-all in
    let e = simp (to_z-of_z c.ranges.t) at c.search-left.ensures in
    e ∙ ap (λ l. left_of r.result (covering l a.t a.up)) (ap (spans_from a.spans.now (a.d * span_width + 1)) r.ensures.0 ∙ sym (row_from a.spans.now a.d c.requires.counted)) in
    let a = c.args in
    let n = sym (row_count a.spans.now a.d c.requires) ∙ sym c.row_length-all.ensures.0 in
    sym (told-some c.row_length-all.result c.search-left.result (row_at a.spans.now a.d) a.t a.up n (left) c.if-left-eq0.false)
