use Rattle.std.proofs.Common.{ℕ, get_or, ℤ, pos, sym, refl, ◌∙◌}
use Rattle.paper.specs.Width.{span_width}
use Rattle.hold.specs.Rows.{row_put, rows_put}
use Rattle.orbit.specs.Sparse.{queue}
use Rattle.orbit.proofs.Sparse.{queue_part}
use Rattle.respan.proofs.Fill.{rows_next}
use Rattle.respan.proofs.splice.put_rows.Goals as goal

pub loop-d-init : goal.loop-d-init
loop-d-init c = unfold rows_put in refl

pub loop-d-preserved : goal.loop-d-preserved
loop-d-preserved c =
    let L = c.loop-d in
    let a = c.args in
    let g : ℕ → ℤ = λ i. get_or a.row.now i (pos 0) in
    let e = c.from.ensures ∙ queue_part a.n a.t a.w.now L.d-index c.loop-d-test.true in
    c.put_row.ensures
    ∙ (λ k. row_put span_width (e k) g span_width (L.invariant k))
    ∙ sym (rows_next span_width (queue a.n a.w.now) g L.d-index a.spans.now)
