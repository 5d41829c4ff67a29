-- Two rows of a table, the one cut by the ends of the other.
--     rows-order, rows_few     the first is in order, and has few pieces
--     rows_cut         its pieces
--     rows_next        its next span can be cut
use Rattle.std.proofs.Common.{◌≡◌, ℕ, ◌+◌, ◌*◌, ◌<◌, ◌≤◌, true, List, length, get_or, ℤ, pos, nat_abs, sym, ap, subst, arith}
use Rattle.paper.specs.Width.{per_span, span_width}
use Rattle.paper.specs.Map.{Span}
use Rattle.paper.specs.Span.{ordered, ends_of}
use Rattle.paper.specs.Table.{row_at}
use Rattle.span.specs.Row.{spans_from}
use Rattle.span.proofs.Row.{row-few}
use Rattle.number.specs.Beside.{cut_row}
use Rattle.places.proofs.Spans.{row-spans, row-long}
use Rattle.beside.specs.Beside.{TwoRows, Cuttable, piece_limit}
use Rattle.beside.proofs.Cutting.{cut-few}
use Rattle.beside.proofs.Counting.{RowCut}

module _ {s : List ℤ} {d e c : ℕ} (R : TwoRows s d e) (k : c ≡ nat_abs (get_or s (d * span_width) (pos 0))) where
  pub rows-order : ordered (spans_from s (d * span_width + 1) c) ≡ true
  rows-order = subst (λ (r : List Span). ordered r ≡ true) (row-spans R.own k) R.order

  pub rows_cut : cut_row (spans_from s (d * span_width + 1) c) (ends_of (row_at s e)) ≡ cut_row (row_at s d) (ends_of (row_at s e))
  rows_cut = ap (λ (r : List Span). cut_row r (ends_of (row_at s e))) (sym (row-spans R.own k))

  pub rows_few : length (cut_row (spans_from s (d * span_width + 1) c) (ends_of (row_at s e))) ≤ piece_limit
  rows_few = let l = ap length rows_cut in omega (arith, l, cut-few s d e R.own R.other)

  pub rows_next : {i n end ends : ℕ} → RowCut s (d * span_width + 1) c (ends_of (row_at s e)) i n end → i < c → ends ≡ length (ends_of (row_at s e))
      → Cuttable s (d * span_width + 1 + i * per_span) e ends end
  rows_next C h m =
      let l = row-long R.own k in
      let f = row-few s d R.own in
      let g = R.own.fits in
      let p = C.passed in
      record { span = omega arith; row = R.other; order = R.other_order; many = m; passed = omega arith }
