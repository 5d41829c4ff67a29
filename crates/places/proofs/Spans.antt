-- The spans of a row written one after the other: what is written, and the write of those that are left, is the whole.
--     Spanning         the write as far as it is
--     start, more      it begins with all to do; a span
--     room             there is room for the pair of a span
--     done             no span is left
use Rattle.std.proofs.Common.{◌≡◌, ℕ, ◌+◌, ◌-◌, ◌*◌, ◌<◌, ◌≤◌, List, length, get_or, ℤ, pos, nat_abs, sym, refl, ap, ◌∙◌, arith}
use Rattle.paper.specs.Width.{place_width, per_span, span_width}
use Rattle.paper.specs.Table.{row_at}
use Rattle.span.specs.Row.{spans_from, RowIn}
use Rattle.span.proofs.Row.{row_from, spans-next, row_count}
use Rattle.places.specs.Write.{put_pair, put_pieces}
use Rattle.places.proofs.Writing.{pair-length}

pub record Spanning (op₀ op : List ℤ) (x : ℕ) (s : List ℤ) (at c : ℕ) (places : List ℤ) (d m j : ℕ) : Type 0 where
  pub within : j ≤ c
  pub same : length op ≡ length op₀
  pub whole : put_pieces places d m (spans_from s (at + j * per_span) (c - j)) (x + j * 2) op ≡ put_pieces places d m (spans_from s at c) x op₀

pub start : (op : List ℤ) (x : ℕ) (s : List ℤ) (at c : ℕ) (places : List ℤ) (d m : ℕ) → Spanning op op x s at c places d m 0
start op x s at c places d m =
    let h : x + 0 * 2 ≡ x = omega arith in
    let k : at + 0 * per_span ≡ at = omega arith in
    let l : c - 0 ≡ c = omega arith in
    record { within = omega arith; same = refl; whole = rw (h, k, l) }

module _ {op₀ op : List ℤ} {x : ℕ} {s : List ℤ} {at c : ℕ} {places : List ℤ} {d m j : ℕ} (W : Spanning op₀ op x s at c places d m j) where
  pub room : j < c → (x + c * 2) * place_width ≤ length op₀ → (x + j * 2 + 2) * place_width ≤ length op
  room h l = let e = W.same in omega arith

  pub more : j < c → {op' : List ℤ} {f g : ℤ} → f ≡ get_or s (at + j * per_span) (pos 0) → g ≡ get_or s (at + j * per_span + 1) (pos 0)
      → op' ≡ put_pair places d m f g (x + j * 2) op → Spanning op₀ op' x s at c places d m (j + 1)
  unfolding put_pieces
  more h {op'} {f} {g} ef eg eq =
      let y : x + (j + 1) * 2 ≡ x + j * 2 + 2 = omega arith in
      let o : op' ≡ put_pair places d m (get_or s (at + j * per_span) (pos 0)) (get_or s (at + j * per_span + 1) (pos 0)) (x + j * 2) op = rw (← ef, ← eg) eq in
      record {
        within = omega arith;
        same = ap length eq ∙ pair-length places d m f g (x + j * 2) op ∙ W.same;
        whole = rw (y, o) (rw (spans-next s at c j h) at W.whole);
      }

  pub done : c ≤ j → op ≡ put_pieces places d m (spans_from s at c) x op₀
  unfolding spans_from put_pieces
  done h = let z : c - j ≡ 0 = omega arith in rw z at W.whole

-- ---- the row
module _ {s : List ℤ} {d c : ℕ} (R : RowIn s d) (e : c ≡ nat_abs (get_or s (d * span_width) (pos 0))) where
  pub row-spans : row_at s d ≡ spans_from s (d * span_width + 1) c
  row-spans = row_from s d R.counted ∙ ap (spans_from s (d * span_width + 1)) (sym e)

  pub row-long : c ≡ length (row_at s d)
  row-long = e ∙ row_count s d R
