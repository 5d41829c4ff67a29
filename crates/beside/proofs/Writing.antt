-- The pieces of a span written end by end, and those of a row span by span: what is written, and the write of those that are left, is the whole.
--     SpanPut          the write of a span's pieces as far as it is
--     put-start, put-pass, put-more    no end is passed; an end at the foot or below it; one above it
--     put-room, put_last       there is room for a pair; the last piece
--     RowPut           the write of a row's pieces as far as it is
--     row-begun, row-put, row-all       no span is written, one more, and all
--     row_room         there is room for the pairs of a span
use Rattle.std.proofs.Common.{◌≡◌, ℕ, suc, ◌+◌, ◌-◌, ◌*◌, ◌<◌, ◌≤◌, true, false, List, [], ◌∷◌, ◌++◌, length, get_or, drop, ℤ, pos, sym, refl, ap, ◌∙◌, arith, length-append}
use lib.Signed.{le_z}
use Rattle.paper.specs.Width.{place_width, per_span}
use Rattle.paper.specs.Map.{Span}
use Rattle.paper.specs.Span.{ordered}
use Rattle.theory.specs.Ascending.{Ascends}
use Rattle.span.specs.Row.{span_from, spans_from}
use Rattle.number.specs.Beside.{cut_span, cut_row}
use Rattle.places.specs.Write.{put_pair, put_pieces, Writable, Wrote}
use Rattle.places.proofs.Writing.{pair-length}
use Rattle.places.proofs.Read.{pieces-length}
use Rattle.beside.specs.Beside.{Over, CutTo}
use Rattle.beside.proofs.Cutting.{cut-some, cut-last}
use Rattle.beside.proofs.Counting.{Under, cut-pass, cut-next, SpanCut, span-start, span-pass, span_more, RowCut, row-start, row-split, row_next, row_more, row_done}

module _ (places : List ℤ) (d m : ℕ) where
  -- some pieces, and others behind them
  pieces-append : (P Q : List Span) (x : ℕ) (op : List ℤ)
      → put_pieces places d m (P ++ Q) x op ≡ put_pieces places d m Q (x + length P * 2) (put_pieces places d m P x op)
  unfolding put_pieces
  pieces-append [] Q x op = let e : x + 0 * 2 ≡ x = omega arith in rw e
  pieces-append (q ∷ P) Q x op =
      let e : x + suc (length P) * 2 ≡ x + 2 + length P * 2 = omega arith in
      rw e (pieces-append P Q (x + 2) (put_pair places d m q.lo q.hi x op))

-- ---- a span
pub record SpanPut (places : List ℤ) (d m : ℕ) (op₀ op : List ℤ) (y : ℕ) (x : Span) (T : List ℤ) (j : ℕ) (foot : ℤ) (n end : ℕ) : Type 0 where
  pub cut : SpanCut x T j 0 foot n end
  pub same : length op ≡ length op₀
  pub whole : put_pieces places d m (cut_span foot x.hi (drop end T)) (y + n * 2) op ≡ put_pieces places d m (cut_span x.lo x.hi (drop j T)) y op₀

pub put-start : (places : List ℤ) (d m : ℕ) (op : List ℤ) (y : ℕ) (x : Span) (T : List ℤ) (j : ℕ) {foot : ℤ} → j ≤ length T → foot ≡ x.lo
    → SpanPut places d m op op y x T j foot 0 j
put-start places d m op y x T j h e =
    let z : y + 0 * 2 ≡ y = omega arith in
    record { cut = span-start x T j 0 h e; same = refl; whole = rw (z, e) }

module _ {places : List ℤ} {d m : ℕ} {op₀ op : List ℤ} {y : ℕ} {x : Span} {T : List ℤ} {j : ℕ} {foot : ℤ} {n end : ℕ}
    (S : SpanPut places d m op₀ op y x T j foot n end) where
  pub put-room : (y + length (cut_span x.lo x.hi (drop j T)) * 2) * place_width ≤ length op₀ → (y + n * 2 + 2) * place_width ≤ length op
  put-room h =
      let l = S.cut.left in
      let s = S.same in
      let o = cut-some foot x.hi (drop end T) in
      omega arith

  module _ (u : Under T end x.hi) {t : ℤ} (e : t ≡ get_or T end (pos 0)) where
    pub put-pass : le_z t foot ≡ true → SpanPut places d m op₀ op y x T j foot n (end + 1)
    put-pass l = record { cut = span-pass S.cut u e l; same = S.same; whole = rw (← cut-pass foot x.hi T end u.0 e l) S.whole }

    pub put-more : le_z t foot ≡ false → {op' : List ℤ} → op' ≡ put_pair places d m foot t (y + n * 2) op → SpanPut places d m op₀ op' y x T j t (n + 1) (end + 1)
    unfolding put_pieces
    put-more l {op'} w =
        let z : y + (n + 1) * 2 ≡ y + n * 2 + 2 = omega arith in
        record {
          cut = span_more S.cut u e l;
          same = ap length w ∙ pair-length places d m foot t (y + n * 2) op ∙ S.same;
          whole = rw (z, w) (rw (cut-next foot x.hi T end u e l) at S.whole);
        }

  pub put_last : {op' : List ℤ} {g : ℤ} → g ≡ x.hi → op' ≡ put_pair places d m foot g (y + n * 2) op → Ascends le_z (drop end T) → Over T end x.hi
      → op' ≡ put_pieces places d m (cut_span x.lo x.hi (drop j T)) y op₀
  unfolding put_pieces
  put_last e w r o = w ∙ rw e (rw (cut-last foot x.hi T end r o) at S.whole)

-- ---- a row
pub record RowPut (places : List ℤ) (d m : ℕ) (op₀ op : List ℤ) (y : ℕ) (s : List ℤ) (at c : ℕ) (T : List ℤ) (i n end : ℕ) : Type 0 where
  pub cut : RowCut s at c T i n end
  pub same : length op ≡ length op₀
  pub whole : put_pieces places d m (cut_row (spans_from s (at + i * per_span) (c - i)) (drop end T)) (y + n * 2) op ≡ put_pieces places d m (cut_row (spans_from s at c) T) y op₀

pub row-begun : (places : List ℤ) (d m : ℕ) (op : List ℤ) (y : ℕ) (s : List ℤ) (at c : ℕ) (T : List ℤ) → ordered (spans_from s at c) ≡ true
    → RowPut places d m op op y s at c T 0 0 0
row-begun places d m op y s at c T o =
    let z : y + 0 * 2 ≡ y = omega arith in
    let a : at + 0 * per_span ≡ at = omega arith in
    let b : c - 0 ≡ c = omega arith in
    record { cut = row-start s at c T o; same = refl; whole = rw (z, a, b) }

module _ {places : List ℤ} {d m : ℕ} {op₀ op : List ℤ} {y : ℕ} {s : List ℤ} {at c : ℕ} {T : List ℤ} {i n end : ℕ}
    (R : RowPut places d m op₀ op y s at c T i n end) where
  module _ (h : i < c) where
    -- the pieces of the next span
    abbrev own : List Span
    own = cut_span (span_from s (at + i * per_span)).lo (span_from s (at + i * per_span)).hi (drop end T)

    pub row_room : Writable op₀ y (cut_row (spans_from s at c) T) places d → Writable op (y + n * 2) own places d
    row_room W =
        let rest = cut_row (spans_from s (at + (i + 1) * per_span) (c - (i + 1))) (drop end T) in
        let a = ap length (row-split R.cut h) ∙ length-append own rest in
        let l = R.cut.left in
        let q = R.same in
        let g = W.few in
        let b = W.room in
        record { place = W.place; few = omega arith; room = omega arith }

    pub row-put : {p end' : ℕ} → CutTo (span_from s (at + i * per_span)) T end p end' → {op' : List ℤ} → op' ≡ put_pieces places d m own (y + n * 2) op
        → RowPut places d m op₀ op' y s at c T (i + 1) (n + p) end'
    row-put {p} {end'} C {op'} w =
        let rest = cut_row (spans_from s (at + (i + 1) * per_span) (c - (i + 1))) (drop end' T) in
        let z : y + n * 2 + length own * 2 ≡ y + (n + p) * 2 = omega (arith, C.pieces) in
        record {
          cut = row_more R.cut h C;
          same = ap length w ∙ pieces-length places d m own (y + n * 2) op ∙ R.same;
          whole =
              rw w (rw (← z) (sym (pieces-append places d m own rest (y + n * 2) op)))
              ∙ ap (λ (P : List Span). put_pieces places d m P (y + n * 2) op) (sym (row_next R.cut h C))
              ∙ R.whole;
        }

  pub row-all : c ≤ i → Wrote places d m (cut_row (spans_from s at c) T) y op₀ op n
  unfolding spans_from cut_row put_pieces
  row-all h = let z : c - i ≡ 0 = omega arith in (row_done R.cut h, rw z at R.whole)
