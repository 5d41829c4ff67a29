-- The pieces of a span counted end by end, and those of a row span by span.
--     Under            an end is left and lies below a height
--     cut-pass, cut-next       the next end is passed, or cuts
--     under, over      what the test tells
--     SpanCut          the pieces of a span as far as they are counted; the count starts at k
--     span-start, span-pass, span_more     no end is passed; an end at the foot or below it; one above it
--     span_to          no end below the head is left: what the cut tells
--     RowCut           the pieces of a row as far as they are counted
--     row-split, row_next      the next span, and those behind it, which need not ask the ends below its head
--     row-start, row_more, row_done        no span is counted, one more, and all
use Rattle.std.proofs.Common.{◌≡◌, ℕ, ◌+◌, ◌-◌, ◌*◌, ◌<◌, ◌≤◌, Bool, true, false, ◌&&◌, ltb, List, ◌∷◌, ◌++◌, length, get_or, drop, ℤ, pos, sym, refl, ap, ◌∙◌, subst, inl, inr, ⊎_elim, eq-or-lt_of_le, zero-add, arith, length-append, ltb-false, ltb-true}
use lib.Signed.{lt_z, le_z}
use Rattle.paper.specs.Width.{per_span}
use Rattle.paper.specs.Map.{Span}
use Rattle.paper.specs.Span.{starts_from, ordered}
use Rattle.theory.specs.Ascending.{Ascends}
use Rattle.theory.proofs.Bool.{decided, and_both, on}
use Rattle.theory.proofs.Order.{le_not, le_out}
use Rattle.theory.proofs.Row.{ordered-parts}
use Rattle.kernel.proofs.Part.{drop-next}
use Rattle.span.specs.Row.{span_from, spans_from}
use Rattle.span.proofs.Row.{spans-next}
use Rattle.number.specs.Beside.{cut_span, cut_row}
use Rattle.beside.specs.Beside.{Over, CutTo}
use Rattle.beside.proofs.Cutting.{cut_below, cut_inside, cut-last, row-skip}

-- ---- a span
abbrev pub Under : List ℤ → ℕ → ℤ → Type 0
Under T i b = (i < length T) × (lt_z (get_or T i (pos 0)) b ≡ true)

module _ (a b : ℤ) (T : List ℤ) (i : ℕ) where
  pub cut-pass : i < length T → {t : ℤ} → t ≡ get_or T i (pos 0) → le_z t a ≡ true → cut_span a b (drop i T) ≡ cut_span a b (drop (i + 1) T)
  cut-pass h {t} e l =
      ap (cut_span a b) (drop-next (pos 0) T i h) ∙ cut_below a b (get_or T i (pos 0)) (drop (i + 1) T) (subst (λ (z : ℤ). lt_z a z ≡ false) e (le_out t a l))

  pub cut-next : Under T i b → {t : ℤ} → t ≡ get_or T i (pos 0) → le_z t a ≡ false → cut_span a b (drop i T) ≡ record { lo = a; hi = t } ∷ cut_span t b (drop (i + 1) T)
  cut-next h {t} e l =
      ap (cut_span a b) (drop-next (pos 0) T i h.0 ∙ ap (λ (z : ℤ). z ∷ drop (i + 1) T) (sym e))
      ∙ cut_inside a b t (drop (i + 1) T) (on (lt_z a t) (sym (le_not t a) ∙ l)) (rw e h.1)

module _ (T : List ℤ) (n i : ℕ) {a b : ℤ} {r : Bool} (many : n ≡ length T) (e : a ≡ b) (f : r ≡ (ltb i n && lt_z (get_or T i (pos 0)) a)) where
  told : (ltb i n && lt_z (get_or T i (pos 0)) b) ≡ r
  told = sym (f ∙ ap (λ (z : ℤ). ltb i n && lt_z (get_or T i (pos 0)) z) e)

  pub under : r ≡ true → Under T i b
  under h = let p = and_both (ltb i n) (lt_z (get_or T i (pos 0)) b) (told ∙ h) in let q = ltb-true i n p.0 in (omega arith, p.1)

  pub over : r ≡ false → Over T i b
  over h = ⊎_elim (λ p. inr (let q = ltb-true i n p in omega arith, rw p at (told ∙ h))) (λ p. inl (let q = ltb-false i n p in omega arith)) (decided (ltb i n))

pub record SpanCut (x : Span) (T : List ℤ) (j k : ℕ) (foot : ℤ) (n end : ℕ) : Type 0 where
  pub within : (j ≤ end) × (end ≤ length T)
  -- an end makes a piece at most
  pub few : n + j ≤ k + end
  pub below : (i : ℕ) → j ≤ i → i < end → lt_z (get_or T i (pos 0)) x.hi ≡ true
  pub left : n + length (cut_span foot x.hi (drop end T)) ≡ k + length (cut_span x.lo x.hi (drop j T))

pub span-start : (x : Span) (T : List ℤ) (j k : ℕ) {foot : ℤ} → j ≤ length T → foot ≡ x.lo → SpanCut x T j k foot k j
span-start x T j k h e = record {
  within = (omega arith, h);
  few = omega arith;
  below = λ i a b. let f : ⊥ = omega arith in absurd f;
  left = rw e;
}

module _ {x : Span} {T : List ℤ} {j k : ℕ} {foot : ℤ} {n end : ℕ} (S : SpanCut x T j k foot n end) where
  module _ (u : Under T end x.hi) where
    below_more : (i : ℕ) → j ≤ i → i < end + 1 → lt_z (get_or T i (pos 0)) x.hi ≡ true
    below_more i a b =
        let l : i ≤ end = omega arith in
        ⊎_elim (λ (e : i ≡ end). subst (λ (q : ℕ). lt_z (get_or T q (pos 0)) x.hi ≡ true) (sym e) u.1) (S.below i a) (eq-or-lt_of_le l)

    pub span-pass : {t : ℤ} → t ≡ get_or T end (pos 0) → le_z t foot ≡ true → SpanCut x T j k foot n (end + 1)
    span-pass e l =
        let w = S.within.0 in
        let f = S.few in
        let g = u.0 in
        record {
          within = (omega arith, omega arith);
          few = omega arith;
          below = below_more;
          left = rw (← cut-pass foot x.hi T end g e l) S.left;
        }

    pub span_more : {t : ℤ} → t ≡ get_or T end (pos 0) → le_z t foot ≡ false → SpanCut x T j k t (n + 1) (end + 1)
    span_more {t} e l =
        let w = S.within.0 in
        let f = S.few in
        let g = u.0 in
        let c = ap length (cut-next foot x.hi T end u e l) in
        let r = S.left in
        record {
          within = (omega arith, omega arith);
          few = omega arith;
          below = below_more;
          left = omega arith;
        }

  module _ (r : Ascends le_z (drop end T)) (o : Over T end x.hi) where
    span-done : n + 1 ≡ k + length (cut_span x.lo x.hi (drop j T))
    span-done = let e = ap length (cut-last foot x.hi T end r o) in let l = S.left in omega arith

    pub span_to : (c : ℕ) → c + k ≡ n + 1 → CutTo x T j c end
    span_to c e = let l = span-done in record { within = S.within; pieces = omega arith; below = S.below; above = o }

-- ---- a row
pub record RowCut (s : List ℤ) (at c : ℕ) (T : List ℤ) (i n end : ℕ) : Type 0 where
  pub within : i ≤ c
  pub passed : end ≤ length T
  pub order : ordered (spans_from s (at + i * per_span) (c - i)) ≡ true
  pub left : n + length (cut_row (spans_from s (at + i * per_span) (c - i)) (drop end T)) ≡ length (cut_row (spans_from s at c) T)

pub row-start : (s : List ℤ) (at c : ℕ) (T : List ℤ) → ordered (spans_from s at c) ≡ true → RowCut s at c T 0 0 0
row-start s at c T o =
    let a : at + 0 * per_span ≡ at = omega arith in
    let b : c - 0 ≡ c = omega arith in
    record { within = omega arith; passed = omega arith; order = rw (a, b) o; left = rw (a, b) (zero-add _) }

module _ {s : List ℤ} {at c : ℕ} {T : List ℤ} {i n end : ℕ} (R : RowCut s at c T i n end) where
  module _ (h : i < c) where
    abbrev x : Span
    x = span_from s (at + i * per_span)

    abbrev rest : List Span
    rest = spans_from s (at + (i + 1) * per_span) (c - (i + 1))

    parts : (lt_z x.lo x.hi ≡ true) × (starts_from x.hi rest ≡ true) × (ordered rest ≡ true)
    parts = ordered-parts x rest (rw (spans-next s at c i h) at R.order)

    pub row-split : cut_row (spans_from s (at + i * per_span) (c - i)) (drop end T) ≡ cut_span x.lo x.hi (drop end T) ++ cut_row rest (drop end T)
    row-split = ap (λ (r : List Span). cut_row r (drop end T)) (spans-next s at c i h) ∙ (unfold cut_row in refl)

    module _ {p end' : ℕ} (C : CutTo (span_from s (at + i * per_span)) T end p end') where
      pub row_next : cut_row (spans_from s (at + i * per_span) (c - i)) (drop end T) ≡ cut_span x.lo x.hi (drop end T) ++ cut_row rest (drop end' T)
      row_next = row-split ∙ ap (λ (r : List Span). cut_span x.lo x.hi (drop end T) ++ r)
          (row-skip end end' x.hi rest T parts.2 parts.1 C.within C.below)

      pub row_more : RowCut s at c T (i + 1) (n + p) end'
      row_more =
          let a = ap length row_next ∙ length-append (cut_span x.lo x.hi (drop end T)) (cut_row rest (drop end' T)) in
          let l = R.left in
          let q = C.pieces in
          record { within = omega arith; passed = C.within.1; order = parts.2; left = omega arith }

  pub row_done : c ≤ i → n ≡ length (cut_row (spans_from s at c) T)
  unfolding spans_from cut_row
  row_done h = let z : c - i ≡ 0 = omega arith in let l = rw z at R.left in omega arith
