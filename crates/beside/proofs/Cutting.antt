-- Spans cut at ends that ascend: an end outside of a span cuts nothing of it.
--     cut-some         a cut leaves a piece at least
--     cut_below        an end at the foot or below it cuts nothing
--     cut_inside       an end between them
--     left-rises       what is left of the ends of a row in order ascends
--     cut-last         where the next end is at the head or above, or none is left, nothing is cut any more
--     row-skip         ends below the foot of a row's first span can be left out
--     cut-few          how many pieces a row has at most
use Rattle.std.proofs.Common.{◌≡◌, ℕ, zero, suc, ◌+◌, ◌-◌, ◌<◌, ◌≤◌, Bool, true, false, cond, ◌&&◌, List, [], ◌∷◌, length, get_or, drop, ℤ, pos, sym, refl, ap, ◌∙◌, ⊎_elim, suc-le-suc, le_trans, add-zero, mul-le-mul, arith, drop_of_length-le}
use lib.Signed.{lt_z, le_z}
use Rattle.paper.specs.Map.{Span}
use Rattle.paper.specs.Span.{starts_from, ordered, ends_of}
use Rattle.paper.specs.Table.{row_at}
use Rattle.theory.specs.Ascending.{Above, Ascends}
use Rattle.theory.proofs.Order.{Z-order, le_out, asym, le-le}
use Rattle.theory.proofs.Row.{ordered-parts, starts-less, row-rises}
use Rattle.kernel.proofs.Part.{drop-next}
use Rattle.span.specs.Row.{RowIn}
use Rattle.span.proofs.Row.{row-few, row-ends-few}
use Rattle.number.specs.Beside.{cut_span, cut_row}
use Rattle.number.proofs.CutRow.{cut-row-short}
use Rattle.beside.specs.Beside.{piece_limit, Over}

-- ---- a span
pub cut-some : (a b : ℤ) (T : List ℤ) → 1 ≤ length (cut_span a b T)
unfolding cut_span
cut-some a b [] = omega arith
cut-some a b (t ∷ T) = go (lt_z a t && lt_z t b) (cut-some a b T)
  where
    go : (c : Bool) → 1 ≤ length (cut_span a b T) → 1 ≤ length (cond c (record { lo = a; hi = t } ∷ cut_span t b T) (cut_span a b T))
    go true h = omega arith
    go false h = h

pub cut_below : (a b t : ℤ) (T : List ℤ) → lt_z a t ≡ false → cut_span a b (t ∷ T) ≡ cut_span a b T
unfolding cut_span
cut_below a b t T h = rw h

cut-above : (a b t : ℤ) (T : List ℤ) → lt_z t b ≡ false → cut_span a b (t ∷ T) ≡ cut_span a b T
unfolding cut_span
cut-above a b t T h = rw (h, off (lt_z a t))
  where
    off : (c : Bool) → (c && false) ≡ false
    off true = refl
    off false = refl

pub cut_inside : (a b t : ℤ) (T : List ℤ) → lt_z a t ≡ true → lt_z t b ≡ true → cut_span a b (t ∷ T) ≡ record { lo = a; hi = t } ∷ cut_span t b T
unfolding cut_span
cut_inside a b t T h k = rw (h, k)

rise-drop : (j : ℕ) (T : List ℤ) → Ascends le_z T → Ascends le_z (drop j T)
rise-drop zero T r = r
rise-drop (suc j) [] r = tt
rise-drop (suc j) (t ∷ T) r = rise-drop j T r.1

pub left-rises : (s : List ℤ) (e j : ℕ) → ordered (row_at s e) ≡ true → Ascends le_z (drop j (ends_of (row_at s e)))
left-rises s e j o = rise-drop j (ends_of (row_at s e)) (row-rises (row_at s e) o)

over-all : (a b t : ℤ) (T : List ℤ) → lt_z t b ≡ false → Above le_z t T → cut_span a b T ≡ record { lo = a; hi = b } ∷ []
over-all a b t [] h r = unfold cut_span in refl
over-all a b t (y ∷ T) h r = cut-above a b y T (le-le lt_z Z-order b t y h (le_out t y r.0)) ∙ over-all a b t T h r.1

pub cut-last : (a b : ℤ) (T : List ℤ) (j : ℕ) → Ascends le_z (drop j T) → Over T j b
    → cut_span a b (drop j T) ≡ record { lo = a; hi = b } ∷ []
cut-last a b T j r = ⊎_elim
    (λ h. ap (cut_span a b) (drop_of_length-le T h) ∙ (unfold cut_span in refl))
    (λ h. let e = drop-next (pos 0) T j h.0 in
    let q : Ascends le_z (get_or T j (pos 0) ∷ drop (j + 1) T) = rw e at r in
    ap (cut_span a b) e ∙ cut-above a b (get_or T j (pos 0)) (drop (j + 1) T) h.1 ∙ over-all a b (get_or T j (pos 0)) (drop (j + 1) T) h.1 q.0)

-- ---- a row
row-pass : (t : ℤ) (r : List Span) (T : List ℤ) → ordered r ≡ true → starts_from t r ≡ true → cut_row r (t ∷ T) ≡ cut_row r T
unfolding cut_row
row-pass t [] T o q = refl
row-pass t (x ∷ r) T o q =
    let a = ordered-parts x r o in
    let h = le_out t x.lo q in
    let k = le-le lt_z Z-order t x.lo x.hi h (asym lt_z Z-order x.lo x.hi a.0) in
    rw (cut_below x.lo x.hi t T h, row-pass t r T a.2 (starts-less t x.hi r k a.1))

skip : (k j : ℕ) (h : ℤ) (r : List Span) (T : List ℤ) → ordered r ≡ true → starts_from h r ≡ true → j + k ≤ length T
    → ((i : ℕ) → j ≤ i → i < j + k → lt_z (get_or T i (pos 0)) h ≡ true) → cut_row r (drop j T) ≡ cut_row r (drop (j + k) T)
skip zero j h r T o q l f = rw (add-zero j)
skip (suc k) j h r T o q l f =
    let t = get_or T j (pos 0) in
    let e : j + suc k ≡ j + 1 + k = omega arith in
    ap (cut_row r) (drop-next (pos 0) T j (omega arith))
    ∙ row-pass t r (drop (j + 1) T) o (starts-less t h r (asym lt_z Z-order t h (f j (omega arith) (omega arith))) q)
    ∙ skip k (j + 1) h r T o q (omega arith) (λ i a b. f i (omega arith) (omega arith))
    ∙ ap (λ (n : ℕ). cut_row r (drop n T)) (sym e)

pub row-skip : (j end : ℕ) (h : ℤ) (r : List Span) (T : List ℤ) → ordered r ≡ true → starts_from h r ≡ true → (j ≤ end) × (end ≤ length T)
    → ((i : ℕ) → j ≤ i → i < end → lt_z (get_or T i (pos 0)) h ≡ true) → cut_row r (drop j T) ≡ cut_row r (drop end T)
row-skip j end h r T o q l f =
    let a = l.0 in
    let b = l.1 in
    let e : j + (end - j) ≡ end = omega arith in
    skip (end - j) j h r T o q (omega arith) (λ i u v. f i u (omega arith)) ∙ ap (λ (n : ℕ). cut_row r (drop n T)) e

pub cut-few : (s : List ℤ) (d e : ℕ) → RowIn s d → RowIn s e → length (cut_row (row_at s d) (ends_of (row_at s e))) ≤ piece_limit
cut-few s d e D E = le_trans (cut-row-short (row_at s d) (ends_of (row_at s e))) (mul-le-mul (row-few s d D) (suc-le-suc (row-ends-few s e E)))
