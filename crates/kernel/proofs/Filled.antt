-- A list that is filled with one value from a place on, one store a turn.
--     fill_start, fill_more      before the first store, and one store more
--     fill-all                   up to the list's end
--     fill-past                  up to a place from which it had that value
use Rattle.std.proofs.Common.{◌≡◌, ℕ, zero, suc, ◌+◌, ◌-◌, ◌<◌, ◌≤◌, List, [], ◌∷◌, ◌++◌, length, take, drop, set, replicate, sym, refl, ap, ◌∙◌, append-nil, le_of_suc-le-suc, not-suc-le-zero, suc-add, zero-add, add-one, arith, take-append-drop}
use native.Mathlib.Nat.{suc-sub-suc, sub-zero}
use lib.Seq.{drop-length}
use Rattle.kernel.specs.Blank.{filled, blanked}

module _ {A : Type 0} (z : A) where
  from_start : (i : ℕ) (l : List A) → i < length l → set (replicate i z ++ drop i l) i z ≡ replicate (suc i) z ++ drop (suc i) l
  from_start i [] h = absurd (not-suc-le-zero h)
  from_start zero (x ∷ l) h = refl
  from_start (suc i) (x ∷ l) h = ap (λ (t : List A). z ∷ t) (from_start i l (le_of_suc-le-suc h))

  more : (from i : ℕ) (l : List A) → from ≤ i → i < length l → set (filled z from i l) i z ≡ filled z from (suc i) l
  unfolding filled
  more zero i l f h = rw (sub-zero i, sub-zero (suc i)) (from_start i l h)
  more (suc from) i [] f h = absurd (not-suc-le-zero h)
  more (suc from) zero (x ∷ l) f h = absurd (not-suc-le-zero f)
  more (suc from) (suc i) (x ∷ l) f h = rw (suc-sub-suc i from, suc-sub-suc (suc i) from) (ap (λ (t : List A). x ∷ t) (more from i l (le_of_suc-le-suc f) (le_of_suc-le-suc h)))

  pub fill_start : (from : ℕ) (l : List A) → l ≡ filled z from from l
  unfolding filled
  fill_start from l = sym (ap (λ (k : ℕ). take from l ++ (replicate k z ++ drop from l)) (none from) ∙ take-append-drop from l)
    where
      none : (n : ℕ) → n - n ≡ 0
      none n = omega arith

  pub fill_more : (from i : ℕ) (l s : List A) → from ≤ i → i < length l → s ≡ filled z from i l → set s i z ≡ filled z from (i + 1) l
  fill_more from i l s f h e = ap (λ t. set t i z) e ∙ more from i l f h ∙ ap (λ k. filled z from k l) (sym (add-one i))

  pub fill-all : (from : ℕ) (l : List A) → filled z from (length l) l ≡ blanked z from l
  unfolding filled
  fill-all from l = rw drop-length (ap (λ t. take from l ++ t) (append-nil _))

  -- where l has z from `to` on
  pub fill-past : (from to : ℕ) (l : List A) → from ≤ to → to ≤ length l → drop to l ≡ replicate (length l - to) z → filled z from to l ≡ blanked z from l
  unfolding filled
  fill-past from to l a b e =
      let k : (to - from) + (length l - to) ≡ length l - from = omega arith in
      ap (λ t. take from l ++ (replicate (to - from) z ++ t)) e
      ∙ ap (λ t. take from l ++ t) (replicates (to - from) (length l - to) ∙ ap (λ (n : ℕ). replicate n z) k)
    where
      replicates : (i j : ℕ) → replicate i z ++ replicate j z ≡ replicate (i + j) z
      replicates zero j = ap (λ (n : ℕ). replicate n z) (sym (zero-add j))
      replicates (suc i) j = rw suc-add (ap (λ (t : List A). z ∷ t) (replicates i j))
