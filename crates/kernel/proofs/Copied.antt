-- A list whose first numbers are another's, one store a turn, and number by number.
--     copy_start, copy_more      before the first store, and one store more
--     copied-length              it is as long as before
--     copied-before, copied-past what stands in it
use Rattle.std.proofs.Common.{◌≡◌, ℕ, zero, suc, ◌+◌, ◌-◌, ◌<◌, ◌≤◌, List, [], ◌∷◌, length, get_or, take, drop, set, sym, refl, ap, ◌∙◌, le_of_suc-le-suc, not-suc-le-zero, add-one, arith, length-append, length-drop, length-take-le, get_or-drop, get_or-take, get_or-append-add}
use lib.ListN.{get_or-append}
use Rattle.kernel.specs.Copy.{copied}

module _ {A : Type 0} (z : A) where
  pub copy_start : (s l : List A) → l ≡ copied 0 s l
  unfolding copied
  copy_start s l = refl

  more : (i : ℕ) (s l : List A) → i < length s → i < length l → set (copied i s l) i (get_or s i z) ≡ copied (suc i) s l
  unfolding copied
  more i [] l a b = absurd (not-suc-le-zero a)
  more i (x ∷ s) [] a b = absurd (not-suc-le-zero b)
  more zero (x ∷ s) (y ∷ l) a b = refl
  more (suc i) (x ∷ s) (y ∷ l) a b = ap (λ (t : List A). x ∷ t) (more i s l (le_of_suc-le-suc a) (le_of_suc-le-suc b))

  pub copy_more : (i : ℕ) (s l t : List A) (x : A) → i < length s → i < length l → t ≡ copied i s l → x ≡ get_or s i z → set t i x ≡ copied (i + 1) s l
  copy_more i s l t x a b e f = (λ k. set (e k) i (f k)) ∙ more i s l a b ∙ ap (λ (k : ℕ). copied k s l) (sym (add-one i))

  module _ (n : ℕ) (s l : List A) (a : n ≤ length s) where
    pub copied-length : n ≤ length l → length (copied n s l) ≡ length l
    unfolding copied
    copied-length b =
        let p = length-take-le n s a in
        let q = length-drop n l in
        length-append (take n s) (drop n l) ∙ omega arith

    pub copied-before : (i : ℕ) → i < n → get_or (copied n s l) i z ≡ get_or s i z
    unfolding copied
    copied-before i h = let p = length-take-le n s a in get_or-append (take n s) (drop n l) z i (omega arith) ∙ get_or-take n s i z h

    pub copied-past : (i : ℕ) → n ≤ i → get_or (copied n s l) i z ≡ get_or l i z
    unfolding copied
    copied-past i h =
        let p = length-take-le n s a in
        let e : i ≡ length (take n s) + (i - n) = omega arith in
        let f : n + (i - n) ≡ i = omega arith in
        ap (λ (k : ℕ). get_or (copied n s l) k z) e ∙ get_or-append-add (take n s) (drop n l) (i - n) z ∙ get_or-drop n l (i - n) z ∙ ap (λ (k : ℕ). get_or l k z) f
