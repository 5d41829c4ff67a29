-- Parts of a list.
--     part-next, part_none     the next member, or none
--     part_in, part_out        the members, by their places
--     drop-next                what is left of a list, from its next member on
use Rattle.std.proofs.Common.{◌≡◌, ℕ, zero, suc, ◌+◌, ◌-◌, ◌<◌, ◌≤◌, List, [], ◌∷◌, length, get_or, drop, sym, ap, ◌∙◌, ⊎_elim, eq-or-lt_of_le, add-one, arith, drop-cons}
use mathlib.Core.List.Memᴰ
use mathlib.Core.List.{Memᴰ}
use Rattle.kernel.specs.Part.{part}

module _ {A : Type 0} (z : A) (l : List A) where
  pub part-next : (at j c : ℕ) → j < c → part z l (at + j) (c - j) ≡ get_or l (at + j) z ∷ part z l (at + (j + 1)) (c - (j + 1))
  unfolding part
  part-next at j c h =
      let e : c - j ≡ suc (c - (j + 1)) = omega arith in
      let f : at + (j + 1) ≡ suc (at + j) = omega arith in
      rw (e, f)

  pub part_none : (at j c : ℕ) → c ≤ j → part z l (at + j) (c - j) ≡ []
  unfolding part
  part_none at j c h = let e : c - j ≡ 0 = omega arith in rw e

  pub part_in : (i n q : ℕ) → i ≤ q → q < i + n → Memᴰ (get_or l q z) (part z l i n)
  unfolding part
  part_in i zero q a b = let f : ⊥ = omega arith in absurd f
  part_in i (suc n) q a b = ⊎_elim (λ (e : i ≡ q). Memᴰ.head (ap (λ k. get_or l k z) (sym e)))
      (λ h. Memᴰ.tail (part_in (suc i) n q (omega arith) (omega arith))) (eq-or-lt_of_le a)

  pub part_out : (i n : ℕ) (x : A) → Memᴰ x (part z l i n) → (q : ℕ) × (i ≤ q) × (q < i + n) × (x ≡ get_or l q z)
  unfolding part
  part_out i zero x h = absurd (Memᴰ.not-nil h)
  part_out i (suc n) x h = ⊎_elim (λ e. (i, omega arith, omega arith, e))
      (λ u. let r = part_out (suc i) n x u in let a = r.1 in let b = r.2 in (r.0, omega arith, omega arith, r.3)) (Memᴰ.cases_cons h)

  pub drop-next : (j : ℕ) → j < length l → drop j l ≡ get_or l j z ∷ drop (j + 1) l
  drop-next j h = drop-cons l j z h ∙ ap (λ (k : ℕ). get_or l j z ∷ drop k l) (sym (add-one j))
