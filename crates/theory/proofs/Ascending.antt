-- Heights in ascending order, each once.
--     insert-ascends, insert-in, insert-out, insert-short             one height into its place
--     ascending-ascends, ascending-in, ascending-out, ascending-short     all heights of a list
use Rattle.std.proofs.Common.{◌≡◌, suc, ◌≤◌, Bool, true, false, ◌⊎◌, List, [], ◌∷◌, length, ℤ, refl, ◌∙◌, inl, inr, ⊎_elim, suc-le-suc, zero-le, le_refl, arith}
use mathlib.Core.List.Memᴰ
use lib.Signed.{lt_z}
use Rattle.paper.specs.Ends.{insert, ascending}
use Rattle.theory.specs.Member.{◌∈◌}
use Rattle.theory.specs.Ascending.{Above, Ascends}
use Rattle.theory.proofs.Order.{Z-order, above-trans}

above-insert : (x t : ℤ) (l : List ℤ) → lt_z x t ≡ true → Above lt_z x l → Above lt_z x (insert t l)
unfolding insert
above-insert x t [] h a = (h, tt)
above-insert x t (y ∷ l) h a = go (lt_z t y) (lt_z y t) (above-insert x t l h a.1)
  where
    go : (b c : Bool) → Above lt_z x (insert t l) → Above lt_z x (elim b [ true ↦ t ∷ (y ∷ l) | false ↦ elim c [ true ↦ y ∷ insert t l | false ↦ y ∷ l ] ])
    go true c r = (h, a)
    go false true r = (a.0, r)
    go false false r = a

insert-ascends : (t : ℤ) (l : List ℤ) → Ascends lt_z l → Ascends lt_z (insert t l)
unfolding insert
insert-ascends t [] s = (tt, tt)
insert-ascends t (x ∷ l) s = go (lt_z t x) (lt_z x t) refl refl (insert-ascends t l s.1)
  where
    go : (b c : Bool) → lt_z t x ≡ b → lt_z x t ≡ c → Ascends lt_z (insert t l)
        → Ascends lt_z (elim b [ true ↦ t ∷ (x ∷ l) | false ↦ elim c [ true ↦ x ∷ insert t l | false ↦ x ∷ l ] ])
    go true c p q r = ((p, above-trans lt_z Z-order t x l p s.0), s)
    go false true p q r = (above-insert x t l q s.0, r)
    go false false p q r = s

insert-in : (b t : ℤ) (l : List ℤ) → (b ≡ t) ⊎ (b ∈ l) → b ∈ insert t l
unfolding insert
insert-in b t [] h = ⊎_elim (λ e. Memᴰ.head e) (λ u. absurd (Memᴰ.not-nil u)) h
insert-in b t (x ∷ l) h = go (lt_z t x) (lt_z x t) refl refl (insert-in b t l) h
  where
    go : (c e : Bool) → lt_z t x ≡ c → lt_z x t ≡ e → ((b ≡ t) ⊎ (b ∈ l) → b ∈ insert t l) → (b ≡ t) ⊎ (b ∈ x ∷ l)
        → b ∈ elim c [ true ↦ t ∷ (x ∷ l) | false ↦ elim e [ true ↦ x ∷ insert t l | false ↦ x ∷ l ] ]
    go true e p q f (inl u) = Memᴰ.head u
    go true e p q f (inr u) = Memᴰ.tail u
    go false true p q f (inl u) = Memᴰ.tail (f (inl u))
    go false true p q f (inr u) = ⊎_elim (λ v. Memᴰ.head v) (λ v. Memᴰ.tail (f (inr v))) (Memᴰ.cases_cons u)
    go false false p q f (inl u) = Memᴰ.head (u ∙ Z-order.tri t x p q)
    go false false p q f (inr u) = u

insert-out : (b t : ℤ) (l : List ℤ) → b ∈ insert t l → (b ≡ t) ⊎ (b ∈ l)
unfolding insert
insert-out b t [] h = Memᴰ.cases_cons h
insert-out b t (x ∷ l) h = go (lt_z t x) (lt_z x t) (insert-out b t l) h
  where
    go : (c e : Bool) → (b ∈ insert t l → (b ≡ t) ⊎ (b ∈ l)) → b ∈ elim c [ true ↦ t ∷ (x ∷ l) | false ↦ elim e [ true ↦ x ∷ insert t l | false ↦ x ∷ l ] ]
        → (b ≡ t) ⊎ (b ∈ x ∷ l)
    go true e f h = Memᴰ.cases_cons h
    go false true f h = ⊎_elim (λ u. inr (Memᴰ.head u)) (λ u. ⊎_elim (λ v. inl v) (λ v. inr (Memᴰ.tail v)) (f u)) (Memᴰ.cases_cons h)
    go false false f h = inr h

pub ascending-ascends : (l : List ℤ) → Ascends lt_z (ascending l)
unfolding ascending
ascending-ascends [] = tt
ascending-ascends (t ∷ l) = insert-ascends t (ascending l) (ascending-ascends l)

pub ascending-in : (b : ℤ) (l : List ℤ) → b ∈ l → b ∈ ascending l
unfolding ascending
ascending-in b [] h = h
ascending-in b (t ∷ l) h = insert-in b t (ascending l) (⊎_elim (λ e. inl e) (λ u. inr (ascending-in b l u)) (Memᴰ.cases_cons h))

pub ascending-out : (b : ℤ) (l : List ℤ) → b ∈ ascending l → b ∈ l
unfolding ascending
ascending-out b [] h = h
ascending-out b (t ∷ l) h = ⊎_elim (λ e. Memᴰ.head e) (λ u. Memᴰ.tail (ascending-out b l u)) (insert-out b t (ascending l) h)

insert-short : (t : ℤ) (l : List ℤ) → length (insert t l) ≤ suc (length l)
unfolding insert
insert-short t [] = le_refl 1
insert-short t (x ∷ l) = go (lt_z t x) (lt_z x t) (insert-short t l)
  where
    go : (a b : Bool) → length (insert t l) ≤ suc (length l)
        → length {A = ℤ} (elim a [ true ↦ t ∷ (x ∷ l) | false ↦ elim b [ true ↦ x ∷ insert t l | false ↦ x ∷ l ] ]) ≤ suc (suc (length l))
    go true b h = le_refl _
    go false true h = suc-le-suc h
    go false false h = omega arith

pub ascending-short : (l : List ℤ) → length (ascending l) ≤ length l
unfolding ascending
ascending-short [] = zero-le
ascending-short (t ∷ l) = let a = insert-short t (ascending l) in let b = ascending-short l in omega arith
