-- The numbers below n, looked through for one that passes a test.
--     none_in, none_below       none passes, told of each and of all
--     first-here, first-none    the first that passes
--     first-same, first_off     two tests that agree below n, and a test that fails there
--     and_left, and_right       a test of two parts that fails by one of them
use Rattle.std.proofs.Common.{◌≡◌, ℕ, zero, suc, ◌<◌, ◌≤◌, Bool, true, false, cond, ◌&&◌, ltb, refl, ⊎_elim, le_refl, le_antisymm, arith, ltb-false, ltb-true}
use Rattle.paper.specs.Below.{any_below, first_below}
use Rattle.theory.proofs.Bool.{clash, decided, not-true}
use Rattle.theory.proofs.Below.{any-in, any_out, first-le, first_passes, first-before, first_found}

pub and_left : (a b : Bool) → a ≡ false → (a && b) ≡ false
and_left a b e = rw e refl

pub and_right : (a b : Bool) → b ≡ false → (a && b) ≡ false
and_right true b e = e
and_right false b e = refl

module _ (p : ℕ → Bool) where
  pub none_below : (i : ℕ) → any_below i p ≡ false → (j : ℕ) → j < i → p j ≡ false
  none_below i e j h = not-true (p j) (λ t. clash (any-in i p j h t) e)

  pub none_in : (n : ℕ) → ((j : ℕ) → j < n → p j ≡ false) → any_below n p ≡ false
  none_in n f = not-true (any_below n p) (λ t. let r = any_out n p t in clash r.2 (f r.0 r.1))

  pub first-here : (n i : ℕ) → any_below i p ≡ false → i < n → p i ≡ true → i ≡ first_below n p
  first-here n i e h t =
      le_antisymm
      (⊎_elim (λ q. absurd (clash (first_passes n p (let a = first_found n p i h t in omega arith)) (none_below i e (first_below n p) (ltb-true (first_below n p) i q)))) (λ q. ltb-false (first_below n p) i q)
      (decided (ltb (first_below n p) i)))
      (first_found n p i h t)

  pub first-none : (n : ℕ) → any_below n p ≡ false → n ≡ first_below n p
  first-none n e =
      le_antisymm
      (⊎_elim (λ q. let h = ltb-true (first_below n p) n q in absurd (clash (first_passes n p h) (none_below n e (first_below n p) h))) (λ q. ltb-false (first_below n p) n q)
      (decided (ltb (first_below n p) n)))
      (first-le n p)

  pub first_off : (n : ℕ) → n ≤ first_below n p → (d : ℕ) → d < n → p d ≡ false
  first_off n h d l = first-before n p d (omega arith)

pub first-same : (n : ℕ) (p q : ℕ → Bool) → ((d : ℕ) → d < n → p d ≡ q d) → first_below n p ≡ first_below n q
unfolding first_below
first-same zero p q e = refl
first-same (suc n) p q e =
    let r = first-same n p q (λ d h. e d (omega arith)) in
    let s = e n (le_refl (suc n)) in
    λ i. cond (ltb (r i) n) (r i) (cond (s i) n (suc n))
