-- Laws of sums.
--     sum_same, sum-le     numbers that agree, numbers that are no greater
--     sum-at               one number is at most the sum
--     sum-add              one number grows: so does the sum
--     sum-zero             a sum of zeros
--     sum_more             more numbers
use Rattle.std.proofs.Common.{◌≡◌, ℕ, zero, suc, ◌+◌, ◌<◌, ◌≤◌, refl, ap, subst, ⊎_elim, zero-le, le_refl, not-suc-le-zero, eq-or-lt_of_le, arith}
use Rattle.paper.specs.Below.{sum_below}
use Rattle.theory.proofs.Below.{less-cases}

pub sum_same : (n : ℕ) (f g : ℕ → ℕ) → ((d : ℕ) → d < n → f d ≡ g d) → sum_below n f ≡ sum_below n g
unfolding sum_below
sum_same zero f g e = refl
sum_same (suc n) f g e = λ i. e n (le_refl (suc n)) i + sum_same n f g (λ d h. e d (omega arith)) i

pub sum-le : (n : ℕ) (f g : ℕ → ℕ) → ((d : ℕ) → d < n → f d ≤ g d) → sum_below n f ≤ sum_below n g
unfolding sum_below
sum-le zero f g e = zero-le
sum-le (suc n) f g e = let a = e n (le_refl (suc n)) in let b = sum-le n f g (λ d h. e d (omega arith)) in omega arith

pub sum-at : (n : ℕ) (f : ℕ → ℕ) (e : ℕ) → e < n → f e ≤ sum_below n f
unfolding sum_below
sum-at zero f e h = absurd (not-suc-le-zero h)
sum-at (suc n) f e h = ⊎_elim
    (λ (p : e ≡ n). let q : f e ≡ f n = ap f p in omega arith)
    (λ l. let a = sum-at n f e l in omega arith)
    (less-cases h)

pub sum-add : (n : ℕ) (f g : ℕ → ℕ) (e x : ℕ) → e < n → g e ≡ f e + x → ((d : ℕ) → d < n → (d ≡ e → ⊥) → g d ≡ f d) → sum_below n g ≡ sum_below n f + x
unfolding sum_below
sum-add zero f g e x h p o = absurd (not-suc-le-zero h)
sum-add (suc n) f g e x h p o = ⊎_elim
    (λ (q : e ≡ n).
    let a : g n ≡ f n + x = subst (λ (k : ℕ). g k ≡ f k + x) q p in
    let b = sum_same n g f (λ d l. o d (omega arith) (λ (r : d ≡ e). omega arith)) in
    omega arith)
    (λ l.
    let a = o n (le_refl (suc n)) (λ (r : n ≡ e). omega arith) in
    let b = sum-add n f g e x l p (λ d k. o d (omega arith)) in
    omega arith)
    (less-cases h)

pub sum-zero : (n : ℕ) (f : ℕ → ℕ) → ((d : ℕ) → d < n → f d ≡ 0) → sum_below n f ≡ 0
unfolding sum_below
sum-zero zero f e = refl
sum-zero (suc n) f e = let a = e n (le_refl (suc n)) in let b = sum-zero n f (λ d h. e d (omega arith)) in omega arith

pub sum_more : (k n : ℕ) (f : ℕ → ℕ) → k ≤ n → sum_below k f ≤ sum_below n f
unfolding sum_below
sum_more k zero f h = let e : k ≡ 0 = omega arith in rw e zero-le
sum_more k (suc n) f h = ⊎_elim
    (λ (p : k ≡ suc n). rw p (le_refl (f n + sum_below n f)))
    (λ l. let a = sum_more k n f (omega arith) in omega arith)
    (eq-or-lt_of_le h)
