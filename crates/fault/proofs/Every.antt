-- Loops that hold each number to a test, from 0 up: while all have passed, where one fails, and at the end.
use Rattle.std.proofs.Common.{◌≡◌, ℕ, ◌+◌, ◌<◌, ◌≤◌, Bool, true, false, sym, refl, ap, ◌∙◌, le_antisymm, add-one}
use Rattle.paper.specs.Below.{all_below}
use Rattle.theory.proofs.Bool.{and_intro, not-true, clash}
use Rattle.theory.proofs.Below.{all-out}

module _ (p : ℕ → Bool) where
  pub every-none : all_below 0 p ≡ true
  unfolding all_below
  every-none = refl

  pub every_more : (q : ℕ) → all_below q p ≡ true → p q ≡ true → all_below (q + 1) p ≡ true
  unfolding all_below
  every_more q e f = ap (λ (k : ℕ). all_below k p) (add-one q) ∙ and_intro (p q) (all_below q p) f e

  pub every-stop : (t q : ℕ) → q < t → p q ≡ false → false ≡ all_below t p
  every-stop t q h f = sym (not-true (all_below t p) (λ e. clash (all-out t p e q h) f))

  pub every-end : (t q : ℕ) → q ≤ t → t ≤ q → all_below q p ≡ true → true ≡ all_below t p
  every-end t q g h e = sym (ap (λ (k : ℕ). all_below k p) (le_antisymm h g) ∙ e)
