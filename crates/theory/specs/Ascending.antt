-- Lists that ascend by a test of order: by one that is strict no member stands twice.
--     Order            the test is a strict total order
--     Above            x is below every member
--     Ascends          every member is below all that follow
use Rattle.std.specs.Prelude.{◌≡◌, Bool, true, false, List, [], ◌∷◌}

pub record Order {A : Type 0} (lt : A → A → Bool) : Type 0 where
  pub irrefl : (x : A) → lt x x ≡ false
  pub trans : (x y z : A) → lt x y ≡ true → lt y z ≡ true → lt x z ≡ true
  pub tri : (x y : A) → lt x y ≡ false → lt y x ≡ false → x ≡ y

abbrev pub Above : {A : Type 0} → (A → A → Bool) → A → List A → Type 0
Above lt x [] = Unit {0}
Above lt x (y ∷ l) = (lt x y ≡ true) × Above lt x l

abbrev pub Ascends : {A : Type 0} → (A → A → Bool) → List A → Type 0
Ascends lt [] = Unit {0}
Ascends lt (x ∷ l) = Above lt x l × Ascends lt l
