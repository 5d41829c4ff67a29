-- Lent memory in which a list is written from a place on.
--     laid p l x       x with l from place p on: what x holds before and after stays
--     Lays p l x q y   l has room in x at p and was written there: q is the place after it, and y what x became
use Rattle.std.specs.Prelude.{◌≡◌, ℕ, ◌+◌, ◌≤◌, List, ◌++◌, length, take, drop}

unfoldable pub laid : {A : Type 0} → ℕ → List A → List A → List A
laid p l x = take p x ++ (l ++ drop (p + length l) x)

pub record Lays (p : ℕ) (l x : List ℕ) (q : ℕ) (y : List ℕ) : Type 0 where
  pub room : p + length l ≤ length x
  pub place : q ≡ p + length l
  pub memory : y ≡ laid p l x
