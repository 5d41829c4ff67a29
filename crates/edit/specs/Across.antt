-- Looks along one link α from the darts of a queue.
--     Across           the first q of the t darts have been looked from: where their links lead is in the set too, and nothing else is new
use Rattle.std.specs.Prelude.{◌≡◌, ℕ, ◌<◌, ◌≤◌, List}
use Rattle.orbit.specs.Sparse.{queue, Sparse, In, Grown}

pub record Across (α : ℕ → ℕ) (n : ℕ) (w : List ℕ) (t q : ℕ) (w' : List ℕ) (u : ℕ) : Type 0 where
  -- a set again
  pub set : Sparse n n w' u
  -- with what it had
  pub grown : Grown n w t w' u
  -- where the links of the first q lead is in it
  pub near : (p : ℕ) → p < q → In n w' u (α (queue n w p))
  -- a link of one of them leads to each that is new
  pub only : (p : ℕ) → t ≤ p → p < u → (g : ℕ) × (g < q) × (α (queue n w g) ≡ queue n w' p)
