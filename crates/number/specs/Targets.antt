-- Where the links of lifted darts lead, as numbers.
--     target_of M d k i j s     the number of the lifted dart to which axis i leads from piece j of d at level k, on side s
--     Reaches, Missing         an axis leads to an equal end of a piece of e at level l, on side s'; or there is no equal end
--     Targets                  document 01's six cases, as numbers
use Rattle.std.specs.Prelude.{◌≡◌, ℕ, suc, ◌<◌, ◌≤◌, Bool, not, ◌⊎◌, ◌≢◌}
use Rattle.paper.specs.Map.{Map, link}
use Rattle.paper.specs.Lift.{lifted_darts, number_in, target}
use Rattle.number.specs.Count.{piece_count}
use Rattle.number.specs.First.{end_of, dart_of, number_of}

unfoldable pub target_of : Map → ℕ → ℕ → ℕ → ℕ → Bool → ℕ
target_of M d k i j s = number_in (lifted_darts M) (target M i (dart_of M d k j s))

-- axis i leads from piece j of d at level k to an equal end of a piece of e at level l, on side s'
abbrev pub Reaches : Map → ℕ → ℕ → ℕ → ℕ → Bool → ℕ → ℕ → Bool → Type 0
Reaches M d k i j s e l s' =
    (j' : ℕ) × (j' < piece_count M e l) × (end_of M d k j s ≡ end_of M e l j' s') × (target_of M d k i j s ≡ number_of M e l j' s')

abbrev pub Missing : Map → ℕ → ℕ → ℕ → Bool → ℕ → ℕ → Bool → Type 0
Missing M d k j s e l s' = (j' : ℕ) → j' < piece_count M e l → end_of M d k j s ≢ end_of M e l j' s'

pub record Targets (M : Map) (d k j : ℕ) (s : Bool) : Type 0 where
  -- i < k: the same piece of the dart that axis i leads to
  pub low : (i : ℕ) → i < k → target_of M d k i j s ≡ number_of M (link M i d) k j s
  -- i = k = 0: the other end of the piece
  pub pair : k ≡ 0 → target_of M d k 0 j s ≡ number_of M d k j (not s)
  -- i = k ≥ 1: the equal end at the level below
  pub down : (l : ℕ) → suc l ≡ k → Reaches M d k k j s d l s
  -- i = k + 1 ≤ m: the equal end at the level above; where there is none, the piece on the other side of it
  pub up : k < M.dim → Reaches M d k (suc k) j s d (suc k) s ⊎ (Missing M d k j s d (suc k) s × Reaches M d k (suc k) j s d k (not s))
  -- i = k + 1 = n: the piece on the other side of it; where there is none, it is free
  pub top : k ≡ M.dim → Reaches M d k (suc k) j s d k (not s) ⊎ (Missing M d k j s d k (not s) × (target_of M d k (suc k) j s ≡ number_of M d k j s))
  -- k + 2 ≤ i ≤ m: the same piece of the dart that axis i - 1 leads to
  pub high : (i : ℕ) → suc k ≤ i → i < M.dim → target_of M d k (suc i) j s ≡ number_of M (link M i d) k j s
  -- i = n ≥ k + 2: the equal end of the neighbour; where there is none, it is free
  pub over : k < M.dim
      → Reaches M d k (suc M.dim) j s (link M M.dim d) k s
      ⊎ (Missing M d k j s (link M M.dim d) k s × (target_of M d k (suc M.dim) j s ≡ number_of M d k j s))
