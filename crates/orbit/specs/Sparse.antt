-- A set of darts below n inside a work list w, which needs no clearing: its t darts stand in a queue, and each knows its index there.
--     index w e          e's index in the queue, at w[e]
--     queue at w q       the dart at index q of the queue that stands from `at` on, at w[at + q]
--     Sparse             the first t of the queue are a set
--     In, is_in           e is one of the first t, as a fact and as a test
--     Grown              the set may have more, and what it had stands where it stood
--     pushed             the work list with one more dart at the queue's end
use Rattle.std.specs.Prelude.{◌≡◌, ℕ, ◌+◌, ◌<◌, ◌≤◌, Bool, ◌&&◌, List, ◌==◌, nat_lt, slice_index, slice_set}

abbrev pub index : List ℕ → ℕ → ℕ
index w e = slice_index w e

abbrev pub queue : ℕ → List ℕ → ℕ → ℕ
queue at w q = slice_index w (at + q)

pub record Sparse (at n : ℕ) (w : List ℕ) (t : ℕ) : Type 0 where
  -- the queue holds darts
  pub below : (q : ℕ) → q < t → queue at w q < n
  -- each knows its index, so none stands there twice
  pub back : (q : ℕ) → q < t → index w (queue at w q) ≡ q

abbrev pub In : ℕ → List ℕ → ℕ → ℕ → Type 0
In at w t e = (q : ℕ) × (q < t) × (queue at w q ≡ e)

-- Whatever stood in w before: an index that is left over points past the queue, or to another dart.
unfoldable pub is_in : ℕ → List ℕ → ℕ → ℕ → Bool
is_in at w t e = nat_lt (index w e) t && queue at w (index w e) == e

pub record Grown (at : ℕ) (w : List ℕ) (t : ℕ) (w' : List ℕ) (t' : ℕ) : Type 0 where
  -- no dart is taken out
  pub more : t ≤ t'
  -- the first t stay
  pub same : (q : ℕ) → q < t → queue at w' q ≡ queue at w q

abbrev pub pushed : ℕ → List ℕ → ℕ → ℕ → List ℕ
pushed n w t g = slice_set (slice_set w g t) (n + t) g
