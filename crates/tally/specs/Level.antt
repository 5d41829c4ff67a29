-- The pieces of the levels below the two upper ones, cell by cell, and those of all levels.
--     front n w        the index and the queue in a table of work: the part that floods use
--     Sound            tables that a count may walk: links of a map, rows in order, room for what is counted
--     Whole            the queue is a set of whole cells
--     Queued           what a flood leaves: the queue is longer by the cell of d, the bases are as they were
--     Stage            the queue is whole, and the bases add up to half the total
--     tally M k e      the pieces of e at the two upper levels, and at the levels below k
--     Upto M k         base 0 of the darts below d and of those in the queue has the levels up to k, that of the others has the levels below k
--     Turn             what a turn at d asks
--     Fresh            d is in no cell before, and has spans
--     Stepped          what a turn with its count gives
--     Levelled         what the count of a level gives
--     Tallied M        what the count of all levels gives for a plan M
use Rattle.std.specs.Prelude.{◌≡◌, ℕ, suc, ◌+◌, ◌-◌, ◌*◌, ◌<◌, ◌≤◌, true, ◌⊎◌, List, length, take, drop, ℤ}
use Rattle.paper.specs.Width.{work_width, dart_limit}
use Rattle.paper.specs.Below.{sum_below}
use Rattle.paper.specs.Map.{Map}
use Rattle.paper.specs.Span.{ordered}
use Rattle.paper.specs.Table.{row_at}
use Rattle.paper.specs.Lift.{lifted_darts}
use Rattle.span.specs.Row.{RowIn}
use Rattle.hold.specs.Hold.{Reads}
use Rattle.orbit.specs.Sparse.{Sparse, In}
use Rattle.kernel.specs.Link.{alpha}
use Rattle.orbit.specs.Flood.{axes, Ready, Shut, Flooded}
use Rattle.number.specs.Count.{piece_count, below}
use Rattle.number.specs.Own.{bare}
use Rattle.base.specs.Base.{base}

abbrev pub front : ℕ → List ℕ → List ℕ
front n w = take (n + n) w

-- of the lifted work v only the length matters
pub record Sound (m n : ℕ) (links : List ℕ) (spans : List ℤ) (w v : List ℕ) (room : ℕ) : Type 0 where
  pub ready : Ready m n links w
  pub rows : (e : ℕ) → e < n → RowIn spans e
  pub order : (e : ℕ) → e < n → ordered (row_at spans e) ≡ true
  pub work : n * work_width ≤ length w
  pub few : room ≤ dart_limit
  pub long : room * work_width ≤ length v

pub record Whole (m n k : ℕ) (links w : List ℕ) (t : ℕ) : Type 0 where
  pub set : Sparse n n (front n w) t
  pub shut : Shut (alpha links) m (axes k (k + 1)) n (front n w) t

pub record Queued (m n k : ℕ) (links : List ℕ) (d : ℕ) (w : List ℕ) (t : ℕ) (w' : List ℕ) (t' : ℕ) : Type 0 where
  pub found : Flooded (alpha links) m (axes k (k + 1)) n d (front n w) t (front n w') t'
  pub behind : drop (n + n) w' ≡ drop (n + n) w

pub record Stage (m n k : ℕ) (links w : List ℕ) (t total room : ℕ) : Type 0 where
  pub whole : Whole m n k links w t
  pub adds : total ≡ 2 * sum_below n (base w n 0)
  pub fits : total ≤ room

unfoldable pub tally : Map → ℕ → ℕ → ℕ
tally M k e = piece_count M e M.dim + (piece_count M e (M.dim - 1) + below M k e)

pub record Upto (M : Map) (k n : ℕ) (w : List ℕ) (t d : ℕ) : Type 0 where
  pub done : (e : ℕ) → e < n → (e < d) ⊎ In n (front n w) t e → base w n 0 e ≡ tally M (suc k) e
  pub left : (e : ℕ) → e < n → d ≤ e → (In n (front n w) t e → ⊥) → base w n 0 e ≡ tally M k e
  -- a dart that was passed without its cell has no spans
  pub passed : (e : ℕ) → e < d → In n (front n w) t e ⊎ (bare M e ≡ true)

pub record Turn (m n k : ℕ) (links : List ℕ) (spans : List ℤ) (w v : List ℕ) (d t total room : ℕ) : Type 0 where
  pub sound : Sound m n links spans w v room
  pub dart : d < n
  pub level : suc k < m
  pub stage : Stage m n k links w t total room

pub record Fresh (n : ℕ) (w : List ℕ) (d t : ℕ) : Type 0 where
  pub out : In n (front n w) t d → ⊥
  pub spans : base w n 0 d ≡ 0 → ⊥

pub record Stepped (m n k : ℕ) (links : List ℕ) (spans : List ℤ) (d : ℕ) (w : List ℕ) (t room : ℕ) (w' : List ℕ) (t' r : ℕ) : Type 0 where
  -- within the room
  pub stage : r ≤ room → Stage m n k links w' t' r room
  pub upto : (M : Map) → Reads M m n links spans → Upto M k n w t d → r ≤ room → Upto M k n w' t' (d + 1)
  -- or past it
  pub over : room < r → r ≡ room + 1
  pub much : (M : Map) → Reads M m n links spans → Upto M k n w t d → room < r → room < length (lifted_darts M)

pub record Levelled (m n k : ℕ) (links : List ℕ) (spans : List ℤ) (w : List ℕ) (room : ℕ) (w' : List ℕ) (r : ℕ) : Type 0 where
  -- within the room
  pub total : r ≤ room → r ≡ 2 * sum_below n (base w' n 0)
  pub bases : (M : Map) → Reads M m n links spans → ((e : ℕ) → e < n → base w n 0 e ≡ tally M k e)
      → r ≤ room → (e : ℕ) → e < n → base w' n 0 e ≡ tally M (suc k) e
  -- or past it
  pub over : room < r → r ≡ room + 1
  pub much : (M : Map) → Reads M m n links spans → ((e : ℕ) → e < n → base w n 0 e ≡ tally M k e) → room < r → room < length (lifted_darts M)

pub record Tallied (M : Map) (m n room : ℕ) (w : List ℕ) (r : ℕ) : Type 0 where
  pub total : length (lifted_darts M) ≤ room → r ≡ length (lifted_darts M)
  pub bases : length (lifted_darts M) ≤ room → (e : ℕ) → e < n → base w n 0 e ≡ below M (suc m) e
  pub over : room < length (lifted_darts M) → r ≡ room + 1
