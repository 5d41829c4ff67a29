-- Floods over a table of links: what they need, and what they leave in the work list.
--     axes lo hi         the axes below lo and those from hi up; the i-cell has lo = i, hi = i + 1
--     Links              links of the first n darts are darts, and undo themselves
--     Ready              the tables are long enough, the numbers small enough, and the links are Links
--     Shut               the first t of the queue are closed under the links of the axes S
--     Looked, Around     what a look from e leaves, along one axis and along each
--     Flooded            what a flood from d leaves: its orbit behind the first t of the queue
--     Listed             the first r of the queue are the marked darts
--     Swept              the queue holds the orbits of the darts below d, and nothing else
--     least              d is the lowest dart of its orbit
--     Met                what a sweep's turn at d leaves
use Rattle.std.specs.Prelude.{◌≡◌, ℕ, ◌+◌, ◌*◌, ◌<◌, ◌≤◌, Bool, true, not, ◌||◌, ltb, List, length, nat_le, nat_lt}
use Rattle.paper.specs.Width.{link_width, dart_limit, dim_limit}
use Rattle.paper.specs.Below.{any_below}
use Rattle.paper.specs.Orbit.{Reach, marked, size, orbit}
use Rattle.kernel.specs.Link.{alpha}
use Rattle.orbit.specs.Sparse.{queue, Sparse, In, Grown}

abbrev pub axes : ℕ → ℕ → ℕ → Bool
axes lo hi = λ j. nat_lt j lo || nat_le hi j

pub record Links (α : ℕ → ℕ → ℕ) (m n : ℕ) : Type 0 where
  -- a link is a dart
  pub within : (j e : ℕ) → e < n → j ≤ m → α j e < n
  -- a link undoes itself
  pub undo : (j e : ℕ) → e < n → j ≤ m → α j (α j e) ≡ e

pub record Ready (m n : ℕ) (ls w : List ℕ) : Type 0 where
  -- darts fit a number of 16 bits
  pub darts : n ≤ dart_limit
  -- a row of links has every axis
  pub dims : m ≤ dim_limit
  -- a row of links for each dart
  pub rows : n * link_width ≤ length ls
  -- an index and a place in the queue for each dart
  pub room : n + n ≤ length w
  -- the links are those of a map
  pub links : Links (alpha ls) m n

abbrev pub Shut : (ℕ → ℕ → ℕ) → ℕ → (ℕ → Bool) → ℕ → List ℕ → ℕ → Type 0
Shut α m S n w t = (q : ℕ) → q < t → (j : ℕ) → j ≤ m → S j ≡ true → In n w t (α j (queue n w q))

pub record Looked (α : ℕ → ℕ → ℕ) (S : ℕ → Bool) (n e j : ℕ) (w : List ℕ) (t : ℕ) (w' : List ℕ) (t' : ℕ) : Type 0 where
  -- a set again
  pub set : Sparse n n w' t'
  -- with what it had
  pub grown : Grown n w t w' t'
  -- where the link leads is in it, if the axis is one of S
  pub near : S j ≡ true → In n w' t' (α j e)
  -- nothing else is new
  pub only : (q : ℕ) → t ≤ q → q < t' → (S j ≡ true) × (α j e ≡ queue n w' q)

pub record Around (α : ℕ → ℕ → ℕ) (m : ℕ) (S : ℕ → Bool) (n e : ℕ) (w : List ℕ) (t : ℕ) (w' : List ℕ) (t' : ℕ) : Type 0 where
  -- a set again
  pub set : Sparse n n w' t'
  -- with what it had
  pub grown : Grown n w t w' t'
  -- where links of S lead is in it
  pub near : (j : ℕ) → j ≤ m → S j ≡ true → In n w' t' (α j e)
  -- what is new is reached from every dart that reaches e
  pub only : (d q : ℕ) → t ≤ q → q < t' → Reach α m S d e → Reach α m S d (queue n w' q)

pub record Flooded (α : ℕ → ℕ → ℕ) (m : ℕ) (S : ℕ → Bool) (n d : ℕ) (w : List ℕ) (t : ℕ) (w' : List ℕ) (t' : ℕ) : Type 0 where
  -- a set again
  pub set : Sparse n n w' t'
  -- with what it had
  pub grown : Grown n w t w' t'
  -- closed under the links of S again
  pub shut : Shut α m S n w' t'
  -- d is the first that is new
  pub first : (t < t') × (queue n w' t ≡ d)
  -- what is new is reached from d
  pub reached : (q : ℕ) → t ≤ q → q < t' → Reach α m S d (queue n w' q)
  -- what is reached from d is new
  pub all : {e : ℕ} → Reach α m S d e → (q : ℕ) × (t ≤ q) × (q < t') × (queue n w' q ≡ e)

pub record Listed (n : ℕ) (ms : List Bool) (w : List ℕ) (r : ℕ) : Type 0 where
  -- a set
  pub set : Sparse n n w r
  -- each dart in it is marked
  pub marks : (q : ℕ) → q < r → marked ms (queue n w q) ≡ true
  -- each marked dart is in it
  pub all : (e : ℕ) → e < n → marked ms e ≡ true → In n w r e
  -- so it has as many as are marked
  pub many : r ≡ size n ms

pub record Swept (α : ℕ → ℕ → ℕ) (m : ℕ) (S : ℕ → Bool) (n : ℕ) (w : List ℕ) (t d : ℕ) : Type 0 where
  -- a set
  pub set : Sparse n n w t
  -- closed under the links of S
  pub shut : Shut α m S n w t
  -- every dart below d is in it
  pub holds : (e : ℕ) → e < d → In n w t e
  -- each dart in it is reached from one below d
  pub from : (q : ℕ) → q < t → (e : ℕ) × (e < d) × Reach α m S e (queue n w q)

unfoldable pub least : (ℕ → ℕ → ℕ) → ℕ → (ℕ → Bool) → ℕ → ℕ → Bool
least α m S n d = not (any_below d (marked (orbit α m S n d)))

pub record Met (α : ℕ → ℕ → ℕ) (m : ℕ) (S : ℕ → Bool) (n d : ℕ) (w : List ℕ) (t : ℕ) (w' : List ℕ) (t' : ℕ) : Type 0 where
  -- d's orbit is in the queue too
  pub swept : Swept α m S n w' t' (d + 1)
  -- what was in it stays
  pub grown : Grown n w t w' t'
  -- it has more exactly where d is the lowest dart of its orbit
  pub new : ltb t t' ≡ least α m S n d
  -- and then the orbit is what it has more
  pub found : t < t' → Flooded α m S n d w t w' t'
