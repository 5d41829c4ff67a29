-- A queue of darts in the work list, as the writes to each of them need it.
--     QueueIn          the first t of the queue are darts below n, and the work list has room for them
use Rattle.std.specs.Prelude.{ℕ, ◌+◌, ◌<◌, ◌≤◌, List, length}
use Rattle.paper.specs.Width.{dart_limit}
use Rattle.orbit.specs.Sparse.{queue}

pub record QueueIn (n : ℕ) (w : List ℕ) (t : ℕ) : Type 0 where
  -- darts fit a number of 16 bits
  pub darts : n ≤ dart_limit
  -- the queue is in the work list
  pub room : n + t ≤ length w
  -- it holds darts
  pub below : (q : ℕ) → q < t → queue n w q < n
