-- Two numbers for each of n darts, behind the queue in a table of work: its bases.
--     slot n h d       where base h of dart d stands
--     base w n h d     base h of dart d
--     Bases            the table has room for them
use Rattle.std.specs.Prelude.{ℕ, ◌+◌, ◌*◌, ◌≤◌, List, length, slice_index}
use Rattle.paper.specs.Width.{work_width, dart_limit}

abbrev pub slot : ℕ → ℕ → ℕ → ℕ
slot n h d = n + n + (d + d + h)

abbrev pub base : List ℕ → ℕ → ℕ → ℕ → ℕ
base w n h d = slice_index w (slot n h d)

pub record Bases (w : List ℕ) (n : ℕ) : Type 0 where
  pub few : n ≤ dart_limit
  pub long : n * work_width ≤ length w
