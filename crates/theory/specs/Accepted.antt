-- Tables that hold a valid map: demand 2's "a generalised map with agreeing corners and spans".
use Rattle.std.specs.Prelude.{◌≡◌, ℕ, ◌*◌, ◌<◌, ◌≤◌, true, pos, slice_index_or}
use Rattle.paper.specs.Width.{dim_limit, span_width}
use Rattle.paper.specs.Valid.{Valid}
use Rattle.paper.specs.Table.{Tables, count_fits}
use Rattle.paper.specs.Call.{held, capacity}
use Rattle.theory.specs.Fit.{ObjectsFit}

pub record Accepted (T : Tables) (m n : ℕ) : Type 0 where
  -- a dimension from 1 to 5, and a count within capacity
  pub low : 1 ≤ m
  pub high : m ≤ dim_limit
  pub fits : n ≤ capacity T
  -- every row says how many spans it has, 0 to 8
  pub counts : (d : ℕ) → d < n → count_fits (slice_index_or T.spans (d * span_width) (pos 0)) ≡ true
  -- every span has an object, 0 to 65535
  pub objects : ObjectsFit (held T m n)
  -- and the map that the tables hold is valid
  pub valid : Valid (held T m n)
