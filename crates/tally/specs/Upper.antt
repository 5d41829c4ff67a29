-- The two upper levels, dart by dart: the top one, and that below it, where a cell has two rows.
--     upper_count       how many pieces d has there: the spans of its row, and those cut by the ends of its neighbour over the boundary
--     UpperIn          what counting them asks: links over the boundary, and rows in order
--     UpperCounted     what it gives: each base is that number
use Rattle.std.specs.Prelude.{◌≡◌, ℕ, ◌+◌, ◌*◌, ◌<◌, ◌≤◌, true, List, length, ℤ}
use Rattle.paper.specs.Width.{link_width, dart_limit, dim_limit}
use Rattle.paper.specs.Below.{sum_below}
use Rattle.paper.specs.Span.{ordered, ends_of}
use Rattle.paper.specs.Table.{row_at}
use Rattle.kernel.specs.Link.{alpha}
use Rattle.span.specs.Row.{RowIn}
use Rattle.number.specs.Beside.{cut_row}
use Rattle.base.specs.Base.{base}

abbrev pub upper_count : List ℕ → List ℤ → ℕ → ℕ → ℕ
upper_count ls ss m d = length (row_at ss d) + length (cut_row (row_at ss d) (ends_of (row_at ss (alpha ls m d))))

pub record UpperIn (m n : ℕ) (links : List ℕ) (spans : List ℤ) : Type 0 where
  pub few : n ≤ dart_limit
  pub dims : m ≤ dim_limit
  pub long : n * link_width ≤ length links
  pub near : (e : ℕ) → e < n → alpha links m e < n
  pub rows : (e : ℕ) → e < n → RowIn spans e
  pub order : (e : ℕ) → e < n → ordered (row_at spans e) ≡ true

pub record UpperCounted (m n : ℕ) (links : List ℕ) (spans : List ℤ) (room : ℕ) (w' : List ℕ) (r : ℕ) : Type 0 where
  -- within the room
  pub total : r ≤ room → r ≡ 2 * sum_below n (base w' n 0)
  pub bases : r ≤ room → (e : ℕ) → e < n → base w' n 0 e ≡ upper_count links spans m e
  -- or past it
  pub over : room < r → r ≡ room + 1
  pub much : room < r → room < 2 * sum_below n (upper_count links spans m)
