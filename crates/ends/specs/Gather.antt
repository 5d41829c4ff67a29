-- The ends of the rows of some darts.
--     darts            the darts that stand in a table of work, at the places from .. to
--     row_ends          every lo and hi in their rows, ascending
--     known_by          k places before q a dart is listed that has the spans of the dart at q, whatever their objects
--     known            so it is one or two places before, or the dart at q has no spans
--     Gatherable       what gathering asks
--     Listed           what the test asks: the darts up to place q have rows in the table
use Rattle.std.specs.Prelude.{◌≡◌, ℕ, ◌-◌, ◌*◌, ◌<◌, ◌≤◌, Bool, true, ◌&&◌, ◌||◌, List, length, ℤ, ◌==◌, nat_le, slice_index}
use Rattle.paper.specs.Width.{work_width, dart_limit}
use Rattle.paper.specs.Below.{join_of}
use Rattle.paper.specs.Span.{ordered, ends_of}
use Rattle.paper.specs.Ends.{ascending}
use Rattle.paper.specs.Table.{owned_at, row_at}
use Rattle.theory.specs.Alike.{alike}
use Rattle.span.specs.Row.{RowIn}
use Rattle.kernel.specs.Part.{part}

abbrev pub darts : List ℕ → ℕ → ℕ → List ℕ
darts g from to = part 0 g from (to - from)

abbrev pub row_ends : List ℤ → List ℕ → List ℤ
row_ends s l = ascending (ends_of (join_of l (λ e. row_at s e)))

abbrev pub known_by : List ℤ → List ℕ → ℕ → ℕ → ℕ → Bool
known_by s g from q k = nat_le k (q - from) && alike (owned_at s (slice_index g (q - k))) (owned_at s (slice_index g q))

abbrev pub known : List ℤ → List ℕ → ℕ → ℕ → Bool
known s g from q = length (row_at s (slice_index g q)) == 0 || (known_by s g from q 1 || known_by s g from q 2)

pub record Gatherable (v : List ℕ) (room : ℕ) (s : List ℤ) (g : List ℕ) (from to : ℕ) : Type 0 where
  pub few : room ≤ dart_limit
  pub long : room * work_width ≤ length v
  pub first : from ≤ to
  pub last : to ≤ length g
  pub rows : (q : ℕ) → from ≤ q → q < to → RowIn s (slice_index g q)
  pub order : (q : ℕ) → from ≤ q → q < to → ordered (row_at s (slice_index g q)) ≡ true

pub record Listed (s : List ℤ) (g : List ℕ) (from q : ℕ) : Type 0 where
  pub first : from ≤ q
  pub last : q < length g
  pub rows : (k : ℕ) → from ≤ k → k ≤ q → RowIn s (slice_index g k)
