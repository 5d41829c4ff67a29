-- The objects of lifted darts, row by row of a table of objects. Rows come in pairs, the foot of a piece and its head, so that a row's side is told by its number.
--     upward q         row q is a foot: its side is up
--     height_in         the height of row q, which stands behind the m coordinates of its place
--     carried_at        what row q carries, if it is one of plan dart d's
--     carried_rows      a table whose rows from one up to another have what f says; the others are as they were
--     settled          a table whose rows that are due have their object
--     DueIn            rows that are due are in a table of so many objects
--     from_of, to_of     where the rows of dart d begin and end, told by half h of the bases: where the spans of its row, its last pieces, begin
--     carried_all       the rows of the first darts written, dart by dart
--     Own              the row of d is in the table of spans, in order, and its objects fit
--     Within, Met      rows are in their tables, and each has a side that d's row covers
--     Carriable        what the pass asks
--     Aim              tables that hold a plan and the places of its lift, with the bases of the top level: what it asks holds, and what it writes are the plan's carried objects
use Rattle.std.specs.Prelude.{◌≡◌, ℕ, zero, suc, ◌+◌, ◌*◌, ◌%◌, ◌<◌, ◌≤◌, Bool, true, cond, ◌&&◌, List, length, get_or, ℤ, pos, ◌==◌, nat_le, nat_lt, slice_index, slice_index_or}
use Rattle.paper.specs.Width.{place_width, dart_limit, word_limit}
use Rattle.paper.specs.Below.{list_below}
use Rattle.paper.specs.Map.{Map, no_span, count, owned}
use Rattle.paper.specs.Span.{ordered, covering, covered}
use Rattle.paper.specs.Table.{object_fits, owned_at, row_at}
use Rattle.paper.specs.Lift.{at, lifted_darts, object_at}
use Rattle.theory.specs.Fit.{ObjectsFit}
use Rattle.number.specs.First.{first}
use Rattle.span.specs.Row.{RowIn}
use Rattle.base.specs.Base.{base, Bases}
use Rattle.carry.specs.declared.Due.{Due}

abbrev pub upward : ℕ → Bool
upward q = q % 2 == 0

abbrev pub height_in : List ℤ → ℕ → ℕ → ℤ
height_in op m q = slice_index_or op (q * place_width + m) (pos 0)

unfoldable pub carried_at : List ℤ → List ℤ → ℕ → ℕ → ℕ → ℕ
carried_at spans op m d = λ q. object_at (owned_at spans d) (covering (row_at spans d) (height_in op m q) (upward q))

unfoldable pub carried_rows : (ℕ → ℕ) → ℕ → ℕ → List ℕ → List ℕ
carried_rows f from to o = list_below (length o) (λ q. cond (nat_le from q && nat_lt q to) (f q) (slice_index o q))

abbrev pub settled : Due → List ℕ → List ℕ
settled u o = carried_rows (λ (q : ℕ). u.object) u.from u.to o

pub record DueIn (u : Due) (len : ℕ) : Type 0 where
  pub order : u.from ≤ u.to
  pub within : u.to ≤ len
  pub few : u.to < word_limit
  pub object : u.object < word_limit

abbrev pub to_of : List ℤ → List ℕ → ℕ → ℕ → ℕ → ℕ
to_of spans w n h d = base w n h d + length (row_at spans d) * 2

abbrev pub from_of : List ℤ → List ℕ → ℕ → ℕ → ℕ → ℕ
from_of spans w n h zero = 0
from_of spans w n h (suc d) = to_of spans w n h d

-- half m mod 2 of the bases has the top level's
unfoldable pub carried_all : List ℤ → List ℤ → List ℕ → ℕ → ℕ → ℕ → List ℕ → List ℕ
carried_all spans op w m n zero o = o
carried_all spans op w m n (suc d) o =
    carried_rows (carried_at spans op m d) (from_of spans w n (m % 2) d) (to_of spans w n (m % 2) d) (carried_all spans op w m n d o)

pub record Own (spans : List ℤ) (d : ℕ) : Type 0 where
  pub row : RowIn spans d
  pub order : ordered (row_at spans d) ≡ true
  pub fits : (j : ℕ) → object_fits (get_or (owned_at spans d) j no_span).object ≡ true

-- rows up to this one are in the table of places, and in one of so many objects
pub record Within (m to : ℕ) (op : List ℤ) (len : ℕ) : Type 0 where
  pub dims : m < place_width
  pub places : to * place_width ≤ length op
  pub objects : to ≤ len
  pub few : to < word_limit

-- each of these rows has a side that d's row covers
abbrev pub Met : List ℤ → List ℤ → ℕ → ℕ → ℕ → ℕ → Type 0
Met spans op m d from to = (q : ℕ) → from ≤ q → q < to → covered (row_at spans d) (height_in op m q) (upward q) ≡ true

pub record Carriable (spans op : List ℤ) (w : List ℕ) (m n len : ℕ) : Type 0 where
  pub bases : Bases w n
  pub own : (d : ℕ) → d < n → Own spans d
  -- the top level's rows are the last ones, and a dart without rows below them has no spans
  pub later : (d : ℕ) → d < n → from_of spans w n (m % 2) d ≤ base w n (m % 2) d
  pub bare : (d : ℕ) → d < n → base w n (m % 2) d ≡ from_of spans w n (m % 2) d → length (row_at spans d) ≡ 0
  pub within : (d : ℕ) → d < n → Within m (to_of spans w n (m % 2) d) op len
  pub met : (d : ℕ) → d < n → Met spans op m d (from_of spans w n (m % 2) d) (to_of spans w n (m % 2) d)

pub record Aim (M : Map) (m n : ℕ) (spans op : List ℤ) (w : List ℕ) : Type 0 where
  pub dim : M.dim ≡ m
  pub some : 0 < m
  pub darts : count M ≡ n
  pub bases : Bases w n
  pub rows : (d : ℕ) → d < n → RowIn spans d
  pub same : (d : ℕ) → d < n → owned M d ≡ owned_at spans d
  pub fit : ObjectsFit M
  pub tops : (d : ℕ) → d < n → base w n (m % 2) d ≡ first M d m
  pub dims : m < place_width
  pub few : length (lifted_darts M) ≤ dart_limit
  pub places : length (lifted_darts M) * place_width ≤ length op
  pub heights : (q : ℕ) → q < length (lifted_darts M) → height_in op m q ≡ (get_or (lifted_darts M) q (at 0 0 (pos 0) true)).t
