-- Cells: from a dart along all axes but i one gets to the darts of its i-cell.
--     but              the axes other than i
--     Cell             e is in the i-cell of d, by a path of links
--     cell             the i-cell of d, as marks
--     corner, top      the cells of axis 0 and of axis m
--     lowest           d is the lowest dart of its i-cell
--     cells            the number of i-cells: one for each lowest dart
use Rattle.std.specs.Prelude.{ℕ, Bool, not, List, ◌==◌}
use Rattle.paper.specs.Below.{any_below, count_below}
use Rattle.paper.specs.Map.{Map, count, link}
use Rattle.paper.specs.Orbit.{Reach, orbit, marked}

abbrev pub but : ℕ → ℕ → Bool
but i j = not (j == i)

abbrev pub Cell : Map → ℕ → ℕ → ℕ → Type 0
Cell M i d e = Reach (link M) M.dim (but i) d e

unfoldable pub cell : Map → ℕ → ℕ → List Bool
cell M i d = orbit (link M) M.dim (but i) (count M) d

abbrev pub corner : Map → ℕ → List Bool
corner M d = cell M 0 d

abbrev pub top : Map → ℕ → List Bool
top M d = cell M M.dim d

unfoldable pub lowest : Map → ℕ → ℕ → Bool
lowest M i d = let c = cell M i d in not (any_below d (marked c))

unfoldable pub cells : Map → ℕ → ℕ
cells M i = count_below (count M) (lowest M i)
