-- How many pieces the darts of a plan have: each gives two lifted darts.
--     piece_count M d k   the pieces of d at level k
--     below M k d        the pieces of d at the levels below k
use Rattle.std.specs.Prelude.{ℕ, length}
use Rattle.paper.specs.Below.{sum_below}
use Rattle.paper.specs.Map.{Map, row}
use Rattle.paper.specs.Ends.{ends, stretches, covered_by}

unfoldable pub piece_count : Map → ℕ → ℕ → ℕ
piece_count M d k = length (covered_by (row M d) (stretches (ends M k d)))

abbrev pub below : Map → ℕ → ℕ → ℕ
below M k d = sum_below k (piece_count M d)
