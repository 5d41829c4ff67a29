-- Darts whose pieces are known without their cell.
--     bare M d         the row of d has no spans, and so no pieces at any level
use Rattle.std.specs.Prelude.{ℕ, Bool, length, ◌==◌}
use Rattle.paper.specs.Map.{Map, row}

abbrev pub bare : Map → ℕ → Bool
bare M d = length (row M d) == 0
