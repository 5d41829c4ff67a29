-- A row that is copied to lent memory.
--     written          what is written: the row, or nothing where the memory is shorter
use Rattle.std.specs.Prelude.{ℕ, cond, List, [], length, nat_le}

unfoldable pub written : List ℕ → List ℕ → List ℕ
written row out = cond (nat_le (length row) (length out)) row []
