-- Rows of a table that had n of them and has k.
--     rows_taken        a table with the first k rows of another in place of its n rows
use Rattle.std.specs.Prelude.{ℕ, ◌*◌, List}
use Rattle.kernel.specs.Copy.{copied}
use Rattle.kernel.specs.Tail.{tail_cleared}

abbrev pub rows_taken : {A : Type 0} → A → ℕ → ℕ → ℕ → List A → List A → List A
rows_taken z w n k s l = tail_cleared z w k n (copied (k * w) s l)
