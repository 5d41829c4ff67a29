-- The number of cells that raw tables have: what COUNT tells of a plan, for callers who hold tables and no run. Document 01 has no such call; its refusals are the check's, and then the axis.
--     cells_call        3, 4, 6 to 11 as in the check, then the axis by 3; accepted, the value is the number of cells
use Rattle.std.specs.Prelude.{ℕ, [], ◌∷◌, ◌++◌, nat_lt}
use Rattle.paper.specs.Cell.{cells}
use Rattle.paper.specs.Table.{Tables}
use Rattle.paper.specs.Refusal.{◌if◌, judge, accept}
use Rattle.paper.specs.declared.refusal.Refusal.TheVariants.{OutOfRange}
use Rattle.paper.specs.Call.{held, check_tests}
use Rattle.paper.specs.declared.Answer.{Answer}

unfoldable pub cells_call : Tables → ℕ → ℕ → ℕ → Answer
cells_call T m n i = accept (judge n (check_tests T m n ++ (OutOfRange if nat_lt m i ∷ []))) (cells (held T m n) i)
