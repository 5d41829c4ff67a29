-- The numbers of cells of all axes that raw tables have, by one call: what COUNT tells of a plan axis by axis. Document 01 has no such call; its refusals are the check's, and then the room.
--     counts           the number of cells of each axis, from 0 to m
--     counts_call       3, 4, 6 to 11 as in the check, then 20 where the memory has no number for each axis; accepted, the value is how many numbers are written
--     counts_memory     accepted, the counts stand at the start of the memory, and the rest is untouched; refused, all of it is
use Rattle.std.specs.Prelude.{ℕ, suc, cond, List, [], ◌∷◌, ◌++◌, length, nat_lt}
use Rattle.paper.specs.Below.{list_below, onto}
use Rattle.paper.specs.Cell.{cells}
use Rattle.paper.specs.Table.{Tables}
use Rattle.paper.specs.Refusal.{◌if◌, judge, accepted, accept}
use Rattle.paper.specs.declared.refusal.Refusal.TheVariants.{TooLarge}
use Rattle.paper.specs.Call.{held, check_tests}
use Rattle.paper.specs.declared.Answer.{Answer}

abbrev pub counts : Tables → ℕ → ℕ → List ℕ
counts T m n = list_below (suc m) (cells (held T m n))

-- room is how many numbers the memory has
unfoldable pub counts_call : Tables → ℕ → ℕ → ℕ → Answer
counts_call T m n room = accept (judge n (check_tests T m n ++ (TooLarge if nat_lt room (suc m) ∷ []))) (suc m)

unfoldable pub counts_memory : Tables → ℕ → ℕ → List ℕ → List ℕ
counts_memory T m n before =
    let after : List ℕ = onto (counts T m n) before in
    cond (accepted (counts_call T m n (length before))) after before
