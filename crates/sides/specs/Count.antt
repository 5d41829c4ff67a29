-- COUNT of a map, whichever side it is on.
--     counted          the answer: the refusal by which no map is told, then 3, else the number of cells of the axis
use Rattle.std.specs.Prelude.{ℕ, [], ◌∷◌, ◌==◌, nat_lt}
use Rattle.paper.specs.Map.{Map}
use Rattle.paper.specs.Cell.{cells}
use Rattle.paper.specs.Refusal.{◌if◌, judge, accept}
use Rattle.paper.specs.declared.Answer.{Answer}
use Rattle.paper.specs.declared.refusal.Refusal.{Refusal}
use Rattle.paper.specs.declared.refusal.Refusal.TheVariants.{OutOfRange}

unfoldable pub counted : Refusal → Map → ℕ → Answer
counted none M i = accept (judge 0 (none if (M.dim == 0) ∷ OutOfRange if nat_lt M.dim i ∷ [])) (cells M i)
