use Rattle.std.proofs.Common.{arith}
use Rattle.std.proofs.lemmas.Grind.{common_steps}
use Rattle.well.specs.Well.{well_at}
use Rattle.well.proofs.Asked.{links-before}
use Rattle.well.proofs.is_well.Goals as goal

pub agrees-requires-clause-d_value : goal.agrees-requires-clause-d_value
agrees-requires-clause-d_value c = grind (arith, common_steps, links-before)

pub returns-then-is_linked : goal.returns-then-is_linked
unfolding well_at
returns-then-is_linked c = grind (arith, common_steps)

pub returns-else-is_linked : goal.returns-else-is_linked
unfolding well_at
returns-else-is_linked c = grind (arith, common_steps)
