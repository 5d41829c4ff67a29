use Rattle.std.proofs.Common.{arith}
use Rattle.std.proofs.lemmas.Grind.{common_steps}
use Rattle.paper.specs.Call.{has_bad_row}
use Rattle.fault.specs.Fault.{sound}
use Rattle.fault.proofs.spans.is_bad_row.Goals as goal

pub returns-then-not-has_count : goal.returns-then-not-has_count
unfolding has_bad_row
returns-then-not-has_count c = grind (arith, common_steps)

pub returns-else-not-has_count : goal.returns-else-not-has_count
unfolding has_bad_row sound
returns-else-not-has_count c = grind (arith, common_steps)
