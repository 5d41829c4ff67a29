use Rattle.paper.specs.Table.{plan_capacity}
use Rattle.table.proofs.capacity.plan.Goals as goal

pub returns : goal.returns
unfolding plan_capacity
returns c = c.fewest.ensures
