use Rattle.paper.specs.Table.{lifted_capacity}
use Rattle.table.proofs.capacity.lifted.Goals as goal

pub returns : goal.returns
unfolding lifted_capacity
returns c = c.fewest.ensures
