use Rattle.std.proofs.Common.{rules}
use Rattle.ends.proofs.Keys.{diff-fits, narrow-fits, height-is}
use Rattle.ends.proofs.key.height.Goals as goal

pub overflow_sub-result : goal.overflow_sub-result
overflow_sub-result c = search (rules, diff-fits)

pub overflow_cast-result : goal.overflow_cast-result
overflow_cast-result c = search (rules, narrow-fits)

pub returns : goal.returns
returns c = height-is c.args.u c.requires
