use Rattle.std.proofs.Common.{arith}
use Rattle.walk.proofs.Seeking.{at-hand}
use Rattle.walk.proofs.seek.seek.Goals as goal

pub returns-then-lo-get_end : goal.returns-then-lo-get_end
returns-then-lo-get_end c = at-hand c.requires (omega (arith, c.get_end.ensures.0, c.if-lo-get_end.true))
