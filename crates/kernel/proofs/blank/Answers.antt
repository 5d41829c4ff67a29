use Rattle.std.proofs.Common.{◌∙◌}
use Rattle.kernel.proofs.Filled.{fill-all}
use Rattle.kernel.proofs.blank.Goals as goal

pub returns : goal.returns
returns g c = let a = c.args in c.clear.ensures ∙ fill-all a.value 0 a.s.now
