use Rattle.std.proofs.Common.{eqb}
use Rattle.visit.proofs.is_bare.Goals as goal

pub returns : goal.returns
returns c = λ i. eqb (c.base.ensures.0 i) (c.base-2.ensures.0 i)
