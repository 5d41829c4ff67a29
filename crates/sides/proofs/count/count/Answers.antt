use Rattle.std.proofs.Common.{◌∙◌, arith}
use Rattle.hold.proofs.Stand.{plan-reads, lifted_links}
use Rattle.sides.proofs.Counted.{plan-counted, lifted-counted, side-beyond}
use Rattle.sides.proofs.count.count.Goals as goal

pub returns-in-0 : goal.returns-in-0
returns-in-0 c = λ R s ps ss op oo P L.
    rw (c.in-0.is, ← c.from-axis.ensures) (c.count_side.ensures s.plan (plan-reads P).holds ∙ plan-counted R s c.from-axis.result)

pub returns-in-1 : goal.returns-in-1
returns-in-1 c = λ R s ps ss op oo P L.
    rw (c.in-1.is, ← c.from-axis.ensures) (c.count_side-in-1.ensures s.lifted (lifted_links L) ∙ lifted-counted R s c.from-axis.result)

pub returns-in_default : goal.returns-in_default
returns-in_default c = λ R s ps ss op oo P L. side-beyond R s c.args.axis c.args.side (omega arith)
