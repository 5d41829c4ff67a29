use Rattle.std.proofs.Common.{◌∙◌, to_z-of_z}
use Rattle.paper.specs.Span.{covers}
use Rattle.kernel.proofs.Signed.{back}
use Rattle.span.proofs.covers_at.Goals as goal

pub returns : goal.returns
returns c =
    let l = back c.at.result c.at.type_inv ∙ c.at.ensures in
    let h = back c.at-2.result c.at-2.type_inv ∙ c.at-2.ensures in
    c.covers_side.ensures ∙ (λ i. covers (record { lo = l i; hi = h i }) (to_z-of_z c.ranges.t i) c.args.up)
