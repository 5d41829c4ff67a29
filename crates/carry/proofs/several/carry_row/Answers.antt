use Rattle.std.proofs.Common.{set, ap, ◌∙◌}
use Rattle.carry.proofs.several.carry_row.Goals as goal

pub returns : goal.returns
returns c =
    let a = c.args in
    c.put.ensures ∙ ap (set a.oo.now a.q) c.object_at.ensures.0
