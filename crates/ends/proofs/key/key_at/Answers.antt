use Rattle.std.proofs.Common.{◌≡◌, ◌∙◌, w32, to_z, of_z, rules}
use Rattle.ends.proofs.key.key_at.Goals as goal

pub returns : goal.returns
returns c =
    let z = c.at-z.result in
    let back : to_z w32 (of_z w32 z) ≡ z = search rules in
    (c.key.ensures.0 ∙ back ∙ c.at-z.ensures, c.key.ensures.1)
