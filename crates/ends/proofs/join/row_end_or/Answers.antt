use Rattle.std.proofs.Common.{◌≡◌, refl, ◌∙◌, inl, inr, arith, w32, to_z, of_z, rules}
use Rattle.ends.proofs.join.row_end_or.Goals as goal

pub returns-then-j-c : goal.returns-then-j-c
returns-then-j-c c =
    let z = c.end_at.result in
    let back : to_z w32 (of_z w32 z) ≡ z = search rules in
    inl (omega arith, (c.key.ensures.0 ∙ back ∙ c.end_at.ensures, c.key.ensures.1))

pub returns : goal.returns
returns c = inr (omega arith, refl)
