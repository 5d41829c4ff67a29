use Rattle.std.proofs.Common.{◌≡◌, ◌∙◌, arith, w32, to_z, of_z, rules}
use Rattle.span.proofs.Row.{row-ends-few, row-end}
use Rattle.span.proofs.end_at.Goals as goal

pub overflow_add-d-3 : goal.overflow_add-d-3
overflow_add-d-3 c = let f = row-ends-few c.args.spans.now c.args.d c.requires.0 in omega arith

pub at-requires : goal.at-requires
at-requires c = let f = row-ends-few c.args.spans.now c.args.d c.requires.0 in omega arith

pub returns : goal.returns
returns c =
    let back : to_z w32 (of_z w32 c.at.result) ≡ c.at.result = search rules in
    back ∙ c.at.ensures ∙ row-end c.args.spans.now c.args.d c.args.j c.requires.0 c.requires.1
