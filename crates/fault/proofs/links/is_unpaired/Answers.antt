use Rattle.std.proofs.Common.{ap, ◌∙◌, rules}
use borrow.Author.Tests.{tests}
use Rattle.paper.specs.Below.{any_below}
use Rattle.fault.specs.Fault.{unpaired_by}
use Rattle.fault.proofs.Pair.{pair-below}
use Rattle.fault.proofs.Ranges.{any_range}
use Rattle.fault.proofs.links.is_unpaired.Goals as goal

pub returns : goal.returns
returns c =
    let a = c.args in
    any_range (unpaired_by a.links.now a.d a.j) _ _ _ _ c.any.ensures.ran (λ x b q k. search (rules, tests))
    ∙ ap (λ n. any_below n (unpaired_by a.links.now a.d a.j)) c.saturating_sub.ensures
    ∙ pair-below a.links.now a.m a.d a.j c.requires.1.1
