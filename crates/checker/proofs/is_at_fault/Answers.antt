use Rattle.std.proofs.Common.{rules, ap, ◌∙◌, add-one}
use borrow.Author.Tests.{tests}
use Rattle.paper.specs.Refusal.{number}
use Rattle.paper.specs.Below.{any_below}
use Rattle.fault.specs.Fault.{fault_along, fault_of}
use Rattle.fault.proofs.Ranges.{any_range}
use Rattle.fault.proofs.Tried.{fault-any}
use Rattle.checker.proofs.is_at_fault.Goals as goal

pub returns-in-BadRow : goal.returns-in-BadRow
unfolding fault_of
returns-in-BadRow c = rw c.in-BadRow.is c.is_bad_row.ensures

pub returns-in_default : goal.returns-in_default
returns-in_default c =
    let a = c.args in
    let p = fault_along (number a.refusal) a.links.now a.places.now a.spans.now a.m a.n a.d in
    any_range p _ _ _ _ c.any.ensures.ran (λ x b q k. search (rules, tests)) ∙ ap (λ n. any_below n p) (add-one a.m)
    ∙ fault-any a.links.now a.places.now a.spans.now a.m a.n a.refusal a.d c.in_default.not-BadRow
