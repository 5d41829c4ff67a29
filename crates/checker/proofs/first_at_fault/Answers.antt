use Rattle.std.proofs.Common.{rules}
use borrow.Author.Tests.{tests}
use Rattle.paper.specs.Refusal.{number}
use Rattle.fault.specs.Fault.{fault_of}
use Rattle.fault.proofs.Ranges.{find_range}
use Rattle.checker.proofs.first_at_fault.Goals as goal

pub returns : goal.returns
returns c =
    let a = c.args in
    find_range (fault_of (number a.refusal) a.links.now a.places.now a.spans.now a.m a.n) _ _ _ _ c.find.ensures.ran (λ x b q k. search (rules, tests))
