use Rattle.std.proofs.Common.{ap, ◌<◌, ◌≤◌, length, ◌∙◌, subst}
use Rattle.paper.specs.Refusal.{number, answer}
use Rattle.paper.specs.Table.{lent}
use Rattle.checker.proofs.Ends.{fits, off-range, many, within, told}
use Rattle.checker.proofs.check.Goals as goal

pub first_fault-requires : goal.first_fault-requires
first_fault-requires c =
    let a = c.args in (
      fits a.links.now a.places.now a.spans.now (length a.work.now) a.dimension a.count c.if-dimension-gt-DIMENSION.false
          (subst (λ x. a.count ≤ x) c.plan.ensures c.if-plan-count.false),
      c.if-dimension-lt1.false,
    )

pub returns-then-dimension-lt1 : goal.returns-then-dimension-lt1
returns-then-dimension-lt1 c =
    let a = c.args in
    let T = lent a.links.now a.places.now a.spans.now (length a.work.now) in
    let r = told T a.dimension a.count _ (ap (λ x. answer (number x.refusal) x.value) c.from.ensures ∙ off-range T a.dimension a.count c.then-dimension-lt1.either) in
    record { told = r.0; accepted = r.1 }

pub returns-then-plan-count : goal.returns-then-plan-count
returns-then-plan-count c =
    let a = c.args in
    let T = lent a.links.now a.places.now a.spans.now (length a.work.now) in
    let r = told T a.dimension a.count _
    (ap (λ x. answer (number x.refusal) x.value) c.from-then-plan-count.ensures
    ∙ many T a.dimension a.count c.if-dimension-lt1.false c.if-dimension-gt-DIMENSION.false (subst (λ x. x < a.count) c.plan.ensures c.if-plan-count.true)) in
    record { told = r.0; accepted = r.1 }

pub returns : goal.returns
returns c =
    let a = c.args in
    let T = lent a.links.now a.places.now a.spans.now (length a.work.now) in
    let r = told T a.dimension a.count _
    (c.first_fault.ensures (length a.work.now)
    ∙ within T a.dimension a.count c.if-dimension-lt1.false c.if-dimension-gt-DIMENSION.false (subst (λ x. a.count ≤ x) c.plan.ensures c.if-plan-count.false)) in
    record { told = r.0; accepted = r.1 }
