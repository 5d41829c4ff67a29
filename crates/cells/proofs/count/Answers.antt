use Rattle.std.proofs.Common.{◌≡◌, length, refl, ap, ◌∙◌, arith, rules}
use Rattle.paper.specs.Refusal.{number, answer, judged_of}
use Rattle.paper.specs.Call.{held}
use Rattle.paper.specs.Table.{lent}
use Rattle.hold.proofs.Hold.{accepted-reads}
use Rattle.orbit.proofs.Held.{accepted-ready}
use Rattle.cells.proofs.Call.{fault-first, axis-next, cells_told}
use Rattle.cells.proofs.count.Goals as goal

pub returns-in_err-check : goal.returns-in_err-check
returns-in_err-check c =
    let a = c.args in
    let T = lent a.links.now a.places.now a.spans.now (length a.work.now) in
    let f = c.in_err-check.field-0.0 in
    let e : judged_of c.from_residual.result ≡ answer (number f.refusal) f.value = search rules in
    e ∙ fault-first T a.dimension a.count a.axis f c.in_err-check.ensures.told

pub returns-then-dimension-axis : goal.returns-then-dimension-axis
returns-then-dimension-axis c =
    let a = c.args in
    let T = lent a.links.now a.places.now a.spans.now (length a.work.now) in
    ap (λ x. answer (number x.refusal) x.value) c.from.ensures ∙ axis-next T a.dimension a.count a.axis c.in_ok-check.ensures.told c.if-dimension-axis.true

pub count_cells-cells-requires-clause-ready : goal.count_cells-cells-requires-clause-ready
count_cells-cells-requires-clause-ready c =
    let a = c.args in
    accepted-ready a.links.now a.places.now a.spans.now a.dimension a.count a.work.now (c.in_ok-check.ensures.accepted.sound refl)

pub overflow_cast-result : goal.overflow_cast-result
overflow_cast-result c =
    let a = c.args in
    let R = accepted-reads a.links.now a.places.now a.spans.now a.dimension a.count (length a.work.now) (c.in_ok-check.ensures.accepted.sound refl) in
    omega (arith, c.count_cells-cells.ensures.upper_bound, R.few)

pub returns : goal.returns
returns c =
    let a = c.args in
    let T = lent a.links.now a.places.now a.spans.now (length a.work.now) in
    let R = accepted-reads a.links.now a.places.now a.spans.now a.dimension a.count (length a.work.now) (c.in_ok-check.ensures.accepted.sound refl) in
    ap (answer 0) (c.count_cells-cells.ensures.value (held T a.dimension a.count) R.holds) ∙ cells_told T a.dimension a.count a.axis c.in_ok-check.ensures.told c.if-dimension-axis.false
