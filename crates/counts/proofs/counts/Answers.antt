use Rattle.std.proofs.Common.{◌≡◌, length, refl, ap, ◌∙◌, add-one, rules}
use Rattle.paper.specs.Refusal.{number, answer, judged_of}
use Rattle.paper.specs.Call.{held}
use Rattle.paper.specs.Table.{lent}
use Rattle.hold.proofs.Hold.{accepted-reads}
use Rattle.orbit.proofs.Held.{accepted-ready}
use Rattle.counts.proofs.Call.{fault-first, room_next, counts-told}
use Rattle.counts.proofs.counts.Goals as goal

pub returns-in_err-check : goal.returns-in_err-check
returns-in_err-check c =
    let a = c.args in
    let T = lent a.links.now a.places.now a.spans.now (length a.work.now) in
    let f = c.in_err-check.field-0.0 in
    let e : judged_of c.from_residual.result ≡ answer (number f.refusal) f.value = search rules in
    let r = fault-first T a.dimension a.count a.memory.now f c.in_err-check.ensures.told in
    record { value = e ∙ r.0; memory_after = r.1 }

pub returns-then-memory-m : goal.returns-then-memory-m
returns-then-memory-m c =
    let a = c.args in
    let T = lent a.links.now a.places.now a.spans.now (length a.work.now) in
    let r = room_next T a.dimension a.count a.memory.now c.in_ok-check.ensures.told c.if-memory-m.true in
    record { value = ap (λ x. answer (number x.refusal) x.value) c.from.ensures ∙ r.0; memory_after = r.1 }

pub put_counts-requires-clause-ready : goal.put_counts-requires-clause-ready
put_counts-requires-clause-ready c =
    let a = c.args in
    accepted-ready a.links.now a.places.now a.spans.now a.dimension a.count a.work.now (c.in_ok-check.ensures.accepted.sound refl)

pub returns : goal.returns
returns c =
    let a = c.args in
    let T = lent a.links.now a.places.now a.spans.now (length a.work.now) in
    let R = accepted-reads a.links.now a.places.now a.spans.now a.dimension a.count (length a.work.now) (c.in_ok-check.ensures.accepted.sound refl) in
    let r = counts-told T a.dimension a.count a.memory.now c.in_ok-check.ensures.told c.if-memory-m.false in
    record { value = ap (answer 0) (add-one a.dimension) ∙ r.0; memory_after = c.put_counts.ensures (held T a.dimension a.count) R.holds ∙ r.1 }
