use Rattle.std.proofs.Common.{arith}
use Rattle.fault.specs.Fault.{fault_along}
use Rattle.fault.proofs.Tried.{is-linked, counted, along-other}
use Rattle.checker.proofs.is_at_fault_along.Goals as goal

pub is_unlinked-requires : goal.is_unlinked-requires
is_unlinked-requires c =
    let a = c.args in
    let p = c.requires in
    let t = rw c.in-LinkNotUndone.is at p.1.0 in
    (is-linked a.links.now a.places.now a.spans.now a.m a.n 7 (omega arith) p.0 t, p.1.1)

pub is_unpaired-requires : goal.is_unpaired-requires
is_unpaired-requires c =
    let a = c.args in
    let p = c.requires in
    let t = rw c.in-PairNotUndone.is at p.1.0 in
    (is-linked a.links.now a.places.now a.spans.now a.m a.n 8 (omega arith) p.0 t, p.1.1)

pub is_displaced-requires : goal.is_displaced-requires
is_displaced-requires c =
    let a = c.args in
    let p = c.requires in
    let t = rw c.in-PlacesDiffer.is at p.1.0 in
    (is-linked a.links.now a.places.now a.spans.now a.m a.n 9 (omega arith) p.0 t, (p.0.places_fit, p.1.1))

pub is_respanned-requires : goal.is_respanned-requires
is_respanned-requires c =
    let a = c.args in
    let p = c.requires in
    let t = rw c.in-RowsDiffer.is at p.1.0 in
    (is-linked a.links.now a.places.now a.spans.now a.m a.n 11 (omega arith) p.0 t, (p.0.spans_fit, (counted a.links.now a.places.now a.spans.now a.m a.n 11 (omega arith) t, p.1.1)))

pub returns-in-LinkBeyond : goal.returns-in-LinkBeyond
unfolding fault_along
returns-in-LinkBeyond c = rw c.in-LinkBeyond.is c.is_beyond.ensures

pub returns-in-LinkNotUndone : goal.returns-in-LinkNotUndone
unfolding fault_along
returns-in-LinkNotUndone c = rw c.in-LinkNotUndone.is c.is_unlinked.ensures

pub returns-in-PairNotUndone : goal.returns-in-PairNotUndone
unfolding fault_along
returns-in-PairNotUndone c = rw c.in-PairNotUndone.is c.is_unpaired.ensures

pub returns-in-PlacesDiffer : goal.returns-in-PlacesDiffer
unfolding fault_along
returns-in-PlacesDiffer c = rw c.in-PlacesDiffer.is c.is_displaced.ensures

pub returns-in-RowsDiffer : goal.returns-in-RowsDiffer
unfolding fault_along
returns-in-RowsDiffer c = rw c.in-RowsDiffer.is c.is_respanned.ensures

pub returns-in_default : goal.returns-in_default
returns-in_default c =
    let a = c.args in
    let r = c.in_default in
    along-other a.links.now a.places.now a.spans.now a.m a.n a.refusal a.d a.i r.not-LinkBeyond r.not-LinkNotUndone r.not-PairNotUndone r.not-PlacesDiffer r.not-RowsDiffer
