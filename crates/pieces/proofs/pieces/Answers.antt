use Rattle.std.proofs.Common.{◌≡◌, length, sym, ap, ◌∙◌, rules}
use Rattle.paper.specs.Refusal.{answer, checked_of, paired_of}
use Rattle.paper.specs.Table.{lent}
use Rattle.paper.specs.declared.Pairs.{Pairs}
use Rattle.orbit.proofs.Held.{accepted-ready}
use Rattle.pieces.proofs.Call.{plan-in, plan-rows, fault-first, axis-next, dart-next, call-told}
use Rattle.pieces.proofs.pieces.Goals as goal

pub returns-in_err-map_err : goal.returns-in_err-map_err
returns-in_err-map_err c =
    let a = c.args in
    let T = lent a.links.now a.places.now a.spans.now (length a.work.now) in
    let P : Pairs = record { number = (checked_of c.check.result).number; pairs = 0 } in
    let e : paired_of c.from_residual.result ≡ P = search rules in
    let r = fault-first T a.dimension a.count a.dart a.axis a.memory.now c.check.result c.in_err-map_err.ensures.variant c.check.ensures.told in
    record { value = e ∙ r.0; memory_after = r.1 }

pub returns-then-dimension-axis : goal.returns-then-dimension-axis
returns-then-dimension-axis c =
    let a = c.args in
    let T = lent a.links.now a.places.now a.spans.now (length a.work.now) in
    let e : checked_of c.check.result ≡ answer 0 0 = search rules in
    let r = axis-next T a.dimension a.count a.dart a.axis a.memory.now (sym e ∙ c.check.ensures.told) c.if-dimension-axis.true in
    record { value = r.0; memory_after = r.1 }

pub returns-then-count-dart : goal.returns-then-count-dart
returns-then-count-dart c =
    let a = c.args in
    let T = lent a.links.now a.places.now a.spans.now (length a.work.now) in
    let e : checked_of c.check.result ≡ answer 0 0 = search rules in
    let r = dart-next T a.dimension a.count a.dart a.axis a.memory.now (sym e ∙ c.check.ensures.told) c.if-dimension-axis.false c.if-count-dart.true in
    record { value = r.0; memory_after = r.1 }

pub of_cell-requires : goal.of_cell-requires
of_cell-requires c =
    let a = c.args in
    let e : checked_of c.check.result ≡ answer 0 0 = search rules in
    let A = c.check.ensures.accepted.sound (ap (λ r. r.number) e) in
    record {
      ready = accepted-ready a.links.now a.places.now a.spans.now a.dimension a.count a.work.now A;
      by_index = plan-rows a.links.now a.places.now a.spans.now (length a.work.now) a.dimension a.count A;
      k_le_m = (c.if-dimension-axis.false, c.if-count-dart.false);
    }

pub returns : goal.returns
returns c =
    let a = c.args in
    let T = lent a.links.now a.places.now a.spans.now (length a.work.now) in
    let e : checked_of c.check.result ≡ answer 0 0 = search rules in
    let A = c.check.ensures.accepted.sound (ap (λ r. r.number) e) in
    let r = call-told T a.dimension a.count a.dart a.axis a.memory.now (sym e ∙ c.check.ensures.told) c.if-dimension-axis.false c.if-count-dart.false _ _
    (c.of_cell.ensures _ (plan-in a.links.now a.places.now a.spans.now (length a.work.now) a.dimension a.count A)) in
    record { value = r.0; memory_after = r.1 }
