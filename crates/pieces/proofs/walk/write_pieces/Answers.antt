use Rattle.std.proofs.Common.{◌≡◌, Some, None, ◌+◌, ◌*◌, ◌/◌, ◌<◌, cond, ltb, length, set, ap, sym, ◌∙◌, subst, arith, w32, to_z, of_z, rules}
use Rattle.paper.specs.Span.{ends_of}
use Rattle.paper.specs.Ends.{ascending}
use Rattle.theory.specs.Walk.{above}
use Rattle.pieces.specs.Listed.{spans_of, NoneBelow, Lowest}
use Rattle.pieces.proofs.Count.{count-end, count-falls, no-pieces, pieces-few}
use Rattle.pieces.proofs.Write.{write-none, Walked, walk-start, walk-past, walk-piece, write-end}
use Rattle.pieces.proofs.walk.write_pieces.Goals as goal

pub returns-in_default : goal.returns-in_default
returns-in_default c =
    let a = c.args in
    let r = spans_of a.spans.now a.darts.now in
    let e : Lowest (ends_of r) None = subst (Lowest (ends_of r)) c.in_default.is c.lowest_end.ensures in
    record { value = sym (ap length (no-pieces r e)); memory_after = λ h. write-none r a.memory.now e }

pub loop-u-init : goal.loop-u-init
loop-u-init c =
    let a = c.args in
    let r = spans_of a.spans.now a.darts.now in
    let low : to_z w32 (of_z w32 c.in-Some.t) ≡ c.in-Some.t = search rules in
    let e : Lowest (ends_of r) (Some c.in-Some.t) = subst (Lowest (ends_of r)) c.in-Some.is c.lowest_end.ensures in
    walk-start r a.memory.now _ (subst (NoneBelow (ends_of r)) (sym low) e)

pub overflow_add-count : goal.overflow_add-count
overflow_add-count c =
    let a = c.args in
    let few = pieces-few a.spans.now a.darts.now in
    let K = c.loop-u.invariant.0.left in
    omega (arith, c.requires.0)

pub loop-u-preserved : goal.loop-u-preserved
loop-u-preserved c =
    let a = c.args in
    let L = c.loop-u in
    let r = spans_of a.spans.now a.darts.now in
    let up : to_z w32 (of_z w32 c.in-Some-next_end.u) ≡ c.in-Some-next_end.u = search rules in
    subst (λ z. Walked r a.memory.now L.memory z L.count) (sym up)
    (walk-past r a.memory.now L.memory _ c.in-Some-next_end.u L.count L.invariant (sym c.next_end.ensures ∙ c.in-Some-next_end.is) (sym c.is_covered_above.ensures ∙ c.if-is_covered_above.false))

pub loop-u-preserved-then-is_covered_above : goal.loop-u-preserved-then-is_covered_above
loop-u-preserved-then-is_covered_above c =
    let a = c.args in
    let L = c.loop-u in
    let r = spans_of a.spans.now a.darts.now in
    let up : to_z w32 (of_z w32 c.in-Some-next_end.u) ≡ c.in-Some-next_end.u = search rules in
    subst (λ z. Walked r a.memory.now c.put_pair.new.memory z (L.count + 1)) (sym up)
    (walk-piece r a.memory.now L.memory c.put_pair.new.memory _ c.in-Some-next_end.u L.count L.invariant (sym c.next_end.ensures ∙ c.in-Some-next_end.is)
    (sym c.is_covered_above.ensures ∙ c.if-is_covered_above.true) L.auto.memory
    (c.put_pair.ensures ∙ ap (λ z. cond (ltb L.count (length L.memory / 2)) (set (set L.memory (2 * L.count) (to_z w32 L.t-bits)) (2 * L.count + 1) z) L.memory) up))

pub loop-u-smaller : goal.loop-u-smaller
loop-u-smaller c =
    let a = c.args in
    let l = ends_of (spans_of a.spans.now a.darts.now) in
    let up : to_z w32 (of_z w32 c.in-Some-next_end.u) ≡ c.in-Some-next_end.u = search rules in
    subst (λ z. length (above z (ascending l)) < length (above (to_z w32 c.loop-u.t-bits) (ascending l))) (sym up)
    (count-falls (spans_of a.spans.now a.darts.now) _ c.in-Some-next_end.u (sym c.next_end.ensures ∙ c.in-Some-next_end.is))

pub loop-u-smaller-then-is_covered_above : goal.loop-u-smaller-then-is_covered_above
loop-u-smaller-then-is_covered_above c =
    let a = c.args in
    let l = ends_of (spans_of a.spans.now a.darts.now) in
    let up : to_z w32 (of_z w32 c.in-Some-next_end.u) ≡ c.in-Some-next_end.u = search rules in
    subst (λ z. length (above z (ascending l)) < length (above (to_z w32 c.loop-u.t-bits) (ascending l))) (sym up)
    (count-falls (spans_of a.spans.now a.darts.now) _ c.in-Some-next_end.u (sym c.next_end.ensures ∙ c.in-Some-next_end.is))

pub returns : goal.returns
returns c =
    let a = c.args in
    let L = c.loop-u in
    let r = spans_of a.spans.now a.darts.now in
    let e = sym c.next_end.ensures ∙ c.in_default-next_end.is in
    record { value = count-end r _ L.count L.invariant.0 e; memory_after = λ h. write-end r a.memory.now L.memory _ L.count (L.invariant.1 h) e }
