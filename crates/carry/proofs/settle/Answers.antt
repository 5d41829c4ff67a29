use Rattle.std.proofs.Common.{ℕ, set, sym, refl, ap, ◌∙◌, arith}
use Rattle.carry.proofs.Rows.{rows_none, rows_more, rows_end}
use Rattle.carry.proofs.settle.Goals as goal

pub loop-q-init : goal.loop-q-init
loop-q-init c =
    let a = c.args in
    (omega arith, omega arith, refl, sym (rows_none (λ (q : ℕ). a.due.object) a.due.from a.due.from a.oo.now (omega arith)))

pub put-requires : goal.put-requires
put-requires c =
    let L = c.loop-q in
    let P = c.requires in
    let e = L.invariant.2 in
    let w = P.within in
    let f = P.few in
    (omega arith, P.object)

pub loop-q-smaller : goal.loop-q-smaller
loop-q-smaller c = omega arith

pub loop-q-preserved : goal.loop-q-preserved
loop-q-preserved c =
    let L = c.loop-q in
    let u = c.args.due in
    let P = c.put in
    let e = L.invariant.2 in
    let w = c.requires.within in
    (omega arith, omega arith, P.auto.s ∙ e, P.ensures ∙ ap (λ o. set o L.q u.object) L.invariant.3 ∙ rows_more (λ (q : ℕ). u.object) u.from L.q c.args.oo.now L.invariant.0 (omega arith))

pub shape_of-oo : goal.shape_of-oo
shape_of-oo c = c.loop-q.invariant.2

pub returns : goal.returns
returns c =
    let L = c.loop-q in
    let a = c.args in
    L.invariant.3 ∙ rows_end (λ (q : ℕ). a.due.object) a.due.from L.q a.due.to a.oo.now L.invariant.0 L.invariant.1 (omega arith)
