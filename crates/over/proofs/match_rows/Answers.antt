use Rattle.std.proofs.Common.{refl, arith, Equal}
use Rattle.std.proofs.lemmas.Cmp.{int_ranked}
use Rattle.over.specs.Over.{rows}
use Rattle.over.proofs.Cross.{start, cmp-less, cmp-greater, past_own, past_other, past_both, ended, spent}
use Rattle.over.proofs.match_rows.Goals as goal

pub loop-i-init : goal.loop-i-init
loop-i-init c =
    let a = c.args in
    let r = c.requires.overable in
    start (rows a.heads a.a) a.op.now a.m a.x a.c a.y a.e a.ol.now r.up r.other_up

pub shape_of-ol-then-j-e : goal.shape_of-ol-then-j-e
shape_of-ol-then-j-e c = c.loop-i.invariant.same

pub returns-then-j-e : goal.returns-then-j-e
returns-then-j-e c = spent c.loop-i.invariant c.if-j-e.true

pub put_rows-requires : goal.put_rows-requires
put_rows-requires c =
    let L = c.loop-i.invariant in
    let r = c.requires.overable in
    let h = c.loop-i-test.true in
    let k = c.if-j-e.false in record { a_lt_link_width = (r.axis, (omega (arith, L.jl, r.other), omega (arith, r.own))); link_width_in_bounds = (omega (arith, L.same, c.requires.link_width_in_bounds.0), omega (arith, L.same, L.jl, c.requires.link_width_in_bounds.1)) }

pub loop-i-preserved-in-Less : goal.loop-i-preserved-in-Less
loop-i-preserved-in-Less c = past_own c.loop-i.invariant c.loop-i-test.true c.if-j-e.false _ _ refl refl (cmp-less _ _ c.in-Less.ensures)

pub loop-i-preserved-in-Greater : goal.loop-i-preserved-in-Greater
loop-i-preserved-in-Greater c = past_other c.loop-i.invariant c.loop-i-test.true c.if-j-e.false _ _ refl refl (cmp-greater _ _ c.in-Greater.ensures)

pub loop-i-preserved : goal.loop-i-preserved
loop-i-preserved c = past_both c.loop-i.invariant c.loop-i-test.true c.if-j-e.false _ _ refl refl (int_ranked _ _ Equal c.in-Equal.ensures) c.put_rows.auto.ol c.put_rows.ensures

pub shape_of-ol : goal.shape_of-ol
shape_of-ol c = c.loop-i.invariant.same

pub returns : goal.returns
returns c = ended c.loop-i.invariant c.loop-i-test.false
