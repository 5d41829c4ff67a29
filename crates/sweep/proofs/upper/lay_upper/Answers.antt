use Rattle.sweep.proofs.Sweeping.{laying-none, laying-stead, laying-more, laying-done}
use Rattle.sweep.proofs.upper.lay_upper.Goals as goal

pub loop-d-init : goal.loop-d-init
loop-d-init c = laying-none c.requires.known c.requires.reached

pub lay_own-requires : goal.lay_own-requires
lay_own-requires c =
    let I = c.loop-d.invariant in
    record { known = laying-stead c.requires.known I; reached = I.spread.reached; d_lt_n = (c.loop-d-test.true, c.requires.k_le_m) }

pub loop-d-preserved : goal.loop-d-preserved
loop-d-preserved c =
    let y = c.lay_own in
    laying-more c.requires.known c.loop-d.invariant c.requires.k_le_m.0 c.loop-d-test.true y.auto.op y.auto.ol y.ensures

pub shape_of-op : goal.shape_of-op
shape_of-op c = c.loop-d.invariant.places

pub shape_of-ol : goal.shape_of-ol
shape_of-ol c = c.loop-d.invariant.links

pub returns : goal.returns
returns c = laying-done c.requires.known c.loop-d.invariant c.loop-d-test.false
