use Rattle.sweep.proofs.Sweeping.{sweep-none, sweep-stead, sweep-turn, sweep-more, sweep-done}
use Rattle.sweep.proofs.lay_cells.Goals as goal

pub loop-d-init : goal.loop-d-init
loop-d-init c = sweep-none c.requires.known c.requires.sweepable c.requires.k_lt_m

pub lay_turn-t-requires : goal.lay_turn-t-requires
lay_turn-t-requires c =
    let I = c.loop-d.invariant in
    record { known = sweep-stead c.requires.known c.requires.sweepable c.requires.k_lt_m I; turnable = sweep-turn c.requires.known c.requires.sweepable c.requires.k_lt_m I c.loop-d-test.true }

pub loop-d-preserved : goal.loop-d-preserved
loop-d-preserved c =
    let y = c.lay_turn-t in
    sweep-more c.requires.known c.requires.sweepable c.requires.k_lt_m c.loop-d.invariant c.loop-d-test.true y.auto.w y.auto.v y.auto.op y.auto.ol y.ensures

pub shape_of-op : goal.shape_of-op
shape_of-op c = c.loop-d.invariant.places

pub shape_of-ol : goal.shape_of-ol
shape_of-ol c = c.loop-d.invariant.ways

pub shape_of-w : goal.shape_of-w
shape_of-w c = c.loop-d.invariant.work

pub shape_of-v : goal.shape_of-v
shape_of-v c = c.loop-d.invariant.ends

pub returns : goal.returns
returns c = sweep-done c.requires.known c.requires.sweepable c.requires.k_lt_m c.loop-d.invariant c.loop-d-test.false
