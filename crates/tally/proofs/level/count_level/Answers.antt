use Rattle.std.proofs.Common.{◌∙◌, arith}
use Rattle.tally.proofs.Found.{sound-kept}
use Rattle.tally.proofs.Levels.{sweep-none, sweep-turn, sweep-more, sweep-over, sweep-done}
use Rattle.tally.proofs.level.count_level.Goals as goal

pub loop-d-init : goal.loop-d-init
loop-d-init c =
    sweep-none c.requires.k_bound.1.0 c.requires.k_bound.1.1

pub count_turn-requires : goal.count_turn-requires
count_turn-requires c =
    let L = c.loop-d in
    sweep-turn L.invariant (sound-kept L.invariant.long L.invariant.wide c.requires.sound) c.loop-d-test.true c.requires.k_bound.0

pub shape_of-w-in_err-r : goal.shape_of-w-in_err-r
shape_of-w-in_err-r c =
    let L = c.loop-d in
    c.count_turn.auto.w ∙ L.invariant.long

pub shape_of-v-in_err-r : goal.shape_of-v-in_err-r
shape_of-v-in_err-r c =
    let L = c.loop-d in
    c.count_turn.auto.v ∙ L.invariant.wide

pub returns-in_err-r : goal.returns-in_err-r
returns-in_err-r c = rw c.from_residual.ensures (sweep-over c.loop-d.invariant c.in_err-r.ensures.0 (omega arith), tt)

pub loop-d-preserved : goal.loop-d-preserved
loop-d-preserved c =
    let K = c.count_turn in
    let J = c.in_ok-r.ensures in
    sweep-more c.loop-d.invariant
    c.loop-d-test.true K.auto.w K.auto.v
    J.0 J.1

pub shape_of-w : goal.shape_of-w
shape_of-w c =
    c.loop-d.invariant.long

pub shape_of-v : goal.shape_of-v
shape_of-v c =
    c.loop-d.invariant.wide

pub returns : goal.returns
returns c =
    (sweep-done c.loop-d.invariant c.loop-d-test.false, c.loop-d.invariant.stage.fits)
