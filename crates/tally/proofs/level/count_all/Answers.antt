use Rattle.std.proofs.Common.{◌∙◌, arith}
use Rattle.tally.proofs.Found.{sound-kept}
use Rattle.tally.proofs.Uppers.{upper-sound}
use Rattle.tally.proofs.Levels.{rise-none, rise-more, rise-over, rise-done}
use Rattle.tally.proofs.level.count_all.Goals as goal

pub count_upper-requires : goal.count_upper-requires
count_upper-requires c =
    let S = c.requires.0 in
    (upper-sound S, (record { few = S.ready.darts; long = S.work }, S.few))

pub returns-in_err-total : goal.returns-in_err-total
returns-in_err-total c =
    let r = rise-over {v₀ = c.args.v.now} (rise-none c.requires.1 c.in_err-total.ensures.0) (omega arith) in
    rw c.from_residual.ensures (record { value = r.0; tallied = r.1; within = tt })

pub loop-k-init : goal.loop-k-init
loop-k-init c = let J = c.in_ok-total.ensures in (rise-none c.requires.1 J.0, J.1)

pub count_level-requires : goal.count_level-requires
count_level-requires c =
    let L = c.loop-k in
    let S = c.requires.0 in
    let f = L.invariant.1 in
    record { sound = sound-kept (L.invariant.0.long ∙ c.count_upper.auto.w) L.invariant.0.wide S; k_bound = (omega (arith, c.loop-k-test.true), (L.invariant.0.adds f, f)) }

pub loop-k-preserved : goal.loop-k-preserved
loop-k-preserved c =
    let K = c.count_level in
    let J = c.in_ok-total-2.ensures in
    (rise-more c.loop-k.invariant.0 (omega (arith, c.loop-k-test.true)) c.loop-k.invariant.1 K.auto.w K.auto.v J.0, J.1)

pub shape_of-w : goal.shape_of-w
shape_of-w c =
    c.loop-k.invariant.0.long ∙ c.count_upper.auto.w

pub shape_of-v : goal.shape_of-v
shape_of-v c =
    c.loop-k.invariant.0.wide

pub returns : goal.returns
returns c =
    let r = rise-done c.loop-k.invariant.0 (omega (arith, c.loop-k-test.false)) in
    record { value = r.0; tallied = r.1; within = c.loop-k.invariant.1 }
