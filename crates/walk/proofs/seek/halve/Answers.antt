use Rattle.std.proofs.Common.{◌+◌, ◌/◌, arith}
use Rattle.walk.proofs.Seeking.{whole, up, down, met}
use Rattle.walk.proofs.seek.halve.Goals as goal

pub overflow_sub-to : goal.overflow_sub-to
overflow_sub-to c = omega (arith, c.requires.within)

pub loop-from-init : goal.loop-from-init
loop-from-init c = whole c.requires c.args.lo

pub overflow_add-middle : goal.overflow_add-middle
overflow_add-middle c =
    let B = c.loop-from.invariant in
    let P = c.requires in
    omega (arith, B.between, B.last, P.few)

pub get_end-requires : goal.get_end-requires
get_end-requires c =
    let B = c.loop-from.invariant in
    let P = c.requires in
    (P.half, omega (arith, c.loop-from-test.true, B.last, P.long))

pub overflow_add-from : goal.overflow_add-from
overflow_add-from c =
    let B = c.loop-from.invariant in
    let P = c.requires in
    omega (arith, c.loop-from-test.true, B.last, P.few)

pub loop-from-smaller-then-get_end-lo : goal.loop-from-smaller-then-get_end-lo
loop-from-smaller-then-get_end-lo c = omega (arith, c.loop-from-test.true)

pub loop-from-preserved-then-get_end-lo : goal.loop-from-preserved-then-get_end-lo
loop-from-preserved-then-get_end-lo c =
    let L = c.loop-from in
    up c.requires c.args.lo L.invariant ((L.from + L.to) / 2)
    (omega (arith, c.loop-from-test.true)) (omega (arith, c.loop-from-test.true)) (omega (arith, c.get_end.ensures.0, c.if-get_end-lo.true))

pub loop-from-smaller : goal.loop-from-smaller
loop-from-smaller c = omega (arith, c.loop-from-test.true)

pub loop-from-preserved : goal.loop-from-preserved
loop-from-preserved c =
    let L = c.loop-from in
    down c.requires c.args.lo L.invariant ((L.from + L.to) / 2)
    (omega (arith, c.loop-from-test.true)) (omega (arith, c.loop-from-test.true)) (omega (arith, c.get_end.ensures.0, c.if-get_end-lo.false))

pub returns : goal.returns
returns c = met c.requires c.args.lo c.loop-from.invariant c.loop-from-test.false
