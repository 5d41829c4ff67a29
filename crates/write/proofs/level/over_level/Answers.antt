use Rattle.std.proofs.Common.{◌<◌, ◌≤◌, arith}
use Rattle.write.proofs.Bounding.{bounds-top, bounds-none, bounds-stead, bounds-done, bounds-at, bounds-more}
use Rattle.write.proofs.level.over_level.Goals as goal

pub returns-then-l : goal.returns-then-l
returns-then-l c = bounds-top c.requires.known c.if-l.true c.requires.filed

pub loop-d-init : goal.loop-d-init
loop-d-init c =
    let low : (c.args.l.k < c.args.l.m) × (c.args.l.h ≤ 1) = (omega (arith, c.requires.k_le_m.0, c.if-l.false), c.requires.k_le_m.1) in
    bounds-none c.requires.known (low) c.requires.filed

pub over_block-requires : goal.over_block-requires
over_block-requires c =
    let low : (c.args.l.k < c.args.l.m) × (c.args.l.h ≤ 1) = (omega (arith, c.requires.k_le_m.0, c.if-l.false), c.requires.k_le_m.1) in
    let I = c.loop-d.invariant in
    record { known = bounds-stead c.requires.known (low) c.requires.filed I; bounded = bounds-at c.requires.known (low) c.requires.filed I c.loop-d-test.true }

pub loop-d-preserved : goal.loop-d-preserved
loop-d-preserved c =
    let low : (c.args.l.k < c.args.l.m) × (c.args.l.h ≤ 1) = (omega (arith, c.requires.k_le_m.0, c.if-l.false), c.requires.k_le_m.1) in
    let o = c.over_block in
    bounds-more c.requires.known (low) c.requires.filed c.loop-d.invariant c.loop-d-test.true o.auto.ol o.ensures

pub shape_of-ol : goal.shape_of-ol
shape_of-ol c = c.loop-d.invariant.long

pub returns : goal.returns
returns c =
    let low : (c.args.l.k < c.args.l.m) × (c.args.l.h ≤ 1) = (omega (arith, c.requires.k_le_m.0, c.if-l.false), c.requires.k_le_m.1) in
    bounds-done c.requires.known (low) c.requires.filed c.loop-d.invariant c.loop-d-test.false
