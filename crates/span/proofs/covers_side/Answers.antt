use Rattle.std.proofs.Common.{to_z-of_z}
use Rattle.span.proofs.covers_side.Goals as goal

pub returns-then-lo-t : goal.returns-then-lo-t
returns-then-lo-t c =
    let f = c.ranges in
    let h = simp (to_z-of_z f.lo, to_z-of_z f.t) at c.if-lo-t.true in
    simp (to_z-of_z f.t, to_z-of_z f.hi, c.if-up.true, h)

pub returns-then-up : goal.returns-then-up
returns-then-up c =
    let f = c.ranges in
    let h = simp (to_z-of_z f.lo, to_z-of_z f.t) at c.if-lo-t.false in
    simp (c.if-up.true, h)

pub returns-then-lo-t-2 : goal.returns-then-lo-t-2
returns-then-lo-t-2 c =
    let f = c.ranges in
    let h = simp (to_z-of_z f.lo, to_z-of_z f.t) at c.if-lo-t-2.true in
    simp (to_z-of_z f.t, to_z-of_z f.hi, c.if-up.false, h)

pub returns : goal.returns
returns c =
    let f = c.ranges in
    let h = simp (to_z-of_z f.lo, to_z-of_z f.t) at c.if-lo-t-2.false in
    simp (c.if-up.false, h)
