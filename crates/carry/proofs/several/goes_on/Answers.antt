use Rattle.std.proofs.Common.{arith, to_z-of_z, le-ltb, lt-ltb}
use Rattle.carry.proofs.several.goes_on.Goals as goal

pub returns-then-left-eq0 : goal.returns-then-left-eq0
returns-then-left-eq0 c = simp (le-ltb 0 c.args.left (omega (arith, c.if-left-eq0.true)))

pub returns : goal.returns
returns c =
    let e = simp (to_z-of_z c.ranges.t) at c.covers_at.ensures in
    simp (lt-ltb 0 c.args.left (omega (arith, c.if-left-eq0.false))) e
