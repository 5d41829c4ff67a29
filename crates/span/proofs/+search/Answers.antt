use Rattle.std.proofs.Common.{to_z-of_z}
use Rattle.span.proofs.Covering.{none_left, one_left}
use Rattle.span.proofs.+search.Goals as goal

pub returns-then-left-eq0 : goal.returns-then-left-eq0
returns-then-left-eq0 t c = none_left _ _ _ _ _ c.if-left-eq0.true

pub returns-then-covers_at : goal.returns-then-covers_at
returns-then-covers_at t c =
    let h = simp (to_z-of_z c.ranges.t) at c.covers_at.ensures in
    rw (one_left _ _ _ _ _ c.if-left-eq0.false, ← h, c.if-covers_at.true)

pub returns : goal.returns
returns t c =
    let h = simp (to_z-of_z c.ranges.t) at c.covers_at.ensures in
    rw (one_left _ _ _ _ _ c.if-left-eq0.false, ← h, c.if-covers_at.false)
    (simp (to_z-of_z c.ranges.t) at c.search.ensures)
