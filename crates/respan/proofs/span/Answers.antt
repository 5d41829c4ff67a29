use Rattle.std.proofs.Common.{sym, ◌∙◌}
use Rattle.kernel.proofs.Signed.{back}
use Rattle.orbit.proofs.Refused.{nonzero, refused-edit}
use Rattle.respan.proofs.Edited.{first-dart}
use Rattle.respan.proofs.span.Goals as goal

pub returns-in_err-admit_dart : goal.returns-in_err-admit_dart
returns-in_err-admit_dart c R s ps P =
    let a = c.args in
    let k = c.from_residual in
    let why = c.in_err-admit_dart in
    rw (← c.from-d.ensures)
    (refused-edit k.result _ k.ensures.1 P.held (why.ensures ∙ first-dart P c.from-d.result a.lo a.hi a.object (λ z. nonzero why.field-0.0 (why.ensures ∙ z))))

pub join_cell-requires-clause-rows : goal.join_cell-requires-clause-rows
join_cell-requires-clause-rows c = (c.requires.rows, sym c.in_ok-admit_dart.ensures)

pub returns : goal.returns
returns c R s ps P =
    let a = c.args in
    rw (← c.from-d.ensures, ← back a.lo c.ranges.lo.sfits, ← back a.hi c.ranges.hi.sfits) (c.join_cell.ensures R s ps P)
