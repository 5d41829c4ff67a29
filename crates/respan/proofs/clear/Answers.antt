use Rattle.std.proofs.Common.{[], sym, ◌∙◌}
use Rattle.paper.specs.Map.{owned}
use Rattle.orbit.proofs.Refused.{refused-edit}
use Rattle.respan.specs.Splice.{respliced}
use Rattle.respan.proofs.Edited.{dart-within, clear_first, clear-row, clear-accepted}
use Rattle.respan.proofs.clear.Goals as goal

pub returns-in_err-admit_dart : goal.returns-in_err-admit_dart
returns-in_err-admit_dart c R s ps P =
    let k = c.from_residual in
    rw (← c.from-d.ensures) (refused-edit k.result _ k.ensures.1 P.held (c.in_err-admit_dart.ensures ∙ clear_first P c.from-d.result))

pub returns : goal.returns
returns c R s ps P =
    let a = c.args in
    let d = c.from-d.result in
    let z = sym c.in_ok-admit_dart.ensures in
    rw (← c.from-d.ensures)
    (clear-accepted P d z
    (c.splice_cell.ensures R s ps (λ l. []) P
    (clear-row P d (dart-within a.m a.n d z) ∙ (λ k. respliced (sym c.removal-s.ensures k) (owned s.plan d)))))
