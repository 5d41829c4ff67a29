use Rattle.std.proofs.Common.{sym}
use Rattle.orbit.proofs.Refused.{refused-edit, refused-size}
use Rattle.edit.proofs.Emptied.{new-done}
use Rattle.edit.proofs.new.new.Goals as goal

pub returns-in_err-admit_new : goal.returns-in_err-admit_new
returns-in_err-admit_new c = λ R s w P.
    let k = c.from_residual in
    let why = c.in_err-admit_new in
    rw (← c.from.ensures)
    (rw (refused-size k.result _ k.ensures.1 c.from.result c.args.m, refused-size k.result _ k.ensures.1 0 c.args.n)
    (refused-edit k.result _ k.ensures.1 P.held (why.ensures R s)))

pub returns : goal.returns
returns c = λ R s w P.
    rw (← c.from.ensures) (new-done P _ (sym (c.in_ok-admit_new.ensures R s)) c.clear.ensures c.clear-2.ensures c.clear-3.ensures)
