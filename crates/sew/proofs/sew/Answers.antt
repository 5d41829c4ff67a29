use Rattle.std.proofs.Common.{sym, ◌∙◌}
use Rattle.hold.proofs.Stand.{plan-reads}
use Rattle.sew.proofs.Command.{sew-operands, sew-unpaired, sew-disagrees, sew-done}
use Rattle.sew.proofs.sew.Goals as goal

pub returns-in_err-admit_sew : goal.returns-in_err-admit_sew
returns-in_err-admit_sew c = λ R s P.
    let k = c.from_residual in
    rw (← c.from-axis.ensures, ← c.from-a.ensures, ← c.from-b.ensures)
    (sew-operands P _ _ _ k.result _ k.ensures.1 (c.in_err-admit_sew.ensures.told s.plan (plan-reads P).holds))

pub returns-in_default : goal.returns-in_default
returns-in_default c = λ R s P.
    let y = c.in_ok-admit_sew.ensures in
    rw (← c.from-axis.ensures, ← c.from-a.ensures, ← c.from-b.ensures)
    (sew-unpaired P _ _ _ (sym (y.told s.plan (plan-reads P).holds)) y.served _ c.saturating_sub.ensures c.in_default.ensures)

pub returns-then-not-all_agree : goal.returns-then-not-all_agree
returns-then-not-all_agree c = λ R s P.
    let y = c.in_ok-admit_sew.ensures in
    rw (← c.from-axis.ensures, ← c.from-a.ensures, ← c.from-b.ensures)
    (sew-disagrees P _ _ _ (sym (y.told s.plan (plan-reads P).holds)) y.served _ c.saturating_sub.ensures c.in-Some.ensures
    (sym c.all_agree.ensures ∙ c.if-not-all_agree.true))

pub returns : goal.returns
returns c = λ R s P.
    let y = c.in_ok-admit_sew.ensures in
    rw (← c.from-axis.ensures, ← c.from-a.ensures, ← c.from-b.ensures)
    (sew-done P _ _ _ (sym (y.told s.plan (plan-reads P).holds)) y.served _ c.saturating_sub.ensures c.in-Some.ensures
    (sym c.all_agree.ensures ∙ c.if-not-all_agree.false) c.fasten.ensures c.fasten-2.ensures)
