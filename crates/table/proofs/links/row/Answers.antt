use Rattle.std.proofs.Common.{◌∙◌, le-ltb, eq-eqb, ne_eqb}
use Rattle.paper.specs.Call.{row_in, row_call}
use Rattle.table.proofs.Place.{plan-row, lifted-row, plan-none, lifted-none, other-side}
use Rattle.table.proofs.links.row.Goals as goal

pub returns-then-dart-plan : goal.returns-then-dart-plan
unfolding row_call
returns-then-dart-plan c =
    let a = c.args in
    record { result_value = simp (eq-eqb _ _ c.if-side-eq0.true) c.whole_row.ensures.result_value; ref_ptr_value = c.whole_row.ensures.ref_ptr_value ∙ plan-row a.plan.now a.lifted.now a.plan.ref_ptr a.lifted.ref_ptr a.side a.dart c.if-side-eq0.true c.if-dart-plan.true }

pub returns-then-side-eq0 : goal.returns-then-side-eq0
unfolding row_call row_in
returns-then-side-eq0 c =
    let a = c.args in
    record { result_value = simp (eq-eqb _ _ c.if-side-eq0.true, le-ltb _ _ c.if-dart-plan.false); ref_ptr_value = plan-none a.plan.now a.lifted.now a.plan.ref_ptr a.lifted.ref_ptr a.side a.dart c.if-side-eq0.true c.if-dart-plan.false }

pub returns-then-dart-lifted : goal.returns-then-dart-lifted
unfolding row_call
returns-then-dart-lifted c =
    let a = c.args in
    record { result_value = simp (ne_eqb _ _ c.if-side-eq0.false, eq-eqb _ _ c.if-side-eq1.true) (c.shorter.ensures.0 ∙ c.whole_row-then-dart-lifted.ensures.result_value); ref_ptr_value = c.shorter.ensures.1 ∙ c.whole_row-then-dart-lifted.ensures.ref_ptr_value ∙ lifted-row a.plan.now a.lifted.now a.plan.ref_ptr a.lifted.ref_ptr a.side a.dart c.if-side-eq1.true c.if-dart-lifted.true }

pub returns-then-side-eq1 : goal.returns-then-side-eq1
unfolding row_call row_in
returns-then-side-eq1 c =
    let a = c.args in
    record { result_value = simp (ne_eqb _ _ c.if-side-eq0.false, eq-eqb _ _ c.if-side-eq1.true, le-ltb _ _ c.if-dart-lifted.false); ref_ptr_value = lifted-none a.plan.now a.lifted.now a.plan.ref_ptr a.lifted.ref_ptr a.side a.dart c.if-side-eq1.true c.if-dart-lifted.false }

pub returns : goal.returns
unfolding row_call
returns c =
    let a = c.args in
    record { result_value = simp (ne_eqb _ _ c.if-side-eq0.false, ne_eqb _ _ c.if-side-eq1.false); ref_ptr_value = other-side a.plan.now a.lifted.now a.plan.ref_ptr a.lifted.ref_ptr a.side a.dart c.if-side-eq0.false c.if-side-eq1.false }
