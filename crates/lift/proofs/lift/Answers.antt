use Rattle.std.proofs.Common.{◌≡◌, ℕ, ◌≤◌, length, sym, refl, ap, ◌∙◌, subst, ◌+◌, arith, rules, Err}
use Rattle.paper.specs.Refusal.{number, answer, judged_of}
use Rattle.paper.specs.Table.{lent, lent_lifted, lifted_lengths, lifted_capacity}
use Rattle.paper.specs.Call.{held, check}
use Rattle.theory.proofs.Judge.{number-within}
use Rattle.lift.specs.Lifted.{Lifted}
use Rattle.lift.proofs.Known.{liftable}
use Rattle.lift.proofs.Tail.{blank-all}
use Rattle.lift.proofs.Valid.{call-left}
use Rattle.lift.proofs.Call.{Called, call-top, call-fault, call-over, call-done}
use Rattle.lift.proofs.lift.Goals as goal
use Rattle.lift.proofs.lift.Goals.{In_ok-check}

pub returns-then-dimension-eq-DIMENSION : goal.returns-then-dimension-eq-DIMENSION
returns-then-dimension-eq-DIMENSION c =
    let a = c.args in
    let T = lent a.links.now a.places.now a.spans.now (length a.work.now) in
    let O = lent_lifted a.ol.now a.op.now a.oo.now (length a.v.now) in
    let R = lifted_capacity (lifted_lengths O) in
    let e = ap (λ f. judged_of (Err f)) c.from.ensures in
    let r = call-left T a.dimension a.count R O (subst (λ r. Called T a.dimension a.count R O r O) (sym e) (call-top T a.dimension a.count R O c.if-dimension-eq-DIMENSION.true refl)) in
    record { told = r.0; tables = r.1.0; left = r.1.1 }

pub returns-in_err-check : goal.returns-in_err-check
returns-in_err-check c =
    let a = c.args in
    let T = lent a.links.now a.places.now a.spans.now (length a.work.now) in
    let O = lent_lifted a.ol.now a.op.now a.oo.now (length a.v.now) in
    let R = lifted_capacity (lifted_lengths O) in
    let f = c.in_err-check.field-0.0 in
    let e : judged_of c.from_residual.result ≡ answer (number f.refusal) f.value = search rules in
    let t = c.in_err-check.ensures.told in
    let w = (number-within f.refusal).0 in
    let r = call-left T a.dimension a.count R O
    (subst (λ r. Called T a.dimension a.count R O r O) (sym (e ∙ t))
    (call-fault T a.dimension a.count R O c.if-dimension-eq-DIMENSION.false (λ z. let q = ap (λ x. x.number) t ∙ z in omega arith) refl)) in
    record { told = r.0; tables = r.1.0; left = r.1.1 }

-- the check accepts
accepts : (c : In_ok-check) → let a = c.args in (check (lent a.links.now a.places.now a.spans.now (length a.work.now)) a.dimension a.count).number ≡ 0
accepts c = sym (ap (λ x. x.number) c.in_ok-check.ensures.told)

pub lift_side-raised-requires : goal.lift_side-raised-requires
lift_side-raised-requires c =
    let A = c.in_ok-check.ensures.accepted.sound refl in
    record { liftable = liftable A c.lifted-room.ensures; m_nonzero = (A.low, (let h = A.high in let o = c.if-dimension-eq-DIMENSION.false in omega arith)) }

pub returns-in_default : goal.returns-in_default
returns-in_default c =
    let a = c.args in
    let T = lent a.links.now a.places.now a.spans.now (length a.work.now) in
    let O = lent_lifted a.ol.now a.op.now a.oo.now (length a.v.now) in
    let R = lifted_capacity (lifted_lengths O) in
    let y = c.lift_side-raised in
    let e = c.lifted-room.ensures in
    let O' = lent_lifted y.new.ol y.new.op y.new.oo (length y.new.v) in
    let X = subst (λ (r : ℕ). Lifted (held T a.dimension a.count) r 18446744073709551615 O (r + 1) O') e c.in_default.ensures.0 in
    let g = ap (λ f. judged_of (Err f)) c.from-in_default.ensures in
    let r = call-left T a.dimension a.count R O
    (subst (λ r. Called T a.dimension a.count R O r O') (sym g)
    (call-over T a.dimension a.count R O c.if-dimension-eq-DIMENSION.false (accepts (goal.at.returns-in_default c).In_ok-check) X (omega arith))) in
    record { told = r.0; tables = r.1.0; left = r.1.1 }

pub overflow_cast-result : goal.overflow_cast-result
unfolding lifted_capacity
overflow_cast-result c =
    let l = c.in-Some.ensures.1 in
    let e = c.lifted-room.ensures in
    omega arith

pub returns : goal.returns
returns c =
    let a = c.args in
    let T = lent a.links.now a.places.now a.spans.now (length a.work.now) in
    let O = lent_lifted a.ol.now a.op.now a.oo.now (length a.v.now) in
    let R = lifted_capacity (lifted_lengths O) in
    let y = c.lift_side-raised in
    let n = c.in-Some.darts in
    let e = c.lifted-room.ensures in
    let O' = lent_lifted y.new.ol y.new.op y.new.oo (length y.new.v) in
    let X = subst (λ (r : ℕ). Lifted (held T a.dimension a.count) r 18446744073709551615 O n O') e c.in-Some.ensures.0 in
    let r = call-left T a.dimension a.count R O
    (call-done T a.dimension a.count R O c.if-dimension-eq-DIMENSION.false (accepts (goal.at.returns c).In_ok-check) X (subst (λ (r : ℕ). n ≤ r) e c.in-Some.ensures.1)
    (let g = c.well_formed in
    let p = g.1.1.1.1.1.1.0.0 in
    let q = g.1.1.1.1.1.1.1.0.0 in
    let t = g.1.1.1.1.1.1.1.1.0.0 in
    blank-all O (omega arith) (omega arith) (omega arith))) in
    record { told = r.0; tables = r.1.0; left = r.1.1 }
