use Rattle.std.proofs.Common.{◌≡◌, ℕ, sym, refl, ap, ◌∙◌, arith}
use Rattle.carry.specs.Carried.{carried_rows}
use Rattle.carry.proofs.Rows.{rows_join}
use Rattle.carry.proofs.put_off.Goals as goal

pub returns-then-object-due : goal.returns-then-object-due
returns-then-object-due c =
    let a = c.args in
    let u = a.due in
    let U = c.requires.0 in
    let l = U.order in
    let k = c.requires.1.0 in
    let e : a.object ≡ u.object = c.if-object-due.true in record {
      due_in = (record { order = omega arith; within = c.requires.1.1.0; few = c.requires.1.1.1.0; object = c.requires.1.1.1.1 }, refl);
      oo_after = sym (rows_join (λ (q : ℕ). a.object) u.from u.to a.to a.oo.now l k)
          ∙ (λ i. carried_rows (λ (q : ℕ). a.object) u.to a.to (carried_rows (λ (q : ℕ). e i) u.from u.to a.oo.now));
    }

pub returns : goal.returns
returns c =
    let a = c.args in
    let k = c.settle.auto.oo in
    let w = c.requires.1.1.0 in record { due_in = (record { order = c.requires.1.0; within = omega arith; few = c.requires.1.1.1.0; object = c.requires.1.1.1.1 }, refl); oo_after = ap (carried_rows (λ (q : ℕ). a.object) a.due.to a.to) c.settle.ensures }
