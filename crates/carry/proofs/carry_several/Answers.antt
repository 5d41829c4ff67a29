use Rattle.std.proofs.Common.{ℕ, refl, ap, ◌∙◌, arith}
use Rattle.carry.specs.Carried.{carried_at, carried_rows}
use Rattle.carry.proofs.Rows.{within-less, rows_none}
use Rattle.carry.proofs.carry_several.Goals as goal

pub carry_rows-requires : goal.carry_rows-requires
carry_rows-requires c =
    let k = c.settle.auto.oo in
    record { own = c.requires.own; within = (within-less c.requires.within.0 (omega arith) (omega arith), c.requires.within.1.0) }

pub returns : goal.returns
returns c =
    let a = c.args in
    let k = c.settle.auto.oo in
    let l = c.carry_rows.auto.oo in
    let w = c.requires.within.0.objects in record {
      due_in = (record { order = omega arith; within = omega arith; few = c.requires.within.0.few; object = omega arith }, refl);
      oo_after = rows_none (λ (q : ℕ). 0) a.to a.to _ (omega arith)
          ∙ c.carry_rows.ensures
          ∙ ap (carried_rows (carried_at a.spans.now a.op.now a.m a.d) a.due.to a.to) c.settle.ensures;
    }
