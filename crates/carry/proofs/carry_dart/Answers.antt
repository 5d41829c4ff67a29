use Rattle.std.proofs.Common.{ℕ, ◌+◌, ◌*◌, ◌≤◌, length, sym, ap, ◌∙◌, arith}
use Rattle.paper.specs.Table.{row_at}
use Rattle.span.proofs.Row.{row_count}
use Rattle.carry.specs.Carried.{carried_at, carried_rows, settled}
use Rattle.carry.proofs.Rows.{within-less, rows_none}
use Rattle.carry.proofs.carry_dart.Goals as goal

pub returns-then-top-due : goal.returns-then-top-due
returns-then-top-due c =
    let a = c.args in
    let z = c.if-top-due.true in
    let none = c.requires.due_in.1.1 z in record { due_in_2 = (c.requires.due_in.0, omega arith); oo_after = sym (rows_none (carried_at a.spans.now a.op.now a.m a.d) a.due.to a.due.to (settled a.due a.oo.now) (omega arith)) }

pub carry_spans-requires : goal.carry_spans-requires
carry_spans-requires c =
    let r = c.row_length-all in
    let a = c.args in
    let e = r.ensures.0 ∙ row_count a.spans.now a.d c.requires.own.0.row in
    let l = c.requires.due_in.1.0 in
    let k : a.top + r.result * 2 ≤ a.top + length (row_at a.spans.now a.d) * 2 = omega arith in
    record { own = (c.requires.own.0, (e, omega arith)); within = (within-less c.requires.own.1.0 k (omega arith), (λ q g u. c.requires.own.1.1 q g (omega arith), c.requires.due_in.0)) }

pub returns : goal.returns
returns c =
    let r = c.row_length-all in
    let a = c.args in
    let e = r.ensures.0 ∙ row_count a.spans.now a.d c.requires.own.0.row in
    let t = c.carry_spans.ensures.due_in.1 in record { due_in_2 = (c.carry_spans.ensures.due_in.0, t ∙ ap (λ (k : ℕ). a.top + k * 2) e); oo_after = c.carry_spans.ensures.oo_after ∙ ap (λ (k : ℕ). carried_rows (carried_at a.spans.now a.op.now a.m a.d) a.due.to k (settled a.due a.oo.now)) (sym t) }
