use Rattle.std.proofs.Common.{◌++◌, length, drop, sym, ap, ◌∙◌, take_all, arith}
use Rattle.paper.specs.Below.{onto}
use Rattle.kernel.specs.Copy.{copied}
use Rattle.table.proofs.Copy.{short, fitting}
use Rattle.table.proofs.links.copy_row.Goals as goal

pub returns-then-out-part : goal.returns-then-out-part
returns-then-out-part c =
    let a = c.args in
    let e = short c.row-part.result.now a.out.now c.if-out-part.true in
    rw (← c.row-part.ensures.result_value) record { value = sym (ap length e); out_after = sym (ap (λ w. onto w a.out.now) e) }

pub returns : goal.returns
unfolding copied
returns c =
    let a = c.args in
    let e = fitting c.row-part.result.now a.out.now c.if-out-part.false in
    let part = c.row-part.result.now in
    rw (← c.row-part.ensures.result_value)
    record {
      value = sym (ap length e);
      out_after = c.copy.ensures ∙ ap (λ l. l ++ drop (length part) a.out.now) (take_all (length part) part (omega arith)) ∙ sym (ap (λ w. onto w a.out.now) e);
    }
