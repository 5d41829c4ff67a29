use Rattle.std.proofs.Common.{◌≡◌, false, ◌||◌, eqb, length, get_or, sym, ◌∙◌, subst, arith, eq-eqb, ne_eqb}
use Rattle.paper.specs.Table.{row_at}
use Rattle.theory.proofs.Bool.{or_left, or_right}
use Rattle.span.specs.Row.{RowIn}
use Rattle.ends.specs.Gather.{known_by}
use Rattle.ends.proofs.Gathering.{spans-there}
use Rattle.ends.proofs.gather.is_known.Goals as goal

pub row_length-requires : goal.row_length-requires
row_length-requires c =
    subst (RowIn c.args.spans.now) (sym c.get.ensures.0) (c.requires.rows c.args.q c.requires.first (omega arith))

pub returns-then-row_length-eq0 : goal.returns-then-row_length-eq0
returns-then-row_length-eq0 c =
    let a = c.args in
    sym (or_left (eqb (length (row_at a.spans.now (get_or a.work.now a.q 0))) 0) (known_by a.spans.now a.work.now a.from a.q 1 || known_by a.spans.now a.work.now a.from a.q 2)
    (eq-eqb (length (row_at a.spans.now (get_or a.work.now a.q 0))) 0 (sym (c.row_length.ensures.0 ∙ spans-there c.requires c.get.ensures.0) ∙ c.if-row_length-eq0.true)))

pub returns-then-is_known_by : goal.returns-then-is_known_by
returns-then-is_known_by c =
    let a = c.args in
    sym (or_right (eqb (length (row_at a.spans.now (get_or a.work.now a.q 0))) 0) (known_by a.spans.now a.work.now a.from a.q 1 || known_by a.spans.now a.work.now a.from a.q 2) (or_left (known_by a.spans.now a.work.now a.from a.q 1) (known_by a.spans.now a.work.now a.from a.q 2) (sym c.is_known_by.ensures ∙ c.if-is_known_by.true)))

pub returns : goal.returns
returns c =
    let a = c.args in
    let z : eqb (length (row_at a.spans.now (get_or a.work.now a.q 0))) 0 ≡ false = ne_eqb (length (row_at a.spans.now (get_or a.work.now a.q 0))) 0 (λ p. c.if-row_length-eq0.false (c.row_length.ensures.0 ∙ spans-there c.requires c.get.ensures.0 ∙ p)) in
    c.is_known_by-2.ensures ∙ sym (λ i. z i || ((sym c.is_known_by.ensures ∙ c.if-is_known_by.false) i || known_by a.spans.now a.work.now a.from a.q 2))
