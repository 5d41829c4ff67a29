use Rattle.std.proofs.Common.{◌-◌, ◌&&◌, get_or, sym, ap, ◌∙◌, subst, arith, le-leb}
use borrow.Author.Tests.{lt-leb}
use Rattle.theory.specs.Alike.{alike}
use Rattle.paper.specs.Table.{owned_at}
use Rattle.span.specs.Row.{RowIn}
use Rattle.ends.proofs.gather.is_known_by.Goals as goal

pub returns-then-q-from : goal.returns-then-q-from
returns-then-q-from c =
    let a = c.args in
    let l = c.if-q-from.true in
    sym (ap (λ t. t && alike (owned_at a.spans.now (get_or a.work.now (a.q - a.back) 0)) (owned_at a.spans.now (get_or a.work.now a.q 0)))
    (lt-leb a.back (a.q - a.from) (omega arith)))

pub same_spans-requires : goal.same_spans-requires
same_spans-requires c =
    let l = c.if-q-from.false in
    let f = c.requires.first in (
      subst (RowIn c.args.spans.now) (sym c.get.ensures.0) (c.requires.rows (c.args.q - c.args.back) (omega arith) (omega arith)),
      subst (RowIn c.args.spans.now) (sym c.get-2.ensures.0) (c.requires.rows c.args.q (omega arith) (omega arith)),
    )

pub returns : goal.returns
returns c =
    let a = c.args in
    c.same_spans.ensures
    ∙ (λ i. alike (owned_at a.spans.now (c.get.ensures.0 i)) (owned_at a.spans.now (c.get-2.ensures.0 i)))
    ∙ sym (ap (λ t. t && alike (owned_at a.spans.now (get_or a.work.now (a.q - a.back) 0)) (owned_at a.spans.now (get_or a.work.now a.q 0)))
    (le-leb a.back (a.q - a.from) c.if-q-from.false))
