use Rattle.std.proofs.Common.{sym, ap, ◌∙◌, subst}
use Rattle.span.specs.Row.{RowIn}
use Rattle.ends.specs.Key.{ends_at}
use Rattle.walk.specs.Walk.{Walkable}
use Rattle.census.specs.Cell.{pieces_of}
use Rattle.census.proofs.Cells.{next-bare, next_known}
use Rattle.census.proofs.count_next.Goals as goal

pub row_length-requires : goal.row_length-requires
row_length-requires c =
    subst (RowIn c.args.spans.now) (sym c.get-e.ensures.0) c.requires.walk.row

pub returns-then-row_length-eq0 : goal.returns-then-row_length-eq0
returns-then-row_length-eq0 c =
    let k = c.row_length in
    next-bare c.requires c.get-e.result c.get-e.ensures.0 (sym k.ensures.0 ∙ c.if-row_length-eq0.true)

pub same_spans-requires : goal.same_spans-requires
same_spans-requires c = (
  subst (RowIn c.args.spans.now) (sym c.get.ensures.0) (c.requires.before c.if-from-q.true),
  subst (RowIn c.args.spans.now) (sym c.get-e.ensures.0) c.requires.walk.row,
)

pub returns-then-same_spans : goal.returns-then-same_spans
returns-then-same_spans c =
    let k = c.same_spans in
    next_known c.requires c.if-from-q.true c.get.result c.get-e.result c.get.ensures.0
    c.get-e.ensures.0 (sym k.ensures ∙ c.if-same_spans.true)

pub count_pieces-requires : goal.count_pieces-requires
count_pieces-requires c =
    subst (Walkable c.args.v.now c.args.half c.args.ends c.args.spans.now) (sym c.get-e.ensures.0) c.requires.walk

pub returns : goal.returns
returns c =
    let a = c.args in
    c.count_pieces.ensures ∙ ap (pieces_of a.spans.now (ends_at a.v.now a.half a.ends)) c.get-e.ensures.0
