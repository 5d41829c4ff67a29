use Rattle.std.proofs.Common.{sym, ◌∙◌, arith}
use Rattle.span.proofs.Row.{row_count}
use Rattle.tally.proofs.Uppers.{upper-rows, upper_is, upper-few, upper-bare}
use Rattle.tally.proofs.upper.count_dart.Goals as goal

pub row_length-c-requires : goal.row_length-c-requires
row_length-c-requires c = c.requires.0.rows _ c.requires.1

pub returns-then-c-eq0 : goal.returns-then-c-eq0
returns-then-c-eq0 c =
    let k = c.row_length-c.ensures.0 ∙ row_count _ _ (c.requires.0.rows _ c.requires.1) in
    sym (upper-bare c.requires.0 c.requires.1 (sym k ∙ c.if-c-eq0.true))

pub count_row-requires : goal.count_row-requires
count_row-requires c = upper-rows c.requires.0 c.requires.1 c.link_at-e.ensures.0

pub overflow_add-result : goal.overflow_add-result
overflow_add-result c =
    let k = c.row_length-c.ensures.0 ∙ row_count _ _ (c.requires.0.rows _ c.requires.1) in
    omega (arith, upper_is c.requires.0 c.requires.1 c.link_at-e.ensures.0 k c.count_row.ensures, upper-few c.requires.0 c.requires.1)

pub returns : goal.returns
returns c =
    let k = c.row_length-c.ensures.0 ∙ row_count _ _ (c.requires.0.rows _ c.requires.1) in
    upper_is c.requires.0 c.requires.1 c.link_at-e.ensures.0 k c.count_row.ensures
