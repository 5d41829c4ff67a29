use Rattle.std.proofs.Common.{arith}
use Rattle.orbit.proofs.Listed.{listed-few}
use Rattle.respan.proofs.Cell.{cell-spliced}
use Rattle.respan.proofs.splice.splice_cell.Goals as goal

pub put_rows-requires-clause-t_in_bounds : goal.put_rows-requires-clause-t_in_bounds
put_rows-requires-clause-t_in_bounds c = let K = c.list-t in let few = listed-few K.ensures in (omega (arith, c.requires.ready.room, K.auto.work), K.ensures.set.below)

pub overflow_cast-result : goal.overflow_cast-result
overflow_cast-result c = let few = listed-few c.list-t.ensures in omega (arith, c.requires.ready.darts)

pub returns : goal.returns
returns c R S ps f P e =
    let a = c.args in
    let r = c.row-r in
    cell-spliced P c.requires.ready a.d c.requires.rows.1 a.s f e r.result r.ensures.built c.list-t.ensures c.put_rows.ensures
