use Rattle.std.proofs.Common.{arith}
use Rattle.sweep.proofs.Celling.{cell-start, cell-stead, cell-place, cell-call, cell-more, cell-done}
use Rattle.sweep.proofs.lay_cell.Goals as goal

pub loop-q-init : goal.loop-q-init
loop-q-init c = cell-start c.requires.known c.requires.celled

pub overflow_add-l : goal.overflow_add-l
overflow_add-l c =
    omega (arith, cell-place c.requires.known c.requires.celled c.loop-q.invariant c.loop-q-test.true, c.requires.known.plan.few)

pub get-e-requires : goal.get-e-requires
get-e-requires c =
    (cell-place c.requires.known c.requires.celled c.loop-q.invariant c.loop-q-test.true).0

pub lay_dart-requires : goal.lay_dart-requires
lay_dart-requires c =
    let I = c.loop-q.invariant in
    record { known = cell-stead c.requires.known c.requires.celled I; called = cell-call c.requires.known c.requires.celled I c.loop-q-test.true c.get-e.ensures.0 }

pub loop-q-preserved : goal.loop-q-preserved
loop-q-preserved c =
    let n = c.lay_dart in
    cell-more c.requires.known c.requires.celled c.loop-q.invariant c.loop-q-test.true c.get-e.ensures.0 n.ensures n.auto.op n.auto.ol

pub shape_of-op : goal.shape_of-op
shape_of-op c = c.loop-q.invariant.places

pub shape_of-ol : goal.shape_of-ol
shape_of-ol c = c.loop-q.invariant.links

pub returns : goal.returns
returns c = cell-done c.requires.known c.requires.celled c.loop-q.invariant c.loop-q-test.false
