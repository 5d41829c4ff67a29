use Rattle.std.proofs.Common.{◌≤◌, arith}
use Rattle.paper.specs.Width.{dart_limit}
use Rattle.base.proofs.Slots.{bases-kept}
use Rattle.census.proofs.Cells.{begin, nextable, dart-below, few-pieces, base-fits, more, full, ended}
use Rattle.census.proofs.count_cell.Goals as goal
use Rattle.census.proofs.count_cell.Goals.{After-count_next-c}

-- a dart has no more pieces than a map has darts
few : (c : After-count_next-c) → c.count_next-c.result ≤ dart_limit
few c = few-pieces c.requires c.loop-q.invariant c.loop-q-test.true c.get-e.result c.get-e.ensures.0 c.count_next-c.result c.count_next-c.ensures

pub loop-q-init : goal.loop-q-init
loop-q-init c = begin c.requires 0

pub get-e-requires : goal.get-e-requires
get-e-requires c =
    let r = c.requires in
    let L = c.loop-q in
    let l = L.invariant.long in
    let b = r.bases.long in
    let e = r.last in
    omega (arith, c.loop-q-test.true)

pub count_next-c-requires : goal.count_next-c-requires
count_next-c-requires c =
    let R = c.requires in
    let L = c.loop-q in
    nextable R L.invariant c.loop-q-test.true

pub overflow_mul-sum : goal.overflow_mul-sum
overflow_mul-sum c =
    omega (arith, few (goal.at.overflow_mul-sum c).After-count_next-c)

pub overflow_add-sum : goal.overflow_add-sum
overflow_add-sum c =
    omega (arith, few (goal.at.overflow_add-sum c).After-count_next-c, c.loop-q.invariant.fits, c.requires.few)

pub shape_of-w-then-room-sum : goal.shape_of-w-then-room-sum
shape_of-w-then-room-sum c =
    c.loop-q.invariant.long

pub returns-then-room-sum : goal.returns-then-room-sum
returns-then-room-sum c =
    let R = c.requires in
    let L = c.loop-q in
    let p = c.count_next-c in
    (full R L.invariant c.loop-q-test.true c.get-e.result c.get-e.ensures.0 p.result p.ensures L.w c.if-room-sum.true, tt)

pub add_base-requires : goal.add_base-requires
add_base-requires c =
    let R = c.requires in
    let L = c.loop-q in
    let h = c.loop-q-test.true in
    let p = c.count_next-c in
    let i = c.if-room-sum.false in record {
      bases = bases-kept L.invariant.long R.bases;
      d_lt_n = (
        dart-below R L.invariant h c.get-e.result c.get-e.ensures.0,
        base-fits R L.invariant h c.get-e.result c.get-e.ensures.0 p.result p.ensures (omega (arith, i)),
      );
    }

pub loop-q-preserved : goal.loop-q-preserved
loop-q-preserved c =
    let R = c.requires in
    let L = c.loop-q in
    let p = c.count_next-c in
    let i = c.if-room-sum.false in
    let A = c.add_base in
    more R L.invariant c.loop-q-test.true c.get-e.result c.get-e.ensures.0 p.result p.ensures (omega (arith, i)) A.ensures

pub shape_of-w : goal.shape_of-w
shape_of-w c =
    c.loop-q.invariant.long

pub returns : goal.returns
returns c =
    (ended c.requires c.loop-q.invariant c.loop-q-test.false, c.loop-q.invariant.fits)
