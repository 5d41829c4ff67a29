use Rattle.std.proofs.Common.{arith, rules}
use Rattle.base.proofs.Slots.{bases-kept}
use Rattle.tally.proofs.Uppers.{upper-few, upper-none, upper-more, upper-over, upper-done}
use Rattle.tally.proofs.upper.count_upper.Goals as goal

pub loop-d-init : goal.loop-d-init
loop-d-init c =
    let a = c.args in
    (upper-none a.m a.n a.links.now a.spans.now a.w.now, omega arith)

pub count_dart-c-requires : goal.count_dart-c-requires
count_dart-c-requires c = (c.requires.0, c.loop-d-test.true)

pub overflow_mul-sum : goal.overflow_mul-sum
overflow_mul-sum c = omega (arith, c.count_dart-c.ensures, upper-few c.requires.0 c.loop-d-test.true)

pub overflow_add-sum : goal.overflow_add-sum
overflow_add-sum c =
    omega (arith, c.count_dart-c.ensures, upper-few c.requires.0 c.loop-d-test.true, c.loop-d.invariant.1, c.requires.1.1)

pub shape_of-w-then-room-sum : goal.shape_of-w-then-room-sum
shape_of-w-then-room-sum c = c.loop-d.invariant.0.long

pub returns-then-room-sum : goal.returns-then-room-sum
returns-then-room-sum c =
    let L = c.loop-d in
    (upper-over c.requires.1.0 L.invariant.0 c.loop-d-test.true c.count_dart-c.result c.count_dart-c.ensures L.w c.if-room-sum.true, tt)

pub put_base-requires : goal.put_base-requires
put_base-requires c =
    let h = c.loop-d-test.true in
    record { bases = bases-kept c.loop-d.invariant.0.long c.requires.1.0; h_bound = (search rules, (h, omega (arith, c.count_dart-c.ensures, upper-few c.requires.0 h))) }

pub loop-d-preserved : goal.loop-d-preserved
loop-d-preserved c =
    let k = c.count_dart-c in (
      upper-more c.requires.1.0 c.loop-d.invariant.0 c.loop-d-test.true k.result k.ensures
          c.put_base.ensures,
      c.if-room-sum.false,
    )

pub shape_of-w : goal.shape_of-w
shape_of-w c = c.loop-d.invariant.0.long

pub returns : goal.returns
returns c =
    let L = c.loop-d in
    (upper-done L.invariant.0 c.loop-d-test.false L.invariant.1, L.invariant.1)
