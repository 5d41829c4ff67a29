use Rattle.std.proofs.Common.{arith, lit<}
use Rattle.lift.proofs.Tail.{lifted-none, lifted-kept, lifted-cleared}
use Rattle.lift.proofs.lift_side.Goals as goal

pub returns-in_err-total : goal.returns-in_err-total
returns-in_err-total c = rw c.from_residual.ensures (lifted-none _ c.in_err-total.ensures.0 (omega arith), tt)

pub returns-then-old-total : goal.returns-then-old-total
returns-then-old-total c = (lifted-kept _ c.in_ok-total.ensures.0 c.in_ok-total.ensures.1 c.requires.liftable.lifted c.if-old-total.true, c.in_ok-total.ensures.1)

pub clear-requires-2 : goal.clear-requires-2
clear-requires-2 c =
    let R = c.requires.liftable.lifted in
    let p = R.places in
    let l = c.in_ok-total.ensures.1 in
    let k = c.lift_rows.auto.op in
    (lit< tt, omega arith)

pub clear-requires-3 : goal.clear-requires-3
clear-requires-3 c =
    let R = c.requires.liftable.lifted in
    let p = R.objects in
    let l = c.in_ok-total.ensures.1 in
    let k = c.lift_rows.auto.oo in
    (lit< tt, omega arith)

pub returns : goal.returns
returns c =
    let y = c.lift_rows in
    let J = c.in_ok-total.ensures in
    (lifted-cleared _ J.0 J.1 c.requires.liftable.lifted c.clear.ensures c.clear-2.ensures c.clear-3.ensures y.auto.v, J.1)
