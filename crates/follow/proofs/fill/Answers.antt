use Rattle.std.proofs.Common.{arith}
use Rattle.follow.proofs.Filling.{paired, filled, filled-joined}
use Rattle.follow.proofs.fill.Goals as goal

pub put_pairs-requires : goal.put_pairs-requires
put_pairs-requires c =
    let A = c.requires in
    let o = A.own in
    paired
    (record { at1 = c.start-y1.ensures; at2 = c.start-y2.ensures; at3 = c.start-y3.ensures; at4 = c.start-y4.ensures; at5 = c.start-y5.ensures })
    A
    (omega arith)
    (omega arith)

pub returns-then-k-eq0 : goal.returns-then-k-eq0
returns-then-k-eq0 c =
    filled-joined
    (record { at1 = c.start-y1.ensures; at2 = c.start-y2.ensures; at3 = c.start-y3.ensures; at4 = c.start-y4.ensures; at5 = c.start-y5.ensures })
    c.if-k-eq0.true c.put_pairs.ensures

pub overflow_add-y0 : goal.overflow_add-y0
overflow_add-y0 c = omega (arith, c.requires.starts 0 (omega arith), c.start-y0.ensures)

pub put_pairs-requires-2 : goal.put_pairs-requires-2
put_pairs-requires-2 c =
    let A = c.requires in
    let s = A.starts 0 (omega arith) in
    let e = c.start-y0.ensures in
    paired
    (record { at1 = c.start-y1.ensures; at2 = c.start-y2.ensures; at3 = c.start-y3.ensures; at4 = c.start-y4.ensures; at5 = c.start-y5.ensures })
    A
    (omega arith)
    (omega arith)

pub returns : goal.returns
returns c =
    filled
    (record { at1 = c.start-y1.ensures; at2 = c.start-y2.ensures; at3 = c.start-y3.ensures; at4 = c.start-y4.ensures; at5 = c.start-y5.ensures })
    c.start-y0.ensures c.if-k-eq0.false c.put_pairs-2.ensures
