use Rattle.std.proofs.Common.{refl, arith}
use Rattle.print.proofs.Liftrun.{liftrun-long}
use Rattle.program.proofs.Printed.{printed-none, printed-text}
use Rattle.program.proofs.text.Goals as goal

pub returns-then-out-lt-TEXT_ROOM : goal.returns-then-out-lt-TEXT_ROOM
returns-then-out-lt-TEXT_ROOM c =
    let b = c.args in
    rw (printed-none b.bytes.now b.out.now c.if-out-lt-TEXT_ROOM.true) (record { told = refl; memory = refl; within = omega arith })

pub returns-then-bytes-gt-INPUT_LIMIT : goal.returns-then-bytes-gt-INPUT_LIMIT
returns-then-bytes-gt-INPUT_LIMIT c =
    let l = c.long in
    let b = c.args in
    rw (printed-text b.bytes.now b.out.now c.if-out-lt-TEXT_ROOM.false, liftrun-long b.bytes.now (omega (arith, c.if-bytes-gt-INPUT_LIMIT.true)))
    (record { told = l.ensures.told; memory = l.ensures.memory; within = omega (arith, l.ensures.within) })

pub returns : goal.returns
returns c =
    let b = c.args in
    let r = c.run_text.ensures in
    rw (printed-text b.bytes.now b.out.now c.if-out-lt-TEXT_ROOM.false) (record { told = r.told; memory = r.memory; within = r.within })
