use Rattle.std.proofs.Common.{le-ltb, lt-ltb}
use Rattle.kernel.proofs.Signed.{back}
use Rattle.beside.proofs.is_below.Goals as goal

pub returns-then-ends-j : goal.returns-then-ends-j
returns-then-ends-j c =
    let a = c.args in
    rw (le-ltb a.j a.ends c.if-ends-j.true)

pub returns : goal.returns
returns c =
    let a = c.args in
    let g = c.end_at in
    rw (lt-ltb a.j a.ends c.if-ends-j.false, back g.result g.type_inv, back a.t c.ranges.t.sfits, g.ensures)
