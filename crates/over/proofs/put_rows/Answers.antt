use Rattle.std.proofs.Common.{arith}
use Rattle.over.proofs.put_rows.Goals as goal

pub returns-then-not-heads : goal.returns-then-not-heads
returns-then-not-heads c = rw (c.put-2.ensures, c.put.ensures, c.if-not-heads.true)

pub put-requires-3 : goal.put-requires-3
put-requires-3 c =
    (omega (arith, rw (c.if-not-heads.false) at c.requires.link_width_in_bounds.0), omega (arith, c.requires.a_lt_link_width.1.0))

pub put-requires-4 : goal.put-requires-4
put-requires-4 c =
    (omega (arith, rw (c.if-not-heads.false) at c.requires.link_width_in_bounds.1), omega (arith, c.requires.a_lt_link_width.1.1))

pub returns : goal.returns
returns c = rw (c.put-4.ensures, c.put-3.ensures, c.put-2.ensures, c.put.ensures, c.if-not-heads.false)
