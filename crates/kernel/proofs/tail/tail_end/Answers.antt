use Rattle.std.proofs.Common.{◌/◌, refl, arith, le-ltb, lt-ltb, le-leb}
use borrow.Author.Tests.{lt-leb}
use Rattle.kernel.specs.Tail.{tail_end}
use Rattle.kernel.proofs.Cleared.{rows-within}
use Rattle.kernel.proofs.tail.tail_end.Goals as goal

pub returns-then-len-width : goal.returns-then-len-width
unfolding tail_end
returns-then-len-width c = let a = c.args in rw (le-leb (a.len / a.width) a.old c.if-len-width.true) refl

pub returns-then-old-k : goal.returns-then-old-k
unfolding tail_end
returns-then-old-k c =
    let a = c.args in
    rw (lt-leb (a.len / a.width) a.old c.if-len-width.false, lt-ltb a.old a.k c.if-old-k.true) refl

pub overflow_mul-result-2 : goal.overflow_mul-result-2
overflow_mul-result-2 c =
    let a = c.args in
    let h = rows-within a.len a.width a.k a.old c.if-len-width.false in
    record { fits = omega arith }

pub returns : goal.returns
unfolding tail_end
returns c =
    let a = c.args in
    rw (lt-leb (a.len / a.width) a.old c.if-len-width.false, le-ltb a.old a.k c.if-old-k.false) refl
