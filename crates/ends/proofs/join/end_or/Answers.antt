use Rattle.std.proofs.Common.{refl, inl, inr, arith}
use Rattle.ends.proofs.join.end_or.Goals as goal

pub returns-then-i-n : goal.returns-then-i-n
returns-then-i-n c = inl (omega arith, c.get_end.ensures)

pub returns : goal.returns
returns c = inr (omega arith, refl)
