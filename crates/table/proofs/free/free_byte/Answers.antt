use Rattle.std.proofs.Common.{add-one, arith}
use Rattle.std.proofs.lemmas.Bool.Decides.{nat_tests}
use Rattle.paper.specs.Refusal.{judge}
use Rattle.paper.specs.Call.{looseness}
use Rattle.table.proofs.Bits.{ones-count}
use Rattle.table.proofs.free.free_byte.Goals as goal

pub returns-then-dimension-lt1 : goal.returns-then-dimension-lt1
unfolding looseness judge
returns-then-dimension-lt1 c = grind (arith, nat_tests)

pub returns-then-links-dart : goal.returns-then-links-dart
unfolding looseness judge
returns-then-links-dart c = grind (arith, nat_tests)

pub returns : goal.returns
unfolding looseness judge
returns c = simp (c.free_axes.ensures, ones-count, add-one) (grind (arith, nat_tests))
