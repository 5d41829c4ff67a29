use Rattle.over.proofs.Same.{Pairing}
use Rattle.over.proofs.match_same.Given as goal

abbrev pub invariant-loop-r : goal.invariant-loop-r
invariant-loop-r l = Pairing l.a l.x l.c l.y l.initial.ol l.ol l.r
