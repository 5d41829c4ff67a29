use Rattle.over.proofs.Touch.{Touching}
use Rattle.over.proofs.match_touching.Given as goal

abbrev pub invariant-loop-i : goal.invariant-loop-i
invariant-loop-i l = Touching l.op l.m l.a l.x l.c l.initial.ol l.ol l.i
