use Rattle.places.proofs.Spans.{Spanning}
use Rattle.places.proofs.write_spans.Given as goal

abbrev pub invariant-loop-j : goal.invariant-loop-j
invariant-loop-j l = Spanning l.initial.op l.op l.x l.spans l.at l.c l.places l.d l.m l.j
