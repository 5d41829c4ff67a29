use Rattle.std.proofs.Common.{◌+◌, ◌-◌}
use Rattle.over.specs.Over.{rows}
use Rattle.over.proofs.Cross.{Crossing}
use Rattle.over.proofs.match_rows.Given as goal

abbrev pub invariant-loop-i : goal.invariant-loop-i
invariant-loop-i l = Crossing (rows l.heads l.a) l.op l.m l.x l.c l.y l.e l.initial.ol l.ol l.i l.j

abbrev pub decreases-loop-i : goal.decreases-loop-i
decreases-loop-i l = (l.c + l.e) - (l.i + l.j)
