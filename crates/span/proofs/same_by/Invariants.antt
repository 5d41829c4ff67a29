use Rattle.std.proofs.Common.{◌+◌, ◌-◌, ◌*◌}
use Rattle.paper.specs.Width.{per_span}
use Rattle.theory.specs.Alike.{eq_by}
use Rattle.span.proofs.Same.{Going}
use Rattle.span.proofs.same_by.Given as goal

abbrev pub invariant-loop-j : goal.invariant-loop-j
invariant-loop-j l = Going (eq_by l.objects) l.spans l.d l.e (l.p + l.j * per_span) (l.q + l.j * per_span) (l.all - l.j)
