use Rattle.std.proofs.Common.{◌-◌}
use Rattle.paper.specs.Table.{map_of}
use Rattle.sweep.proofs.Sweeping.{Laying}
use Rattle.sweep.proofs.upper.lay_upper.Given as goal

abbrev pub invariant-loop-d : goal.invariant-loop-d
invariant-loop-d l = Laying (map_of l.links l.places l.spans l.l.m l.l.n) l.l.n l.l.k l.l.h l.w l.initial.op l.initial.ol l.op l.ol l.d
