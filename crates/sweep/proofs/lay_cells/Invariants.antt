use Rattle.std.proofs.Common.{◌-◌}
use Rattle.paper.specs.Table.{map_of}
use Rattle.sweep.proofs.Sweeping.{Sweeping}
use Rattle.sweep.proofs.lay_cells.Given as goal

abbrev pub invariant-loop-d : goal.invariant-loop-d
invariant-loop-d l = Sweeping (map_of l.links l.places l.spans l.l.m l.l.n) l.l.m l.l.n l.l.k l.l.h l.links l.initial.w l.initial.v l.initial.op l.initial.ol l.w l.v l.op l.ol l.t l.d
