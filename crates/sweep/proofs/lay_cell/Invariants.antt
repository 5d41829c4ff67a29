use Rattle.std.proofs.Common.{◌-◌}
use Rattle.paper.specs.Table.{map_of}
use Rattle.sweep.proofs.Celling.{Celling}
use Rattle.sweep.proofs.lay_cell.Given as goal

abbrev pub invariant-loop-q : goal.invariant-loop-q
invariant-loop-q l = Celling (map_of l.links l.places l.spans l.l.m l.l.n) l.l.n l.l.k l.l.h l.d l.initial.op l.initial.ol l.w l.from l.to l.op l.ol l.q
