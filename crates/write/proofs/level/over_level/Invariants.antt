use Rattle.std.proofs.Common.{◌-◌}
use Rattle.paper.specs.Table.{map_of}
use Rattle.write.proofs.Bounding.{Bounding}
use Rattle.write.proofs.level.over_level.Given as goal

abbrev pub invariant-loop-d : goal.invariant-loop-d
invariant-loop-d l = Bounding (map_of l.links l.places l.spans l.l.m l.l.n) l.l.n l.l.k l.op l.initial.ol l.ol l.d
