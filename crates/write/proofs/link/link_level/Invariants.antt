use Rattle.std.proofs.Common.{◌-◌}
use Rattle.paper.specs.Table.{map_of}
use Rattle.write.proofs.Filing.{Filing}
use Rattle.write.proofs.link.link_level.Given as goal

abbrev pub invariant-loop-d : goal.invariant-loop-d
invariant-loop-d l = Filing (map_of l.links l.places l.spans l.l.m l.l.n) l.l.n l.l.k l.l.h l.op l.initial.ol l.initial.w l.ol l.w l.d
