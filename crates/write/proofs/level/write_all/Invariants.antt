use Rattle.paper.specs.Table.{map_of}
use Rattle.write.proofs.Whole.{Writing}
use Rattle.write.proofs.level.write_all.Given as goal

abbrev pub invariant-loop-k : goal.invariant-loop-k
invariant-loop-k l = Writing (map_of l.links l.places l.spans l.m l.n) l.m l.n l.initial.w l.initial.v l.initial.op l.initial.ol l.w l.v l.op l.ol l.h l.k
