use Rattle.kernel.specs.Link.{alpha}
use Rattle.edit.specs.Across.{Across}
use Rattle.edit.proofs.unsew.look_across.Given as goal

abbrev pub invariant-loop-q : goal.invariant-loop-q
invariant-loop-q l = Across (alpha l.links l.axis) l.n l.initial.w l.t l.q l.w l.u
