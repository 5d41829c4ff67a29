use Rattle.census.proofs.Cells.{Counting}
use Rattle.census.proofs.count_cell.Given as goal

abbrev pub invariant-loop-q : goal.invariant-loop-q
invariant-loop-q l = Counting l.v l.half l.ends l.spans l.initial.w l.w l.n l.from l.to l.total l.room l.sum l.last l.q
