use Rattle.std.proofs.Common.{◌-◌, ◌≤◌}
use Rattle.follow.specs.Fill.{firsts, seconds, Pairs}
use Rattle.follow.proofs.put_pairs.Given as goal

abbrev pub invariant-loop-j : goal.invariant-loop-j
invariant-loop-j l = (l.j ≤ l.c) × Pairs l.x l.j (firsts l.y0 l.y1 l.y2 l.y3 l.y4 l.y5) (seconds l.z l.y1 l.y2 l.y3 l.y4 l.y5) l.initial.ol l.ol
