use Rattle.std.proofs.Common.{◌≡◌}
use Rattle.paper.specs.Below.{list_below, onto}
use Rattle.paper.specs.Map.{Map}
use Rattle.paper.specs.Cell.{cells}
use Rattle.hold.specs.Hold.{HasLinks}
use Rattle.counts.proofs.put_counts.Given as goal

-- The numbers of the axes before i stand in the memory.
abbrev pub invariant-loop-i : goal.invariant-loop-i
invariant-loop-i l = (M : Map) → HasLinks M l.m l.n l.links → l.memory ≡ onto (list_below l.i (cells M)) l.initial.memory
