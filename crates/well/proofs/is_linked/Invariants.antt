use Rattle.std.proofs.Common.{◌≡◌, true}
use Rattle.paper.specs.Below.{all_below}
use Rattle.well.specs.Well.{linked_along}
use Rattle.well.proofs.is_linked.Given as goal

-- Along the axes before j the dart is linked.
abbrev pub invariant-loop-j : goal.invariant-loop-j
invariant-loop-j l = all_below l.j (linked_along l.links l.n l.d) ≡ true
