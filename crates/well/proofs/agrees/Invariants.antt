use Rattle.std.proofs.Common.{◌≡◌, true}
use Rattle.paper.specs.Below.{all_below}
use Rattle.well.specs.Well.{agrees_along}
use Rattle.well.proofs.agrees.Given as goal

-- Along the axes before j the dart agrees.
abbrev pub invariant-loop-j : goal.invariant-loop-j
invariant-loop-j l = all_below l.j (agrees_along l.links l.places l.spans l.m l.d) ≡ true
