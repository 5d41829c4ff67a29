use Rattle.std.proofs.Common.{◌≡◌, true}
use Rattle.paper.specs.Below.{all_below}
use Rattle.well.specs.Well.{well_at}
use Rattle.well.proofs.all_well.Given as goal

-- All is well at the darts before d.
abbrev pub invariant-loop-d : goal.invariant-loop-d
invariant-loop-d l = all_below l.d (well_at l.links l.places l.spans l.m l.n) ≡ true
