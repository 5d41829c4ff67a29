use Rattle.std.proofs.Common.{◌≡◌, true}
use Rattle.paper.specs.Below.{all_below}
use Rattle.well.specs.Well.{commutes}
use Rattle.well.proofs.is_paired.Given as goal

-- Axis j commutes with the axes before i.
abbrev pub invariant-loop-i : goal.invariant-loop-i
invariant-loop-i l = all_below l.i (commutes l.links l.d l.j) ≡ true
