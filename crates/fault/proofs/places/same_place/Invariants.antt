use Rattle.std.proofs.Common.{◌≡◌, true}
use Rattle.paper.specs.Below.{all_below}
use Rattle.paper.specs.Map.{eq_z}
use Rattle.fault.specs.Fault.{coordinate_in}
use Rattle.fault.proofs.places.same_place.Given as goal

-- The coordinates before x are equal.
abbrev pub invariant-loop-x : goal.invariant-loop-x
invariant-loop-x l = all_below l.x (λ x. eq_z (coordinate_in l.places l.d x) (coordinate_in l.places l.e x)) ≡ true
