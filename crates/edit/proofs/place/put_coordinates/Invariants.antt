use Rattle.std.proofs.Common.{◌≡◌}
use Rattle.paper.specs.Width.{place_width}
use Rattle.hold.specs.Rows.{columned}
use Rattle.orbit.specs.Sparse.{queue}
use Rattle.edit.proofs.place.put_coordinates.Given as goal

abbrev pub invariant-loop-d : goal.invariant-loop-d
invariant-loop-d l = l.places ≡ columned place_width l.axis (queue l.n l.w) (λ d. l.z) l.d-index l.initial.places
