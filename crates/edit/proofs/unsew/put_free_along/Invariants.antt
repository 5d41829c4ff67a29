use Rattle.std.proofs.Common.{◌≡◌}
use Rattle.paper.specs.Width.{link_width}
use Rattle.hold.specs.Rows.{columned}
use Rattle.orbit.specs.Sparse.{queue}
use Rattle.edit.proofs.unsew.put_free_along.Given as goal

abbrev pub invariant-loop-d : goal.invariant-loop-d
invariant-loop-d l = l.links ≡ columned link_width l.axis (queue l.n l.w) (λ d. d) l.d-index l.initial.links
