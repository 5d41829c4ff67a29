use Rattle.std.proofs.Common.{◌≡◌, ℕ, ◌<◌}
use Rattle.paper.specs.Width.{link_width}
use Rattle.hold.specs.Rows.{columned}
use Rattle.orbit.specs.Sparse.{queue}
use Rattle.sew.proofs.fasten.Given as goal

abbrev pub invariant-loop-q : goal.invariant-loop-q
invariant-loop-q l =
    (v : ℕ → ℕ) → ((p : ℕ) → p < l.q → v (queue l.from l.w p) ≡ queue l.to l.w p) → l.links ≡ columned link_width l.axis (queue l.from l.w) v l.q l.initial.links
