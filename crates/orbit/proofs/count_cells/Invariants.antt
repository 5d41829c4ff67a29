use Rattle.std.proofs.Common.{◌≡◌, ◌+◌}
use Rattle.paper.specs.Below.{count_below}
use Rattle.kernel.specs.Link.{alpha}
use Rattle.orbit.specs.Flood.{axes, Swept, least}
use Rattle.orbit.proofs.count_cells.Given as goal

abbrev pub invariant-loop-d : goal.invariant-loop-d
invariant-loop-d l =
    Swept (alpha l.links) l.m (axes l.i (l.i + 1)) l.n l.work l.t l.d × (l.k ≡ count_below l.d (least (alpha l.links) l.m (axes l.i (l.i + 1)) l.n))
