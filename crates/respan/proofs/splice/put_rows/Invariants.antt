use Rattle.std.proofs.Common.{◌≡◌, get_or, pos}
use Rattle.paper.specs.Width.{span_width}
use Rattle.hold.specs.Rows.{rows_put}
use Rattle.orbit.specs.Sparse.{queue}
use Rattle.respan.proofs.splice.put_rows.Given as goal

abbrev pub invariant-loop-d : goal.invariant-loop-d
invariant-loop-d l = l.spans ≡ rows_put span_width (queue l.n l.w) (λ i. get_or l.row i (pos 0)) l.d-index l.initial.spans
