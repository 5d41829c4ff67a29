use Rattle.std.proofs.Common.{◌≡◌, ◌-◌, ◌*◌, ◌≤◌, length}
use Rattle.paper.specs.Width.{span_limit, pair_width}
use Rattle.paper.specs.Span.{ends_of}
use Rattle.paper.specs.Table.{row_at}
use Rattle.ends.specs.Join.{NextOfRow}
use Rattle.ends.proofs.Joining.{Joining}
use Rattle.ends.proofs.join.merge.Given as goal

abbrev pub invariant-loop-j : goal.invariant-loop-j
invariant-loop-j l =
    (l.c ≡ length (ends_of (row_at l.spans l.e))) × ((l.c ≤ pair_width * span_limit) × (Joining l.initial.v l.v l.p l.n l.room (ends_of (row_at l.spans l.e)) l.i l.j l.ends × NextOfRow (ends_of (row_at l.spans l.e)) l.j l.y))

abbrev pub decreases-loop-j : goal.decreases-loop-j
decreases-loop-j l = l.c - l.j
