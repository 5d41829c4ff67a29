use Rattle.std.proofs.Common.{◌≡◌, ◌-◌, ◌*◌, ◌≤◌, length}
use Rattle.paper.specs.Width.{span_limit, pair_width}
use Rattle.paper.specs.Span.{ends_of}
use Rattle.paper.specs.Table.{row_at}
use Rattle.ends.proofs.Joining.{Joining}
use Rattle.ends.proofs.join.copy_row.Given as goal

-- the row is joined to no ends
abbrev pub invariant-loop-j : goal.invariant-loop-j
invariant-loop-j l =
    (l.c ≡ length (ends_of (row_at l.spans l.e))) × ((l.c ≤ pair_width * span_limit) × Joining l.initial.v l.v l.p 0 l.room (ends_of (row_at l.spans l.e)) 0 l.j l.ends)

abbrev pub decreases-loop-j : goal.decreases-loop-j
decreases-loop-j l = l.c - l.j
