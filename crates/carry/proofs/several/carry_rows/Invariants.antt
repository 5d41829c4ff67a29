use Rattle.std.proofs.Common.{◌≡◌, ◌+◌, ◌-◌, ◌*◌, ◌≤◌, length}
use Rattle.paper.specs.Width.{per_span, span_width, span_limit}
use Rattle.paper.specs.Table.{row_at}
use Rattle.carry.specs.Carried.{carried_at, carried_rows}
use Rattle.carry.proofs.several.carry_rows.Given as goal

abbrev pub invariant-loop-q : goal.invariant-loop-q
invariant-loop-q l =
    (l.from ≤ l.q) × (l.q - l.from ≤ l.to - l.from) × (length l.oo ≡ length l.initial.oo) × (l.left ≤ length (row_at l.spans l.d))
    × (l.end ≡ l.d * span_width + 1 + length (row_at l.spans l.d) * per_span) × (l.oo ≡ carried_rows (carried_at l.spans l.op l.m l.d) l.from l.q l.initial.oo)

-- a row that gets its object counts for more than all spans; a search that finds none leaves none, and some were left before it
abbrev pub decreases-loop-q : goal.decreases-loop-q
decreases-loop-q l = (l.to - l.q) * (span_limit + 1) + l.left
