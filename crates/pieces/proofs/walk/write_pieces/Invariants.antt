use Rattle.std.proofs.Common.{length}
use Rattle.paper.specs.Span.{ends_of}
use Rattle.paper.specs.Ends.{ascending}
use Rattle.theory.specs.Walk.{above}
use Rattle.pieces.specs.Listed.{spans_of}
use Rattle.pieces.proofs.Write.{Walked}
use Rattle.pieces.proofs.walk.write_pieces.Given as goal

abbrev pub invariant-loop-u : goal.invariant-loop-u
invariant-loop-u l = Walked (spans_of l.spans l.darts) l.initial.memory l.memory l.t l.count

-- The ends above are fewer with each turn.
abbrev pub decreases-loop-u : goal.decreases-loop-u
decreases-loop-u l = length (above l.t (ascending (ends_of (spans_of l.spans l.darts))))
