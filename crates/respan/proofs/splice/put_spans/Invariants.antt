use Rattle.std.proofs.Common.{◌≡◌, ◌*◌}
use Rattle.std.proofs.Math.Seq.{paste}
use Rattle.paper.specs.Width.{per_span}
use Rattle.respan.proofs.splice.put_spans.Given as goal

-- The numbers of the spans before q are put.
abbrev pub invariant-loop-q : goal.invariant-loop-q
invariant-loop-q l = l.row ≡ paste l.initial.row l.at l.numbers (l.q * per_span)
