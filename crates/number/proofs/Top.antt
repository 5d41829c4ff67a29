-- The pieces of a dart at the top level: the spans of its row.
--     pieces-top       the pieces at the top level
--     count-top        how many they are
use Rattle.std.proofs.Common.{◌≡◌, ℕ, ◌<◌, length, ap, ◌∙◌}
use Rattle.paper.specs.Map.{Map, count, row}
use Rattle.paper.specs.Orbit.{here}
use Rattle.paper.specs.Ends.{around, ends, stretches, pieces}
use Rattle.theory.specs.Local.{Local}
use Rattle.theory.proofs.Ends.{around-in}
use Rattle.theory.proofs.Piece as piece
use Rattle.theory.proofs.Walk.{covered-by-same}
use Rattle.number.specs.Count.{piece_count}
use Rattle.number.specs.First.{pieces_at}

module _ (M : Map) (L : Local M) (d : ℕ) (h : d < count M) where
  pub pieces-top : pieces_at M d M.dim ≡ row M d
  unfolding pieces ends
  pieces-top =
      covered-by-same (row M d) (around M M.dim d) (λ x w. around-in M L M.dim d d x h here w) (λ x w. piece.top-around M L d x h w) (stretches (ends M M.dim d))
      ∙ piece.pieces-top M L d h

  pub count-top : piece_count M d M.dim ≡ length (row M d)
  unfolding piece_count
  count-top = ap length pieces-top
