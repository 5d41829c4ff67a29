-- What the pieces of a cell are.
use Rattle.std.specs.Prelude.{◌≡◌, ℕ, ◌+◌, ◌*◌, ◌≤◌, Bool, true, length, ℤ}
use Rattle.paper.specs.Map.{Map, row}
use Rattle.paper.specs.Span.{ordered, covered}
use Rattle.paper.specs.Ends.{around, pieces, spans_over}

pub record PiecesOf (M : Map) (k d : ℕ) : Type 0 where
  -- they ascend and don't overlap; two may touch
  pub order : ordered (pieces M k d) ≡ true
  -- they cover what the spans of the cell cover, and nothing else: each side of each height
  pub cover : (t : ℤ) (s : Bool) → covered (pieces M k d) t s ≡ covered (around M k d) t s
  -- with r ≥ 1 spans over its distinct top cells, a cell has at most 2r - 1 pieces
  pub many : 1 ≤ spans_over M k d → length (pieces M k d) + 1 ≤ 2 * spans_over M k d
  -- the pieces of a top cell are its spans, one by one
  pub top : k ≡ M.dim → pieces M k d ≡ row M d
