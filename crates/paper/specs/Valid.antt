-- Valid maps: generalised maps with agreeing corners and spans.
--     Valid            the whole of it, over whole corners and whole top cells
use Rattle.std.specs.Prelude.{◌≡◌, ℕ, suc, ◌+◌, ◌<◌, ◌≤◌, true, length}
use Rattle.paper.specs.Map.{Map, count, dart, link, place, owned, row}
use Rattle.paper.specs.Cell.{Cell}
use Rattle.paper.specs.Span.{ordered, row_fits}

pub record Valid (M : Map) : Type 0 where
  -- a dart has a link for each axis from 0 to m, and m coordinates
  pub axes : (d : ℕ) → d < count M → length (dart M d).links ≡ suc M.dim
  pub coordinates : (d : ℕ) → d < count M → length (place M d) ≡ M.dim
  -- a link is a dart
  pub within : (i d : ℕ) → d < count M → i ≤ M.dim → link M i d < count M
  -- a link undoes itself
  pub undo : (i d : ℕ) → d < count M → i ≤ M.dim → link M i (link M i d) ≡ d
  -- two links two or more axes apart, taken together, undo themselves
  pub pair : (i j d : ℕ) → d < count M → i + 2 ≤ j → j ≤ M.dim → link M i (link M j (link M i (link M j d))) ≡ d
  -- a corner is at one place
  pub places : (d e : ℕ) → d < count M → Cell M 0 d e → place M d ≡ place M e
  -- a top cell has one row, objects included
  pub rows : (d e : ℕ) → d < count M → Cell M M.dim d e → owned M d ≡ owned M e
  -- a row has up to eight spans, each with lo < hi, ascending, none overlapping
  pub short : (d : ℕ) → d < count M → row_fits (row M d) ≡ true
  pub order : (d : ℕ) → d < count M → ordered (row M d) ≡ true
