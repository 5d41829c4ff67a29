-- Valid maps, told link by link: what a link leads to, in place of whole corners and whole top cells.
use Rattle.std.specs.Prelude.{◌≡◌, ℕ, suc, ◌+◌, ◌<◌, ◌≤◌, true, length}
use Rattle.paper.specs.Map.{Map, count, dart, link, place, owned, row}
use Rattle.paper.specs.Span.{ordered, row_fits}

pub record Local (M : Map) : Type 0 where
  pub axes : (d : ℕ) → d < count M → length (dart M d).links ≡ suc M.dim
  pub coordinates : (d : ℕ) → d < count M → length (place M d) ≡ M.dim
  pub within : (i d : ℕ) → d < count M → i ≤ M.dim → link M i d < count M
  pub undo : (i d : ℕ) → d < count M → i ≤ M.dim → link M i (link M i d) ≡ d
  pub pair : (i j d : ℕ) → d < count M → i + 2 ≤ j → j ≤ M.dim → link M i (link M j (link M i (link M j d))) ≡ d
  -- a link along an axis other than 0 leads to the same place, one along an axis below m to the same row, objects included
  pub places : (j d : ℕ) → d < count M → 1 ≤ j → j ≤ M.dim → place M (link M j d) ≡ place M d
  pub rows : (j d : ℕ) → d < count M → j < M.dim → owned M (link M j d) ≡ owned M d
  pub short : (d : ℕ) → d < count M → row_fits (row M d) ≡ true
  pub order : (d : ℕ) → d < count M → ordered (row M d) ≡ true
