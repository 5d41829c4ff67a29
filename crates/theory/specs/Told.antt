-- A map told by functions: what each dart below n is linked to, and its place and row.
--     Told             the map M has these links, places and rows
--     Laws             what such functions satisfy where the map is valid, with commuting links
use Rattle.std.specs.Prelude.{◌≡◌, ℕ, suc, ◌+◌, ◌<◌, ◌≤◌, true, List, length, ℤ}
use Rattle.paper.specs.Map.{Owned, Map, spans_of, count, dart, link, place, owned}
use Rattle.paper.specs.Span.{ordered, row_fits}

pub record Told (M : Map) (m n : ℕ) (α : ℕ → ℕ → ℕ) (p : ℕ → List ℤ) (r : ℕ → List Owned) : Type 0 where
  pub dims : M.dim ≡ m
  pub darts : count M ≡ n
  pub axes : (d : ℕ) → d < n → length (dart M d).links ≡ suc m
  pub links : (i d : ℕ) → d < n → i ≤ m → link M i d ≡ α i d
  pub places : (d : ℕ) → d < n → place M d ≡ p d
  pub rows : (d : ℕ) → d < n → owned M d ≡ r d

pub record Laws (m n : ℕ) (α : ℕ → ℕ → ℕ) (p : ℕ → List ℤ) (r : ℕ → List Owned) : Type 0 where
  pub coordinates : (d : ℕ) → d < n → length (p d) ≡ m
  pub within : (i d : ℕ) → d < n → i ≤ m → α i d < n
  pub undo : (i d : ℕ) → d < n → i ≤ m → α i (α i d) ≡ d
  pub far : (i j d : ℕ) → d < n → i + 2 ≤ j → j ≤ m → α i (α j d) ≡ α j (α i d)
  pub places : (j d : ℕ) → d < n → 1 ≤ j → j ≤ m → p (α j d) ≡ p d
  pub rows : (j d : ℕ) → d < n → j < m → r (α j d) ≡ r d
  pub short : (d : ℕ) → d < n → row_fits (spans_of (r d)) ≡ true
  pub order : (d : ℕ) → d < n → ordered (spans_of (r d)) ≡ true
