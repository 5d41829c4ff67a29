-- One pass over the ends and a row.
--     Walkable         what the pass asks: the ends ascend and the row is in order
--     SpanAt           span j of d's row stands at this place of the table of spans
--     left             the pieces that are left: of the ends from i on and the spans from j on
--     stretch_at        the stretch from end i on
--     PieceAt          the next of these pieces starts at end i, and span j of the row is the one that covers it: side up of its foot, and side down of its head
--     Reached          where the pass stops that goes on from end i and span j: at such a piece, or past the last end; it has passed none
--     Probed           what span j tells by itself, from end i on: the next piece is its own, or it covers none of those that are left
use Rattle.std.specs.Prelude.{◌≡◌, ℕ, ◌+◌, ◌-◌, ◌*◌, ◌<◌, ◌≤◌, Bool, true, false, ◌⊎◌, List, ◌∷◌, length, drop, ℤ, int_lt, Some}
use Rattle.paper.specs.Width.{per_span, span_width, work_width, dart_limit}
use Rattle.paper.specs.Map.{Span}
use Rattle.paper.specs.Span.{ordered, covering}
use Rattle.paper.specs.Ends.{stretches, covered_by}
use Rattle.paper.specs.Table.{row_at}
use Rattle.theory.specs.Ascending.{Ascends}
use Rattle.span.specs.Row.{RowIn}
use Rattle.ends.specs.Key.{height_of, key_at, ends_from, ends_at}

pub record Walkable (v : List ℕ) (p n : ℕ) (s : List ℤ) (d : ℕ) : Type 0 where
  pub half : p ≤ 1
  pub few : n ≤ dart_limit
  pub long : n * work_width ≤ length v
  pub ascend : Ascends int_lt (ends_at v p n)
  pub row : RowIn s d
  pub order : ordered (row_at s d) ≡ true

abbrev pub SpanAt : List ℤ → ℕ → ℕ → ℕ → Type 0
SpanAt s d j at = (j < length (row_at s d)) × (at ≡ d * span_width + 1 + j * per_span)

abbrev pub left : List ℕ → ℕ → ℕ → List ℤ → ℕ → ℕ → ℕ → List Span
left v p n s d i j = covered_by (drop j (row_at s d)) (stretches (ends_from v p i (n - i)))

abbrev pub stretch_at : List ℕ → ℕ → ℕ → Span
stretch_at v p i = record { lo = height_of (key_at v p i); hi = height_of (key_at v p (i + 1)) }

pub record PieceAt (v : List ℕ) (p n : ℕ) (s : List ℤ) (d i j : ℕ) : Type 0 where
  pub inside : i + 1 < n
  pub next : left v p n s d i j ≡ stretch_at v p i ∷ left v p n s d (i + 1) j
  pub up : covering (row_at s d) (stretch_at v p i).lo true ≡ Some j
  pub down : covering (row_at s d) (stretch_at v p i).hi false ≡ Some j

pub record Reached (v : List ℕ) (p n : ℕ) (s : List ℤ) (d i j end span : ℕ) : Type 0 where
  pub stop : (end ≡ n) ⊎ PieceAt v p n s d end span
  pub on : i ≤ end
  pub passed : left v p n s d i j ≡ left v p n s d end span

pub record Probed (v : List ℕ) (p n : ℕ) (s : List ℤ) (d i j end : ℕ) (covers : Bool) : Type 0 where
  pub on : i ≤ end
  pub within : end < n
  pub passed : left v p n s d i j ≡ left v p n s d end j
  pub met : covers ≡ true → PieceAt v p n s d end j
  pub missed : covers ≡ false → left v p n s d end j ≡ left v p n s d end (j + 1)
