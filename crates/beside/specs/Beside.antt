-- The spans of a row cut one after the other, beside the ends of another row.
--     TwoRows          two rows of a table, in order
--     Cuttable         a span in the table, and the ends of a row in order, of which the first j are passed
--     piece_limit       pieces that a row has at most
--     Over             all ends from end i on lie at a height or above: none is left, or the next one does
--     CutTo            what a cut tells: how many pieces the span has, and up to which end they lie below its head
use Rattle.std.specs.Prelude.{◌≡◌, ℕ, suc, ◌+◌, ◌*◌, ◌<◌, ◌≤◌, true, false, ◌⊎◌, List, length, drop, ℤ, pos, int_lt, slice_index_or}
use Rattle.paper.specs.Width.{span_limit, per_span, pair_width}
use Rattle.paper.specs.Map.{Span}
use Rattle.paper.specs.Span.{ordered, ends_of}
use Rattle.paper.specs.Table.{row_at}
use Rattle.span.specs.Row.{RowIn}
use Rattle.number.specs.Beside.{cut_span}

pub record TwoRows (spans : List ℤ) (d e : ℕ) : Type 0 where
  pub own : RowIn spans d
  pub other : RowIn spans e
  pub order : ordered (row_at spans d) ≡ true
  pub other_order : ordered (row_at spans e) ≡ true

pub record Cuttable (spans : List ℤ) (at e ends j : ℕ) : Type 0 where
  pub span : at + per_span ≤ length spans
  pub row : RowIn spans e
  pub order : ordered (row_at spans e) ≡ true
  pub many : ends ≡ length (ends_of (row_at spans e))
  pub passed : j ≤ ends

-- Each end makes a piece of a span at most.
abbrev pub piece_limit : ℕ
piece_limit = span_limit * suc (pair_width * span_limit)

abbrev pub Over : List ℤ → ℕ → ℤ → Type 0
Over T i b = (length T ≤ i) ⊎ ((i < length T) × (int_lt (slice_index_or T i (pos 0)) b ≡ false))

pub record CutTo (x : Span) (T : List ℤ) (j n end : ℕ) : Type 0 where
  pub within : (j ≤ end) × (end ≤ length T)
  pub pieces : n ≡ length (cut_span x.lo x.hi (drop j T))
  pub below : (i : ℕ) → j ≤ i → i < end → int_lt (slice_index_or T i (pos 0)) x.hi ≡ true
  pub above : Over T end x.hi
