-- Rows as they stand in a table of spans.
--     span_from, owned_from        the span at a place of the table, without its object and with it
--     spans_from, owneds_from      so many spans, from a place of the table on
--     left_of           of so many spans, as many as are left from the one that covers a side on; 0 where none does
--     RowIn            the row of a dart is in the table, with a count from 0 to 8
use Rattle.std.specs.Prelude.{◌≡◌, ℕ, zero, suc, ◌+◌, ◌-◌, ◌*◌, ◌<◌, ◌≤◌, true, List, [], ◌∷◌, length, ℤ, pos, slice_index_or, None, Option, Some}
use Rattle.paper.specs.Width.{per_span, span_width, dart_limit}
use Rattle.paper.specs.Map.{Span, Owned}
use Rattle.paper.specs.Table.{count_fits}

abbrev pub span_from : List ℤ → ℕ → Span
span_from s at = record { lo = slice_index_or s at (pos 0); hi = slice_index_or s (at + 1) (pos 0) }

abbrev pub owned_from : List ℤ → ℕ → Owned
owned_from s at = record { span = span_from s at; object = slice_index_or s (at + 2) (pos 0) }

unfoldable pub spans_from : List ℤ → ℕ → ℕ → List Span
spans_from s at zero = []
spans_from s at (suc n) = span_from s at ∷ spans_from s (at + per_span) n

unfoldable pub owneds_from : List ℤ → ℕ → ℕ → List Owned
owneds_from s at zero = []
owneds_from s at (suc n) = owned_from s at ∷ owneds_from s (at + per_span) n

unfoldable pub left_of : ℕ → Option ℕ → ℕ
left_of n (Some j) = n - j
left_of n None = 0

pub record RowIn (s : List ℤ) (d : ℕ) : Type 0 where
  pub few : d < dart_limit
  pub fits : d * span_width + span_width ≤ length s
  pub counted : count_fits (slice_index_or s (d * span_width) (pos 0)) ≡ true
