-- The spans of some darts, and the search for the next of their ends.
--     spans_of          the spans in the rows of the darts, one row after the other
--     RowsIn           their rows are in the table, each with a count from 0 to 8 and in order
--     NoneBelow        a height that no end is below; Lowest: there is one, or no end
--     next_above        the next member of a list above t, if there is one
use Rattle.std.specs.Prelude.{◌≡◌, ℕ, true, false, cond, List, [], ℤ, int_lt, Option, Some, None}
use Rattle.std.specs.List.{All}
use Rattle.paper.specs.Below.{join_of}
use Rattle.paper.specs.Map.{Span}
use Rattle.paper.specs.Span.{ordered}
use Rattle.paper.specs.Ends.{next}
use Rattle.paper.specs.Table.{row_at}
use Rattle.theory.specs.Member.{◌∈◌}
use Rattle.span.specs.Row.{RowIn}

abbrev pub spans_of : List ℤ → List ℕ → List Span
spans_of s ds = join_of ds (row_at s)

abbrev pub RowsIn : List ℤ → List ℕ → Type 0
RowsIn s ds = All (λ e. RowIn s e × (ordered (row_at s e) ≡ true)) ds

-- the next member on the side above t, as a height that may not be
unfoldable pub next_above : ℤ → List ℤ → Option ℤ
next_above t l = let u = next true t l in cond (int_lt t u) (Some u) None

-- no member is below a height
abbrev pub NoneBelow : List ℤ → ℤ → Type 0
NoneBelow l t = (b : ℤ) → b ∈ l → int_lt b t ≡ false

-- none where the list has no member
abbrev pub Lowest : List ℤ → Option ℤ → Type 0
Lowest l None = l ≡ []
Lowest l (Some t) = NoneBelow l t
