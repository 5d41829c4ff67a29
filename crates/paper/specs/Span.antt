-- Rows of spans, the sides of a height that they cover, and their ends.
--     ordered          every span has lo < hi, and the next starts at its hi or above: ascending, none overlapping, two may touch
--     row_fits          a row may hold so many spans
--     covers           a span lies directly above a height (true: side up) or directly below it (false: side down)
--     covering         which span of a row covers that side, by its position
--     covered          some span does
--     ends_of           lo and hi of each span, in the row's order
--     overlaps         two spans have more than an end in common
-- A side is a Bool: true is up, false is down, and `not s` is the opposite one.
use Rattle.std.specs.Prelude.{ℕ, suc, Bool, true, false, cond, ◌&&◌, List, [], ◌∷◌, length, ℤ, int_le, int_lt, nat_le, None, Option, Some}
use Rattle.paper.specs.Width.{span_limit}
use Rattle.paper.specs.Map.{Span}

-- the next span, if there is one, starts at h or above
abbrev pub starts_from : ℤ → List Span → Bool
starts_from h [] = true
starts_from h (x ∷ r) = int_le h x.lo

unfoldable pub ordered : List Span → Bool
ordered [] = true
ordered (x ∷ r) = int_lt x.lo x.hi && (starts_from x.hi r && ordered r)

abbrev pub row_fits : List Span → Bool
row_fits r = nat_le (length r) span_limit

-- Directly above t: from t or below it to some height above. Directly below likewise.
abbrev pub covers : Span → ℤ → Bool → Bool
covers x t true = int_le x.lo t && int_lt t x.hi
covers x t false = int_lt x.lo t && int_le t x.hi

-- The row is descended, a span fewer each time; i is the position of its first span.
unfoldable pub covering_from : ℕ → List Span → ℤ → Bool → Option ℕ
covering_from i [] t s = None
covering_from i (x ∷ r) t s = let c = covering_from (suc i) r t s in cond (covers x t s) (Some i) c

abbrev pub covering : List Span → ℤ → Bool → Option ℕ
covering r t s = covering_from 0 r t s

abbrev pub found : Option ℕ → Bool
found (Some i) = true
found None = false

abbrev pub covered : List Span → ℤ → Bool → Bool
covered r t s = found (covering r t s)

unfoldable pub ends_of : List Span → List ℤ
ends_of [] = []
ends_of (x ∷ r) = x.lo ∷ (x.hi ∷ ends_of r)

abbrev pub overlaps : Span → Span → Bool
overlaps x y = int_lt x.lo y.hi && int_lt y.lo x.hi
