-- A new span in a row: it and those that it overlaps become one.
--     clashes          the new span overlaps one of another object
--     lower, higher    the lower and the higher of two heights
--     hull             two spans as one, from the lower lo to the higher hi
--     joined           a new span and those of a row that it overlaps, as one: from the lowest lo to the highest hi
--     unmet            the spans of a row that a new one does not overlap: one that it merely touches is among them
--     in_place          a row with one more span, in its place
--     with_span         a row with a new span in it
use Rattle.std.specs.Prelude.{Bool, true, false, cond, not, ◌&&◌, List, [], ◌∷◌, ℤ, int_lt}
use Rattle.paper.specs.Map.{Span, Owned, spans_of, eq_z}
use Rattle.paper.specs.Span.{overlaps}

abbrev pub clashes : Owned → Owned → Bool
clashes x y = overlaps x.span y.span && not (eq_z x.object y.object)

abbrev pub lower : ℤ → ℤ → ℤ
lower a b = cond (int_lt a b) a b

abbrev pub higher : ℤ → ℤ → ℤ
higher a b = cond (int_lt a b) b a

abbrev pub hull : Span → Span → Span
hull x y = record { lo = lower x.lo y.lo; hi = higher x.hi y.hi }

-- Each span is held against the new one alone, and not against what has been joined to it: joining does not go on from there.
unfoldable pub joined : Span → List Span → Span
joined x [] = x
joined x (y ∷ r) = let h = joined x r in cond (overlaps x y) (hull y h) h

unfoldable pub unmet : Span → List Owned → List Owned
unmet x [] = []
unmet x (y ∷ r) = let u = unmet x r in cond (overlaps x y.span) u (y ∷ u)

-- Before the first span that starts above it.
unfoldable pub in_place : Owned → List Owned → List Owned
in_place x [] = x ∷ []
in_place x (y ∷ r) = elim (int_lt x.span.lo y.span.lo) [ true ↦ x ∷ (y ∷ r) | false ↦ y ∷ in_place x r ]

-- The joined span is of the new one's object; those that the new one does not overlap stay as they are.
unfoldable pub with_span : Owned → List Owned → List Owned
with_span x r = in_place (record { span = joined x.span (spans_of r); object = x.object }) (unmet x.span r)
