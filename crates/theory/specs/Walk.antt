-- The pieces of some spans, one after the other, upwards.
--     above            the members of a list above a height
--     pieces_of         the pieces of a list of spans: those of a cell are the pieces of the spans around it
--     pieces_from       the pieces from an end on
use Rattle.std.specs.Prelude.{cond, List, [], ◌∷◌, ℤ, int_lt}
use Rattle.paper.specs.Map.{Span}
use Rattle.paper.specs.Span.{ends_of}
use Rattle.paper.specs.Ends.{ascending, stretches, stretches_from, covered_by}

unfoldable pub above : ℤ → List ℤ → List ℤ
above t [] = []
above t (x ∷ l) = let r = above t l in cond (int_lt t x) (x ∷ r) r

unfoldable pub pieces_of : List Span → List Span
pieces_of r = covered_by r (stretches (ascending (ends_of r)))

unfoldable pub pieces_from : List Span → ℤ → List Span
pieces_from r t = covered_by r (stretches_from t (above t (ascending (ends_of r))))
