-- A row cut by the ends of another: at the level below the top a cell has two rows, that of a dart and that of its neighbour over the boundary.
--     cut_span a b T    the stretch from a to b, cut at each height of T that lies inside what is left of it; for T that ascends, where a height may stand twice
--     cut_row r T       the spans of a row, each cut so
use Rattle.std.specs.Prelude.{cond, ◌&&◌, List, [], ◌∷◌, ◌++◌, ℤ, int_lt}
use Rattle.paper.specs.Map.{Span}

unfoldable pub cut_span : ℤ → ℤ → List ℤ → List Span
cut_span a b [] = record { lo = a; hi = b } ∷ []
cut_span a b (t ∷ T) = cond (int_lt a t && int_lt t b) (record { lo = a; hi = t } ∷ cut_span t b T) (cut_span a b T)

unfoldable pub cut_row : List Span → List ℤ → List Span
cut_row [] T = []
cut_row (x ∷ r) T = cut_span x.lo x.hi T ++ cut_row r T
