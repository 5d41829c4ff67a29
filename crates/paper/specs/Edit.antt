-- What the edits do: the new map, told by what each dart has.
--     remade           a map with the same number of darts, each as it is told
--     empty            NEW: a plan of a dimension with no darts
--     grown            DART: the map with a new last dart, linked to itself, at 0, with an empty row
--     relinked         the links along one axis are replaced
--     sewn, unsewn     SEW, UNSEW
--     freed            the darts that UNSEW frees: those of A and their partners along the axis
--     placed           PLACE: one coordinate, for a whole corner
--     respanned        the rows of a whole top cell are replaced: SPAN, 1A and CLEAR
--     adopted          ADOPT: a copy without spans; what lifted darts carry is no part of a map, and stays behind
use Rattle.std.specs.Prelude.{ℕ, Bool, cond, ◌||◌, List, [], ◌∷◌, ◌++◌, map, ℤ, slice_set}
use Rattle.paper.specs.Below.{list_below}
use Rattle.paper.specs.Map.{Owned, Dart, Map, with_links, with_place, with_row, fresh_dart, count, dart, link, place, owned}
use Rattle.paper.specs.Orbit.{marked}
use Rattle.paper.specs.Cell.{corner, top}
use Rattle.paper.specs.Sew.{wing, mate}

unfoldable pub remade : Map → (ℕ → Dart) → Map
remade M f = record { dim = M.dim; darts = list_below (count M) f }

abbrev pub empty : ℕ → Map
empty m = record { dim = m; darts = [] }

unfoldable pub grown : Map → Map
grown M = record { dim = M.dim; darts = M.darts ++ (fresh_dart M.dim (count M) ∷ []) }

unfoldable pub relinked : Map → ℕ → (ℕ → ℕ) → Map
relinked M i f = remade M (λ d. with_links (slice_set (dart M d).links i (f d)) (dart M d))

-- SEW: the pairs of f, both ways, become links along i.
unfoldable pub sewn : Map → ℕ → ℕ → ℕ → Map
sewn M i a b = relinked M i (mate M i a b)

unfoldable pub freed : Map → ℕ → ℕ → List Bool
freed M i a = let A = wing M i a in list_below (count M) (λ d. marked A d || marked A (link M i d))

-- UNSEW: the darts of A, and those that they were linked to, link to themselves along the axis.
unfoldable pub unsewn : Map → ℕ → ℕ → Map
unsewn M i a = let F = freed M i a in relinked M i (λ d. cond (marked F d) d (link M i d))

unfoldable pub placed : Map → ℕ → ℕ → ℤ → Map
placed M d x z =
    let c = corner M d in
    remade M (λ e. with_place (let p = slice_set (place M e) x z in cond (marked c e) p (place M e)) (dart M e))

unfoldable pub respanned : Map → ℕ → (List Owned → List Owned) → Map
respanned M d f =
    let c = top M d in
    remade M (λ e. with_row (let r = f (owned M e) in cond (marked c e) r (owned M e)) (dart M e))

unfoldable pub adopted : Map → Map
adopted M = record { dim = M.dim; darts = map (with_row []) M.darts }
