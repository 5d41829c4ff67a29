-- The ends around a cell and its pieces.
--     around           the spans in the rows of the darts of d's k-cell
--     insert           a height into its place in an ascending list, once
--     ascending        the heights of a list, ascending, each once
--     ends M k d       B_k(d): the ends of all spans around the k-cell of d
--     beyond           one height lies beyond another, going to a side
--     next             the next member of a list of heights on a side
--     stretches        the stretches between neighbours in a list
--     pieces           the stretches from one member of B_k(d) to the next that a span around the cell covers
--     spans_over        r: the spans over the distinct top cells that meet the k-cell
use Rattle.std.specs.Prelude.{ℕ, Bool, true, false, cond, not, ◌&&◌, List, [], ◌∷◌, ◌++◌, length, ℤ, int_le, int_lt}
use Rattle.paper.specs.Below.{any_below, sum_below, join_below, any_of, only}
use Rattle.paper.specs.Map.{Span, Map, count, row, eq_z}
use Rattle.paper.specs.Orbit.{marked}
use Rattle.paper.specs.Cell.{cell, top}
use Rattle.paper.specs.Span.{ends_of}

unfoldable pub around : Map → ℕ → ℕ → List Span
around M k d = let c = cell M k d in join_below (count M) (λ e. cond (marked c e) (row M e) [])

unfoldable pub insert : ℤ → List ℤ → List ℤ
insert t [] = t ∷ []
insert t (x ∷ l) = elim (int_lt t x) [ true ↦ t ∷ (x ∷ l) | false ↦ elim (int_lt x t) [ true ↦ x ∷ insert t l | false ↦ x ∷ l ] ]

unfoldable pub ascending : List ℤ → List ℤ
ascending [] = []
ascending (t ∷ l) = insert t (ascending l)

-- B_k(d): whatever is a lower or an upper end in a row around the k-cell of d, ascending and each once.
unfoldable pub ends : Map → ℕ → ℕ → List ℤ
ends M k d = ascending (ends_of (around M k d))

abbrev pub is_end : List ℤ → ℤ → Bool
is_end l t = any_of (eq_z t) l

abbrev pub beyond : Bool → ℤ → ℤ → Bool
beyond true t x = int_lt t x
beyond false t x = int_lt x t

-- the member nearest to t beyond it on side s; t itself if there is none
unfoldable pub next : Bool → ℤ → List ℤ → ℤ
next s t [] = t
next s t (x ∷ l) = let r = next s t l in cond (beyond s t x) (cond (beyond s t r) (cond (beyond s x r) x r) x) r

-- the stretches between neighbours in x ∷ l
unfoldable pub stretches_from : ℤ → List ℤ → List Span
stretches_from x [] = []
stretches_from x (y ∷ l) = record { lo = x; hi = y } ∷ stretches_from y l

abbrev pub stretches : List ℤ → List Span
stretches [] = []
stretches (x ∷ l) = stretches_from x l

-- a span covers a stretch where it reaches from the stretch's foot to its head
abbrev pub spans : Span → Span → Bool
spans x p = int_le x.lo p.lo && int_le p.hi x.hi

unfoldable pub covered_by : List Span → List Span → List Span
covered_by r [] = []
covered_by r (p ∷ l) = only (any_of (λ x. spans x p) r) p ++ covered_by r l

-- Between two neighbours in B_k(d) there is a piece where a span around the cell reaches from the one to the other.
unfoldable pub pieces : Map → ℕ → ℕ → List Span
pieces M k d = let r = around M k d in covered_by r (stretches (ascending (ends_of r)))

-- e is the lowest dart of its top cell in the k-cell of d: so a top cell that meets the k-cell counts once
unfoldable pub first_of_top : Map → ℕ → ℕ → ℕ → Bool
first_of_top M k d e = let c = cell M k d in let t = top M e in marked c e && not (any_below e (λ x. marked c x && marked t x))

-- r: a top cell that meets the cell adds its row once, however many of its darts are in the cell.
unfoldable pub spans_over : Map → ℕ → ℕ → ℕ
spans_over M k d = sum_below (count M) (λ e. cond (first_of_top M k d e) (length (row M e)) 0)
