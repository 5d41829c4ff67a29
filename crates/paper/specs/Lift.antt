-- The lift of a plan of dimension m to a map of dimension n = m + 1.
--     Lifted           a lifted dart (d, k, t, s): a plan dart, a level, a height and a side
--     lifted_darts      all of them in order: d first, k next, t upwards, and the side below before the one above
--     number_in         the number of a lifted dart: its position in that list
--     target           where axis i leads from a lifted dart: document 01's six cases
--     lift_dart         the links, the place and the empty row of a lifted dart
--     lift             the lifted map
--     carried          the object that a lifted dart carries: that of the span that covers its side
--     carried_objects   those of all of them, in order
use Rattle.std.specs.Prelude.{ℕ, suc, ◌+◌, ◌-◌, Bool, true, false, cond, not, ◌&&◌, List, [], ◌∷◌, ◌++◌, map, ℤ, ◌==◌, nat_le, nat_lt, slice_index_or, unsigned_abs, None, Option, Some}
use Rattle.std.specs.Bool.{beq}
use Rattle.paper.specs.Below.{join_below, list_below, join_of, only}
use Rattle.paper.specs.Map.{Owned, Map, Dart, made, no_span, count, link, place, owned, row, eq_z}
use Rattle.paper.specs.Span.{covering, covered}
use Rattle.paper.specs.Ends.{ends, is_end, next}

pub record Lifted : Type 0 where
  pub d : ℕ
  pub k : ℕ
  pub t : ℤ
  pub s : Bool

abbrev pub at : ℕ → ℕ → ℤ → Bool → Lifted
at d k t s = record { d = d; k = k; t = t; s = s }

abbrev pub eq_lifted : Lifted → Lifted → Bool
eq_lifted x y = x.d == y.d && (x.k == y.k && (eq_z x.t y.t && beq x.s y.s))

-- what plan dart d is lifted to at level k: the covered sides of each height in B_k(d)
unfoldable pub lifted_at : Map → ℕ → ℕ → List Lifted
lifted_at M d k =
    join_of (ends M k d) (λ t. only (covered (row M d) t false) (at d k t false) ++ only (covered (row M d) t true) (at d k t true))

unfoldable pub lifted_darts : Map → List Lifted
lifted_darts M = join_below (count M) (λ d. join_below (suc M.dim) (λ k. lifted_at M d k))

unfoldable pub number_in : List Lifted → Lifted → ℕ
number_in [] x = 0
number_in (y ∷ l) x = elim (eq_lifted x y) [ true ↦ 0 | false ↦ suc (number_in l x) ]

unfoldable pub target : Map → ℕ → Lifted → Lifted
target M i x =
    let d = x.d in
    let k = x.k in
    let t = x.t in
    let s = x.s in
    let m = M.dim in
    -- i < k
    cond (nat_lt i k) (at (link M i d) k t s)
    -- i = k = 0, and i = k ≥ 1
    (cond (i == k) (cond (k == 0) (at d 0 (next s t (ends M 0 d)) (not s)) (at d (k - 1) t s))
    -- i = k + 1 ≤ m, and i = k + 1 = n
    (cond (i == k + 1)
    (cond (nat_le i m) (cond (is_end (ends M (k + 1) d) t) (at d (k + 1) t s) (at d k t (not s)))
    (cond (covered (row M d) t (not s)) (at d m t (not s)) x))
    -- i ≥ k + 2, below n and at n
    (cond (nat_le i m) (at (link M (i - 1) d) k t s)
    (cond (covered (row M (link M m d)) t s) (at (link M m d) k t s) x))))

-- A lifted dart's place is that of d, then t; its row is empty.
unfoldable pub lift_dart : Map → List Lifted → Lifted → Dart
lift_dart M all x = made (list_below (suc (suc M.dim)) (λ i. number_in all (target M i x))) (place M x.d ++ (x.t ∷ [])) []

unfoldable pub lift : Map → Map
lift M = let all = lifted_darts M in record { dim = suc M.dim; darts = map (lift_dart M all) all }

-- the object of the span that was found in a row; 0 where none was
abbrev pub object_at : List Owned → Option ℕ → ℕ
object_at r (Some q) = unsigned_abs (slice_index_or r q no_span).object
object_at r None = 0

-- A lifted dart (d, k, t, s) carries the object of the span of d's row that covers side s of t.
unfoldable pub carried : Map → Lifted → ℕ
carried M x = object_at (owned M x.d) (covering (row M x.d) x.t x.s)

unfoldable pub carried_objects : Map → List ℕ
carried_objects M = map (carried M) (lifted_darts M)
