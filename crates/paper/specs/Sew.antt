-- Sewing: the pairing of two orbits.
--     far i            J: the axes that are neither i nor next to it
--     Far, wing        the darts reached from a by links of J (A, and for b B), by paths and as marks
--     Pairing          f pairs A with B one to one, sends a to b and goes along with the links of J
--     Sewable          A and B share no dart, and there is such a pairing
--     partners         for each dart the one that it has to be paired with, plus one; 0 for a dart with no partner
--     sewable          the partners are such a pairing, and A and B share no dart
--     agreeing         the darts of each pair have the places and the rows that the new link asks for
--     mate             whom a dart is linked to by SEW
use Rattle.std.specs.Prelude.{◌≡◌, ℕ, zero, suc, pred, ◌+◌, ◌≤◌, Bool, true, cond, not, ◌&&◌, ◌||◌, List, replicate, ◌==◌, nat_le, nat_lt, slice_index, slice_index_or, slice_set}
use Rattle.paper.specs.Below.{any_below, all_below, first_below, list_below}
use Rattle.paper.specs.Map.{Map, count, link, place, owned, eq_place, eq_row}
use Rattle.paper.specs.Orbit.{Reach, orbit, marked}

abbrev pub far : ℕ → ℕ → Bool
far i j = nat_le (j + 2) i || nat_le (i + 2) j

abbrev pub Far : Map → ℕ → ℕ → ℕ → Type 0
Far M i a d = Reach (link M) M.dim (far i) a d

unfoldable pub wing : Map → ℕ → ℕ → List Bool
wing M i a = orbit (link M) M.dim (far i) (count M) a

pub record Pairing (M : Map) (i a b : ℕ) (f : ℕ → ℕ) : Type 0 where
  -- f(a) = b
  pub start : f a ≡ b
  -- f goes from A to B
  pub into : (d : ℕ) → Far M i a d → Far M i b (f d)
  -- going along an axis of J and pairing give the same dart in either order
  pub along : (j d : ℕ) → j ≤ M.dim → far i j ≡ true → Far M i a d → f (link M j d) ≡ link M j (f d)
  -- one to one, and onto B
  pub one : (d e : ℕ) → Far M i a d → Far M i a e → f d ≡ f e → d ≡ e
  pub onto : (e : ℕ) → Far M i b e → (d : ℕ) × Far M i a d × (f d ≡ e)

pub record Sewable (M : Map) (i a b : ℕ) : Type 0 where
  pub apart : (d : ℕ) → Far M i a d → Far M i b d → ⊥
  pub f : ℕ → ℕ
  pub pairing : Pairing M i a b f

-- the partner of d, as a neighbour along one of the first axes has it, if the axis is in J; links undo themselves, so that either dart tells the other
unfoldable pub told : Map → ℕ → List ℕ → ℕ → ℕ → ℕ
told M i ps d zero = 0
told M i ps d (suc j) =
    let rest = told M i ps d j in
    let p = slice_index_or ps (link M j d) 0 in
    let e : ℕ = suc (link M j (pred p)) in
    cond (far i j && nat_lt 0 p) e rest

-- after c rounds from f(a) = b: who has a partner tells it to the neighbours
unfoldable pub partners_after : Map → ℕ → ℕ → ℕ → ℕ → List ℕ
partners_after M i a b zero = slice_set (replicate (count M) 0) a (suc b)
partners_after M i a b (suc c) =
    let ps = partners_after M i a b c in
    list_below (count M) (λ d. let p = slice_index_or ps d 0 in let q = told M i ps d (suc M.dim) in cond (nat_lt 0 p) p q)

unfoldable pub partners : Map → ℕ → ℕ → ℕ → List ℕ
partners M i a b = partners_after M i a b (count M)

-- the partner of a dart that has one
abbrev pub partner : List ℕ → ℕ → ℕ
partner ps d = pred (slice_index ps d)

abbrev pub implies : Bool → Bool → Bool
implies p q = not p || q

-- What a pairing f of A onto B has to satisfy, as tests: A and B share no dart; f goes from A to B, and along with each link of J;
-- it is one to one, and onto B.
abbrev pub share_none : ℕ → List Bool → List Bool → Bool
share_none n A B = all_below n (λ d. implies (marked A d) (not (marked B d)))

abbrev pub goes_into : ℕ → List Bool → List Bool → (ℕ → ℕ) → Bool
goes_into n A B f = all_below n (λ d. implies (marked A d) (marked B (f d)))

abbrev pub goes_along : Map → ℕ → List Bool → (ℕ → ℕ) → Bool
goes_along M i A f =
    all_below (count M) (λ d. implies (marked A d) (all_below (suc M.dim) (λ j. implies (far i j) (f (link M j d) == link M j (f d)))))

abbrev pub one_to_one : ℕ → List Bool → (ℕ → ℕ) → Bool
one_to_one n A f = all_below n (λ d. implies (marked A d) (all_below n (λ e. implies (marked A e) (implies (f d == f e) (d == e)))))

abbrev pub goes_onto : ℕ → List Bool → List Bool → (ℕ → ℕ) → Bool
goes_onto n A B f = all_below n (λ e. implies (marked B e) (any_below n (λ d. marked A d && f d == e)))

-- The partners are such a pairing, with f(a) = b.
unfoldable pub sewable : Map → ℕ → ℕ → ℕ → Bool
sewable M i a b =
    let n = count M in
    let A = wing M i a in
    let B = wing M i b in
    let f = partner (partners M i a b) in
    share_none n A B && (f a == b && (goes_into n A B f && (goes_along M i A f && (one_to_one n A f && goes_onto n A B f))))

-- The two darts of a pair agree: in their places, unless the axis is 0, and in their rows with objects, unless it is m.
unfoldable pub agreeing : Map → ℕ → ℕ → ℕ → Bool
agreeing M i a b =
    let A = wing M i a in
    let ps = partners M i a b in
    all_below (count M)
    (λ d. implies (marked A d)
    (implies (nat_le 1 i) (eq_place (place M d) (place M (partner ps d))) && implies (nat_lt i M.dim) (eq_row (owned M d) (owned M (partner ps d)))))

-- α_i links each d of A to f(d), and f(d) to d; other darts keep their links.
unfoldable pub mate : Map → ℕ → ℕ → ℕ → ℕ → ℕ
mate M i a b =
    let A = wing M i a in
    let B = wing M i b in
    let ps = partners M i a b in
    λ d. let e = first_below (count M) (λ x. marked A x && partner ps x == d) in
    let f = partner ps d in
    let l = link M i d in
    cond (marked A d) f (cond (marked B d) e l)
