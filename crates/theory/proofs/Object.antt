-- The objects that lifted darts carry: along every axis below the top one a lifted dart and its link carry the same.
--     carried-along    where an axis leads
--     object-at        what the dart with a number carries
--     objects-count    every dart of the lift carries one
--     objects-along, objects-shared     the same of the lifted map, by numbers
--     shared-cell      in a map whose links below the top axis keep the object, all darts of a top cell carry one
--     lift-shared      so it is in a lift: all darts of a lifted top cell carry one object
use Rattle.std.proofs.Common.{◌≡◌, ℕ, suc, ◌<◌, ◌≤◌, Bool, true, false, List, length, get_or, ℤ, pos, sym, refl, ap, ◌∙◌, subst, arith}
use lib.ListN.{length-map}
use Rattle.paper.specs.Map.{Map, spans_of, count, link, owned, row}
use Rattle.paper.specs.Orbit.{here, step}
use Rattle.paper.specs.Cell.{Cell}
use Rattle.paper.specs.Span.{covering, ends_of}
use Rattle.paper.specs.Ends.{ends, is_end}
use Rattle.paper.specs.Lift.{Lifted, at, lifted_darts, number_in, target, lift, object_at, carried, carried_objects}
use Rattle.theory.specs.Local.{Local}
use Rattle.theory.specs.Good.{Shared}
use Rattle.theory.specs.Cut.{Cut, cut_of, Lawful}
use Rattle.theory.specs.Move.{Member, move}
use Rattle.theory.specs.Member.{◌∈◌}
use Rattle.theory.proofs.Bool.{clash, not-true}
use Rattle.theory.proofs.Member.{end-in, end-out}
use Rattle.theory.proofs.Height.{covering-inside, covering-between, next-next}
use Rattle.theory.proofs.Valid.{but_out, reach-within}
use Rattle.theory.proofs.Ends.{ends-ascends, ends-own, lawful}
use Rattle.theory.proofs.Hop.{hop, climb, slide, meets, rises, turned, to_level, is-low, is-climb, is-high, is-fall, is-slide, hop-yes, hop-no, climb-up, climb-to, rises-of}
use Rattle.theory.proofs.Move.{View, below, zeroth, same, above, view, move-target, move-member}
use Rattle.theory.proofs.Move as moves
use Rattle.theory.proofs.Number.{at-member, number_lt, number-at}
use Rattle.theory.proofs.LiftValid.{map_at, lift-count, lift-dim, lift-link, lift-local}

pub shared-cell : (M : Map) (objects : List ℕ) → Local M → Shared M objects → (d e : ℕ) → d < count M → Cell M M.dim d e → get_or objects d 0 ≡ get_or objects e 0
shared-cell M objects L f d e h here = refl
shared-cell M objects L f d e h (step {e = g} r j l x p) =
    let ne = but_out M.dim j x in
    shared-cell M objects L f d g h r ∙ sym (ap (λ (k : ℕ). get_or objects k 0) (sym p) ∙ f j g (reach-within M L h r) (omega (arith, ne)))

-- what the dart with number q carries
pub object-at : (M : Map) (q : ℕ) → q < length (lifted_darts M) → get_or (carried_objects M) q 0 ≡ carried M (get_or (lifted_darts M) q (at 0 0 (pos 0) false))
unfolding carried_objects
object-at M q h = map_at (carried M) (lifted_darts M) q 0 (at 0 0 (pos 0) false) h

module _ (M : Map) (L : Local M) where
  abbrev C : Cut
  C = cut_of M

  module _ (x : Lifted) (X : Member (cut_of M) x) where
    -- y carries what x does
    abbrev Same : Lifted → Type 0
    Same y = carried M y ≡ carried M x

    own : (k : ℕ) (b : ℤ) → b ∈ ends_of (row M x.d) → b ∈ ends M k x.d
    own k b w = ends-own M L k x.d b X.dart w

    -- across an axis below m: the same row
    hop-same : (p : ℕ) → p < M.dim → Same (hop C p x)
    unfolding carried
    hop-same p l = go (meets C p x) refl
      where
        go : (b : Bool) → meets C p x ≡ b → Same (hop C p x)
        go true e = rw (hop-yes C x p e) (ap (λ r. object_at r (covering (spans_of r) x.t x.s)) (L.rows p x.d X.dart l))
        go false e = rw (hop-no C x p e) refl

    -- to another level: the same row, height and side
    level-same : (k : ℕ) → Same (to_level k x)
    unfolding carried
    level-same k = refl

    -- to the other side of a height that is no end of the row: one span covers both
    turn-same : (k : ℕ) → is_end (ends M k x.d) x.t ≡ false → Same (turned x)
    unfolding carried
    turn-same k e =
        ap (object_at (owned M x.d)) (sym (covering-inside (row M x.d) x.t x.s
        (not-true (is_end (ends_of (row M x.d)) x.t) (λ w. clash (end-in (ends M k x.d) x.t (own k x.t (end-out (ends_of (row M x.d)) x.t w))) e))))

    climb-same : suc x.k ≤ M.dim → Same (climb C x)
    climb-same l = go (rises C x) refl
      where
        go : (b : Bool) → rises C x ≡ b → Same (climb C x)
        go true e = rw (climb-up C x e) (level-same (suc x.k))
        go false e = climb-to C x Same (level-same (suc x.k)) (turn-same (suc x.k) (sym (rises-of C x l) ∙ e)) refl

    -- to the next end of the corner: no end of the row lies between, and one span covers both sides
    slide-same : Same (slide C x)
    unfolding carried slide
    slide-same =
        ap (object_at (owned M x.d))
        (sym (covering-between (row M x.d) (ends M 0 x.d) (own 0) x.t x.s (next-next (row M x.d) (ends M 0 x.d) (own 0) x.t x.s X.side).past))

    move_same : (i : ℕ) → i ≤ M.dim → Same (move C i x)
    move_same i l = go (view i x.k)
      where
        W : Lawful (cut_of M)
        W = lawful M L

        go : View i x.k → Same (move C i x)
        go (below h) = let a = X.level in rw (is-low C W x X i h) (hop-same i (omega arith))
        go (zeroth e f) = rw (is-slide C x i e f) slide-same
        go (same j e f) = rw (is-fall C x i j e f) (level-same j)
        go (moves.next e) = rw (is-climb C W x X i e) (climb-same (omega arith))
        go (above p e h) = rw (is-high C W x X i p e h (omega arith)) (hop-same p (omega arith))

    pub carried-along : (i : ℕ) → i ≤ M.dim → carried M (target M i x) ≡ carried M x
    carried-along i l = ap (carried M) (move-target M i x) ∙ move_same i l

  -- ---- the lifted map
  abbrev all : List Lifted
  all = lifted_darts M

  abbrev none : Lifted
  none = at 0 0 (pos 0) false

  pub objects-count : length (carried_objects M) ≡ count (lift M)
  unfolding carried_objects
  objects-count = length-map all (carried M) ∙ sym (lift-count M)

  pub objects-along : (i q : ℕ) → q < length all → i ≤ M.dim → get_or (carried_objects M) (link (lift M) i q) 0 ≡ get_or (carried_objects M) q 0
  objects-along i q h l =
      let x = get_or all q none in
      let X = at-member M q none h in
      let Y : Member (cut_of M) (target M i x) = rw (move-target M i x) (move-member (cut_of M) (lawful M L) x X i (omega arith)) in
      ap (λ (k : ℕ). get_or (carried_objects M) k 0) (lift-link M i q none h (omega arith))
      ∙ object-at M (number_in all (target M i x)) (number_lt M (target M i x) Y)
      ∙ ap (carried M) (number-at M (target M i x) none Y)
      ∙ carried-along x X i l
      ∙ sym (object-at M q h)

  pub objects-shared : Shared (lift M) (carried_objects M)
  objects-shared i q h l =
      objects-along i q (subst (λ (n : ℕ). q < n) (lift-count M) h) (let a : i < suc M.dim = subst (λ (n : ℕ). i < n) (lift-dim M) l in omega arith)

  pub lift-shared : (q r : ℕ) → q < count (lift M) → Cell (lift M) (lift M).dim q r → get_or (carried_objects M) q 0 ≡ get_or (carried_objects M) r 0
  lift-shared = shared-cell (lift M) (carried_objects M) (lift-local M L (lawful M L) (λ k d l h. ends-ascends M k d)) objects-shared
