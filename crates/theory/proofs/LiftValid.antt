-- The lift of a valid map is a valid map, for every dimension: what holds of lifted darts holds of their numbers.
--     map_at           a list made member by member, at a position
--     lift-count       it has as many darts as there are lifted darts
--     lift-dim         its dimension is one more
--     lift-dart        its darts, in order, are those of the lifted darts
--     lift-link        a link leads to the number of where the axis leads
--     lift-place       a place is that of the plan's dart, then the height
--     lift-rows-empty  rows are empty
--     lift-local       it is valid, given that the plan's cut is lawful and that ends ascend
use Rattle.std.proofs.Common.{◌≡◌, ℕ, zero, suc, ◌+◌, ◌<◌, ◌≤◌, false, List, [], ◌∷◌, ◌++◌, map, length, get_or, pos, sym, refl, ap, ◌∙◌, subst, suc-le-suc, le_of_suc-le-suc, not-suc-le-zero, add-one, arith, length-append}
use lib.ListN.{length-map}
use lib.Signed.{lt_z}
use Rattle.paper.specs.Map.{Map, Dart, spans_of, owned_of, no_dart, count, dart, link, place, owned}
use Rattle.paper.specs.Span.{ordered, row_fits}
use Rattle.paper.specs.Ends.{ends}
use Rattle.paper.specs.Lift.{Lifted, at, lifted_darts, number_in, target, lift_dart, lift}
use Rattle.theory.specs.Local.{Local}
use Rattle.theory.specs.Ascending.{Ascends}
use Rattle.theory.specs.Cut.{cut_of, Lawful}
use Rattle.theory.specs.Move.{Member, move}
use Rattle.theory.proofs.Below.{list_length, list_at}
use Rattle.theory.proofs.Valid.{pair_of}
use Rattle.theory.proofs.Move.{move-target, move-member, move-undo, move-far, move-place}
use Rattle.theory.proofs.Number.{at-member, number_lt, number-at, at-number}

pub map_at : {A B : Type 0} (f : A → B) (l : List A) (q : ℕ) (o : B) (z : A) → q < length l → get_or (map f l) q o ≡ f (get_or l q z)
map_at f [] q o z h = absurd (not-suc-le-zero h)
map_at f (x ∷ l) zero o z h = refl
map_at f (x ∷ l) (suc q) o z h = map_at f l q o z (le_of_suc-le-suc h)

-- ---- reading the lift
module _ (M : Map) where
  pub lift-dim : (lift M).dim ≡ suc M.dim
  unfolding lift
  lift-dim = refl

  pub lift-count : count (lift M) ≡ length (lifted_darts M)
  unfolding lift
  lift-count = length-map (lifted_darts M) (lift_dart M (lifted_darts M))

  pub lift-dart : (q : ℕ) (z : Lifted) → q < length (lifted_darts M) → dart (lift M) q ≡ lift_dart M (lifted_darts M) (get_or (lifted_darts M) q z)
  unfolding lift
  lift-dart q z h = map_at (lift_dart M (lifted_darts M)) (lifted_darts M) q no_dart z h

  pub lift-link : (i q : ℕ) (z : Lifted) → q < length (lifted_darts M) → i ≤ suc M.dim
      → link (lift M) i q ≡ number_in (lifted_darts M) (target M i (get_or (lifted_darts M) q z))
  unfolding lift_dart
  lift-link i q z h l =
      ap (λ (x : Dart). get_or x.links i 0) (lift-dart q z h)
      ∙ list_at (suc (suc M.dim)) (λ i. number_in (lifted_darts M) (target M i (get_or (lifted_darts M) q z))) 0 i (suc-le-suc l)

  pub lift-place : (q : ℕ) (z : Lifted) → q < length (lifted_darts M)
      → place (lift M) q ≡ place M (get_or (lifted_darts M) q z).d ++ ((get_or (lifted_darts M) q z).t ∷ [])
  unfolding lift_dart
  lift-place q z h = ap (λ (x : Dart). x.place) (lift-dart q z h)

  pub lift-rows-empty : (q : ℕ) → owned (lift M) q ≡ []
  unfolding lift lift_dart
  lift-rows-empty q = go (lifted_darts M) q
    where
      go : (l : List Lifted) (q : ℕ) → owned_of (get_or (map (lift_dart M (lifted_darts M)) l) q no_dart) ≡ []
      go [] q = refl
      go (x ∷ l) zero = refl
      go (x ∷ l) (suc q) = go l q

-- ---- the lift is valid
module _ (M : Map) (A : Local M) (W : Lawful (cut_of M)) (asc : (k d : ℕ) → k ≤ M.dim → d < count M → Ascends lt_z (ends M k d)) where
  abbrev all : List Lifted
  all = lifted_darts M

  abbrev none : Lifted
  none = at 0 0 (pos 0) false

  abbrev nth : ℕ → Lifted
  nth q = get_or all q none

  nth-member : (q : ℕ) → q < length all → Member (cut_of M) (nth q)
  nth-member q h = at-member M q none h

  -- where axis i leads, on numbers
  jump : ℕ → ℕ → ℕ
  jump i q = number_in all (move (cut_of M) i (nth q))

  jump-member : (i q : ℕ) → q < length all → i ≤ suc M.dim → Member (cut_of M) (move (cut_of M) i (nth q))
  jump-member i q h l = move-member (cut_of M) W (nth q) (nth-member q h) i l

  jump-lt : (i q : ℕ) → q < length all → i ≤ suc M.dim → jump i q < length all
  unfolding jump
  jump-lt i q h l = number_lt M (move (cut_of M) i (nth q)) (jump-member i q h l)

  jump-nth : (i q : ℕ) → q < length all → i ≤ suc M.dim → nth (jump i q) ≡ move (cut_of M) i (nth q)
  unfolding jump
  jump-nth i q h l = number-at M (move (cut_of M) i (nth q)) none (jump-member i q h l)

  jump-undo : (i q : ℕ) → q < length all → i ≤ suc M.dim → jump i (jump i q) ≡ q
  unfolding jump
  jump-undo i q h l =
      ap (λ (y : Lifted). number_in all (move (cut_of M) i y)) (jump-nth i q h l) ∙ ap (number_in all) (move-undo (cut_of M) W (nth q) (nth-member q h) i l)
      ∙ at-number M asc q none h

  jump-far : (i j q : ℕ) → q < length all → i + 2 ≤ j → j ≤ suc M.dim → jump i (jump j q) ≡ jump j (jump i q)
  unfolding jump
  jump-far i j q h f l =
      ap (λ (y : Lifted). number_in all (move (cut_of M) i y)) (jump-nth j q h l)
      ∙ ap (number_in all) (move-far (cut_of M) W (nth q) (nth-member q h) i j f l)
      ∙ ap (λ (y : Lifted). number_in all (move (cut_of M) j y)) (sym (jump-nth i q h (omega arith)))

  jump-pair : (i j q : ℕ) → q < length all → i + 2 ≤ j → j ≤ suc M.dim → jump i (jump j (jump i (jump j q))) ≡ q
  jump-pair i j q h f l =
      let a : i ≤ suc M.dim = omega arith in
      pair_of jump i j q (ap (jump i) (jump-undo j (jump i q) (jump-lt i q h a) l) ∙ jump-undo i q h a) (jump-far i j q h f l)

  -- the same of the lift's darts and axes
  below : {q : ℕ} → q < count (lift M) → q < length all
  below {q} h = subst (λ (n : ℕ). q < n) (lift-count M) h

  axis : {i : ℕ} → i ≤ (lift M).dim → i ≤ suc M.dim
  axis {i} l = subst (λ (n : ℕ). i ≤ n) (lift-dim M) l

  link-jump : (i q : ℕ) → q < length all → i ≤ suc M.dim → link (lift M) i q ≡ jump i q
  unfolding jump
  link-jump i q h l = lift-link M i q none h l ∙ ap (number_in all) (move-target M i (nth q))

  -- the place of the dart that axis j ≥ 1 leads to
  jump-place : (j q : ℕ) → q < length all → 1 ≤ j → j ≤ suc M.dim → place (lift M) (jump j q) ≡ place (lift M) q
  jump-place j q h g l =
      let e = jump-nth j q h l in
      let p = move-place (cut_of M) W (nth q) (nth-member q h) (place M) A.places j g l in
      lift-place M (jump j q) none (jump-lt j q h l) ∙ ap (λ (x : Lifted). place M x.d ++ (x.t ∷ [])) e ∙ (λ i. p.0 i ++ (p.1 i ∷ []))
      ∙ sym (lift-place M q none h)

  pub lift-local : Local (lift M)
  unfolding lift_dart ordered
  lift-local = record {
    axes = λ q h.
        ap (λ (x : Dart). length x.links) (lift-dart M q none (below h)) ∙ list_length (suc (suc M.dim)) (λ i. number_in all (target M i (nth q)))
        ∙ ap suc (sym (lift-dim M));
    coordinates = λ q h.
        let x = nth q in
        let e = A.coordinates x.d (nth-member q (below h)).dart in
        ap length (lift-place M q none (below h)) ∙ length-append (place M x.d) (x.t ∷ []) ∙ ap (λ (a : ℕ). a + 1) e ∙ add-one M.dim ∙ sym (lift-dim M);
    within = λ i q h l. rw (link-jump i q (below h) (axis l), lift-count M) (jump-lt i q (below h) (axis l));
    undo = λ i q h l.
        let a = below h in
        let b = axis l in
        rw (link-jump i q a b, link-jump i (jump i q) (jump-lt i q a b) b) (jump-undo i q a b);
    pair = λ i j q h f l.
        let a = below h in
        let b = axis l in
        let c : i ≤ suc M.dim = omega arith in
        let v = jump-lt j q a b in
        let w = jump-lt i (jump j q) v c in
        let u = jump-lt j (jump i (jump j q)) w b in
        rw (link-jump j q a b, link-jump i (jump j q) v c, link-jump j (jump i (jump j q)) w b, link-jump i (jump j (jump i (jump j q))) u c) (jump-pair i j q a f b);
    places = λ j q h g l. rw (link-jump j q (below h) (axis l)) (jump-place j q (below h) g (axis l));
    rows = λ j q h l. lift-rows-empty M (link (lift M) j q) ∙ sym (lift-rows-empty M q);
    short = λ q h. ap (λ r. row_fits (spans_of r)) (lift-rows-empty M q);
    order = λ q h. ap (λ r. ordered (spans_of r)) (lift-rows-empty M q);
  }
