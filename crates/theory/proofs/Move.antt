-- Where the axes lead from a lifted dart, over a lawful cut: they make a generalised map of the lifted darts.
--     View, view       where an axis stands to a level
--     move-target      the six cases of a map's cut are the map's
--     move-member      an axis leads to a lifted dart
--     move-undo        it undoes itself
--     move-far         axes two or more apart commute
--     move-place       an axis other than 0 keeps the height, and the place of the plan's dart
use Rattle.std.proofs.Common.{◌≡◌, ℕ, zero, suc, ◌+◌, ◌<◌, ◌≤◌, Bool, true, false, sym, refl, ap, ◌∙◌, inl, inr, arith}
use Rattle.paper.specs.Map.{Map}
use Rattle.paper.specs.Lift.{Lifted, target}
use Rattle.theory.specs.Cut.{Cut, cut_of, Lawful}
use Rattle.theory.specs.Move.{Member, move}
use Rattle.theory.proofs.Hop.{hop, climb, slide, meets, to_level, is-low, is-climb, is-high, is-fall, is-slide, hop-yes, hop-no, hop-level, climb-up, climb-to}
use Rattle.theory.proofs.Hop.{rises-of, end-at, hop-member, climb-member, fall-member, slide-member, hop-undo, climb-undo, slide-undo}
use Rattle.theory.proofs.Hop.{hop-hop, climb-hop, fall-hop, slide-hop}

pub move-target : (M : Map) (i : ℕ) (x : Lifted) → target M i x ≡ move (cut_of M) i x
unfolding target move
move-target M i x = refl

-- ---- where an axis stands to a level
pub data View (i k : ℕ) : Type 0 where
  below : i < k → View i k
  zeroth : i ≡ 0 → k ≡ 0 → View i k
  same : (j : ℕ) → i ≡ suc j → k ≡ suc j → View i k
  next : i ≡ suc k → View i k
  above : (p : ℕ) → i ≡ suc p → suc k ≤ p → View i k

pub view : (i k : ℕ) → View i k
view zero zero = zeroth refl refl
view zero (suc k) = below (omega arith)
view (suc i) zero = go i
  where
    go : (i : ℕ) → View (suc i) zero
    go zero = next refl
    go (suc i) = above (suc i) refl (omega arith)
view (suc i) (suc k) = go (view i k)
  where
    go : View i k → View (suc i) (suc k)
    go (below h) = below (omega arith)
    go (zeroth e f) = same 0 (omega arith) (omega arith)
    go (same j e f) = same (suc j) (omega arith) (omega arith)
    go (next e) = next (omega arith)
    go (above p e h) = above (suc p) (omega arith) (omega arith)

-- ---- an axis leads to a lifted dart
module _ (C : Cut) (L : Lawful C) (x : Lifted) (X : Member C x) where
  pub move-member : (i : ℕ) → i ≤ suc C.m → Member C (move C i x)
  move-member i l = go (view i x.k)
    where
      go : View i x.k → Member C (move C i x)
      go (below h) = let a = X.level in rw (is-low C L x X i h) (hop-member C L x X i (omega arith) (λ ne. omega arith))
      go (zeroth e f) = rw (is-slide C x i e f) (slide-member C L x X f)
      go (same j e f) = rw (is-fall C x i j e f) (fall-member C L x X j f)
      go (next e) = rw (is-climb C L x X i e) (climb-member C L x X)
      go (above p e h) = rw (is-high C L x X i p e h (omega arith)) (hop-member C L x X p (omega arith) (λ ne. omega arith))

-- ---- after a hop along p an axis is the same move as before it
module _ (C : Cut) (L : Lawful C) (x : Lifted) (X : Member C x) (p : ℕ) (l : p ≤ C.m) (ne : p ≡ x.k → ⊥) where
  low-hop : (i : ℕ) → i < x.k → move C i (hop C p x) ≡ hop C i (hop C p x)
  low-hop i h = is-low C L (hop C p x) (hop-member C L x X p l ne) i (rw (hop-level C x p) h)

  high-hop : (j q : ℕ) → j ≡ suc q → suc x.k ≤ q → q ≤ C.m → move C j (hop C p x) ≡ hop C q (hop C p x)
  high-hop j q e h g = is-high C L (hop C p x) (hop-member C L x X p l ne) j q e (rw (hop-level C x p) h) g

  next-hop : (j : ℕ) → j ≡ suc x.k → move C j (hop C p x) ≡ climb C (hop C p x)
  next-hop j e = is-climb C L (hop C p x) (hop-member C L x X p l ne) j (e ∙ ap suc (sym (hop-level C x p)))

  zeroth-hop : (j : ℕ) → j ≡ 0 → x.k ≡ 0 → move C j (hop C p x) ≡ slide C (hop C p x)
  zeroth-hop j e f = is-slide C (hop C p x) j e (hop-level C x p ∙ f)

module _ (C : Cut) (L : Lawful C) (x : Lifted) (X : Member C x) where
  -- ---- an axis undoes itself
  pub move-undo : (i : ℕ) → i ≤ suc C.m → move C i (move C i x) ≡ x
  unfolding slide
  move-undo i l = go (view i x.k)
    where
      go : View i x.k → move C i (move C i x) ≡ x
      go (below h) =
          let a = X.level in
          ap (move C i) (is-low C L x X i h) ∙ low-hop C L x X i (omega arith) (λ ne. omega arith) i h ∙ hop-undo C L x X i (omega arith)
      go (zeroth e f) = ap (move C i) (is-slide C x i e f) ∙ is-slide C (slide C x) i e refl ∙ slide-undo C L x X f
      go (same j e f) =
          let a = X.level in
          let y = to_level j x in
          ap (move C i) (is-fall C x i j e f) ∙ is-climb C L y (fall-member C L x X j f) i e
          ∙ climb-up C y (rises-of C y (omega arith) ∙ end-at C L x X (suc j) f) ∙ ap (λ (k : ℕ). to_level k x) (sym f)
      go (next e) = ap (move C i) (is-climb C L x X i e) ∙ climb-undo C L x X i e
      go (above p e h) =
          ap (move C i) (is-high C L x X i p e h (omega arith)) ∙ high-hop C L x X p (omega arith) (λ ne. omega arith) i p e h (omega arith)
          ∙ hop-undo C L x X p (omega arith)

  -- ---- axes two or more apart commute
  -- four moves around a square
  square : (i j : ℕ) {y z w : Lifted} → move C j x ≡ y → move C i y ≡ w → move C i x ≡ z → move C j z ≡ w → move C i (move C j x) ≡ move C j (move C i x)
  square i j p q r u = ap (move C i) p ∙ q ∙ sym (ap (move C j) r ∙ u)

  -- i < k: i is a hop along i
  far-low : (i j : ℕ) → i + 2 ≤ j → j ≤ suc C.m → i < x.k → View j x.k → move C i (move C j x) ≡ move C j (move C i x)
  far-low i j h l a (below b) =
      let c = X.level in
      square i j (is-low C L x X j b) (low-hop C L x X j (omega arith) (λ ne. omega arith) i a ∙ hop-hop C L x X i j h (omega arith))
      (is-low C L x X i a) (low-hop C L x X i (omega arith) (λ ne. omega arith) j b)
  far-low i j h l a (zeroth e f) = absurd (omega arith)
  far-low i j h l a (same n e f) =
      let c = X.level in
      square i j (is-fall C x j n e f) (is-low C L (to_level n x) (fall-member C L x X n f) i (omega arith)) (is-low C L x X i a) (fall-hop C L x X i j n e f)
  far-low i j h l a (next e) =
      let c = X.level in
      square i j (is-climb C L x X j e) (is-low C L (climb C x) (climb-member C L x X) i (climb-to C x (λ y. i < y.k) (omega arith) a a))
      (is-low C L x X i a) (next-hop C L x X i (omega arith) (λ ne. omega arith) j e ∙ climb-hop C L x X i (omega arith) (λ ne. omega arith) (inl (omega arith)))
  far-low i j h l a (above q e b) =
      let c = X.level in
      square i j (is-high C L x X j q e b (omega arith)) (low-hop C L x X q (omega arith) (λ ne. omega arith) i a ∙ hop-hop C L x X i q (omega arith) (omega arith))
      (is-low C L x X i a) (high-hop C L x X i (omega arith) (λ ne. omega arith) j q e b (omega arith))

  -- i ≥ k: then j ≥ k + 2, and j is a hop along q = j - 1
  far-rest : (i q : ℕ) → i + 1 ≤ q → q ≤ C.m → View i x.k → move C i (move C (suc q) x) ≡ move C (suc q) (move C i x)
  unfolding slide
  far-rest i q h l (below a) = far-low i (suc q) (omega arith) (omega arith) a (view (suc q) x.k)
  far-rest i q h l (zeroth e f) =
      square i (suc q) (is-high C L x X (suc q) q refl (omega arith) l) (zeroth-hop C L x X q l (λ ne. omega arith) i e f ∙ slide-hop C L x X q f (omega arith) l)
      (is-slide C x i e f) (is-high C L (slide C x) (slide-member C L x X f) (suc q) q refl (omega arith) l)
  far-rest i q h l (same n e f) =
      square i (suc q) (is-high C L x X (suc q) q refl (omega arith) l) (fall-hop C L x X q i n e f)
      (is-fall C x i n e f) (is-high C L (to_level n x) (fall-member C L x X n f) (suc q) q refl (omega arith) l)
  far-rest i q h l (next e) =
      square i (suc q) (is-high C L x X (suc q) q refl (omega arith) l)
      (next-hop C L x X q l (λ ne. omega arith) i e ∙ climb-hop C L x X q l (λ ne. omega arith) (inr (omega arith)))
      (is-climb C L x X i e)
      (is-high C L (climb C x) (climb-member C L x X) (suc q) q refl (climb-to C x (λ y. suc y.k ≤ q) (omega arith) (omega arith) (omega arith)) l)
  far-rest i q h l (above p e a) =
      square i (suc q) (is-high C L x X (suc q) q refl (omega arith) l)
      (high-hop C L x X q l (λ ne. omega arith) i p e a (omega arith) ∙ hop-hop C L x X p q (omega arith) l)
      (is-high C L x X i p e a (omega arith)) (high-hop C L x X p (omega arith) (λ ne. omega arith) (suc q) q refl (omega arith) l)

  pub move-far : (i j : ℕ) → i + 2 ≤ j → j ≤ suc C.m → move C i (move C j x) ≡ move C j (move C i x)
  move-far i zero h l = absurd (omega arith)
  move-far i (suc q) h l = far-rest i q (omega arith) (omega arith) (view i x.k)

  -- ---- an axis other than 0 keeps the height, and the place of the plan's dart
  module _ {P : Type 0} (place : ℕ → P) (kept : (j d : ℕ) → d < C.N → 1 ≤ j → j ≤ C.m → place (C.α j d) ≡ place d) where
    abbrev Same : Lifted → Type 0
    Same y = (place y.d ≡ place x.d) × (y.t ≡ x.t)

    hop-place : (p : ℕ) → 1 ≤ p → p ≤ C.m → Same (hop C p x)
    hop-place p h l = go (meets C p x) refl
      where
        go : (b : Bool) → meets C p x ≡ b → Same (hop C p x)
        go true e = rw (hop-yes C x p e) (kept p x.d X.dart h l, refl)
        go false e = rw (hop-no C x p e) (refl, refl)

    pub move-place : (i : ℕ) → 1 ≤ i → i ≤ suc C.m → (place (move C i x).d ≡ place x.d) × ((move C i x).t ≡ x.t)
    move-place i g l = go (view i x.k)
      where
        go : View i x.k → Same (move C i x)
        go (below h) = let a = X.level in rw (is-low C L x X i h) (hop-place i g (omega arith))
        go (zeroth e f) = absurd (omega arith)
        go (same j e f) = rw (is-fall C x i j e f) (refl, refl)
        go (next e) = rw (is-climb C L x X i e) (climb-to C x Same (refl, refl) (refl, refl) (refl, refl))
        go (above p e h) = rw (is-high C L x X i p e h (omega arith)) (hop-place p (omega arith) (omega arith))
