-- Four moves that say the six cases of the lift in one way each, and their laws, over a lawful cut.
--     hop p            across along the plan's axis p if the side is covered there, else stay: i < k with p = i, i ≥ k + 2 with p = i - 1
--     climb            to level k + 1 if t is in B_{k+1}(d), else to the other side if it is covered, else stay: i = k + 1
--     to_level          to level k - 1, a fall: i = k ≥ 1
--     slide            to the next end on the side, and to its other side: i = k = 0
--     across, meets    where a hop leads, and the test of it
--     raised, rises, turned, through     where a climb leads, and the tests of it
--     is-..            an axis of a lifted dart is that move
--     hop-yes, hop-no, hop-level, climb-up, climb-to, rises-of     what a move comes to
--     end-at           the height of a lifted dart is an end of its level
--     ..-member        a move leads to a lifted dart
--     ..-undo, ..-hop  moves undo themselves, and commute with hops
use Rattle.std.proofs.Common.{◌≡◌, ℕ, suc, ◌+◌, ◌<◌, ◌≤◌, Bool, true, false, cond, not, eqb, ltb, leb, ◌⊎◌, ℤ, sym, refl, ap, ◌∙◌, subst, inl, inr, ⊎_elim, add-one, sub-one, arith, le-ltb, lt-ltb, eq-eqb, ne_eqb, le-leb, leb-false, leb-true}
use mathlib.Core.Bool.{not-not, false≢true}
use borrow.Author.Tests.{lt-leb}
use Rattle.paper.specs.Lift.{Lifted, at}
use Rattle.theory.specs.Cut.{Cut, Lawful}
use Rattle.theory.specs.Move.{Member, move}

module _ (C : Cut) where
  -- across along the plan's axis p, and whether the side is covered there
  abbrev pub across : ℕ → Lifted → Lifted
  across p x = at (C.α p x.d) x.k x.t x.s

  abbrev pub meets : ℕ → Lifted → Bool
  meets p x = C.cov (C.α p x.d) x.t x.s

  unfoldable pub hop : ℕ → Lifted → Lifted
  hop p x = cond (meets p x) (across p x) x

  -- t is in B_{k+1}(d), and there is such a level
  unfoldable pub rises : Lifted → Bool
  rises x = cond (leb (suc x.k) C.m) (C.end (suc x.k) x.d x.t) false

  -- the other side is covered
  abbrev pub through : Lifted → Bool
  through x = C.cov x.d x.t (not x.s)

  unfoldable pub slide : Lifted → Lifted
  slide x = at x.d 0 (C.next x.d x.t x.s) (not x.s)

-- one level up, one side over, and at level k
abbrev pub raised : Lifted → Lifted
raised x = at x.d (suc x.k) x.t x.s

abbrev pub turned : Lifted → Lifted
turned x = at x.d x.k x.t (not x.s)

abbrev pub to_level : ℕ → Lifted → Lifted
to_level k x = at x.d k x.t x.s

unfoldable pub climb : Cut → Lifted → Lifted
climb C x = cond (rises C x) (raised x) (cond (through C x) (turned x) x)

le-or : (a b : ℕ) → (a ≤ b) ⊎ (b < a)
le-or a b = go (leb a b) refl
  where
    go : (c : Bool) → leb a b ≡ c → (a ≤ b) ⊎ (b < a)
    go true e = inl (leb-true a b e)
    go false e = inr (leb-false a b e)

-- ---- the axes as moves
module _ (C : Cut) (L : Lawful C) (x : Lifted) (X : Member C x) where
  pub is-low : (i : ℕ) → i < x.k → move C i x ≡ hop C i x
  unfolding move hop
  is-low i h = let a = X.level in simp (lt-ltb i x.k h, L.rows i x.d x.t x.s X.dart (omega arith), X.side)

  pub is-climb : (j : ℕ) → j ≡ suc x.k → move C j x ≡ climb C x
  unfolding move climb rises
  is-climb j f = rw f (go (C.end (suc x.k) x.d x.t) refl (le-or (suc x.k) C.m))
    where
      above : ltb (suc x.k) x.k ≡ false
      above = le-ltb (suc x.k) x.k (omega arith)

      apart : eqb (suc x.k) x.k ≡ false
      apart = ne_eqb (suc x.k) x.k (λ e. omega arith)

      same : eqb (suc x.k) (suc x.k) ≡ true
      same = eq-eqb (suc x.k) (suc x.k) refl

      go : (b : Bool) → C.end (suc x.k) x.d x.t ≡ b → (suc x.k ≤ C.m) ⊎ (C.m < suc x.k) → unfold move climb rises in (move C (suc x.k) x ≡ climb C x)
      go true e (inl l) = simp (add-one, above, apart, same, le-leb (suc x.k) C.m l, e)
      go false e (inl l) = simp (add-one, above, apart, same, le-leb (suc x.k) C.m l, e, ← L.inside (suc x.k) x.d x.t x.s X.dart l e, X.side)
      go b e (inr l) = let a = X.level in let z : x.k ≡ C.m = omega arith in simp (add-one, above, apart, same, lt-leb (suc x.k) C.m l, ← z)

  pub is-high : (j p : ℕ) → j ≡ suc p → suc x.k ≤ p → p ≤ C.m → move C j x ≡ hop C p x
  unfolding move hop
  is-high j p e h l = rw e (⊎_elim
      (λ (lo : suc p ≤ C.m). simp (above, apart, off, sub-one, le-leb (suc p) C.m lo, L.rows p x.d x.t x.s X.dart lo, X.side))
      (λ (hi : C.m < suc p). let z : C.m ≡ p = omega arith in simp (above, apart, off, z, lt-leb (suc p) p (omega arith)))
      (le-or (suc p) C.m))
    where
      above : ltb (suc p) x.k ≡ false
      above = le-ltb (suc p) x.k (omega arith)

      apart : eqb (suc p) x.k ≡ false
      apart = ne_eqb (suc p) x.k (λ e. omega arith)

      off : eqb (suc p) (x.k + 1) ≡ false
      off = ne_eqb (suc p) (x.k + 1) (λ e. omega arith)

module _ (C : Cut) (x : Lifted) where
  pub is-fall : (j k : ℕ) → j ≡ suc k → x.k ≡ suc k → move C j x ≡ to_level k x
  unfolding move
  is-fall j k e f = simp (e, f, le-ltb (suc k) (suc k) (omega arith), eq-eqb (suc k) (suc k) refl, ne_eqb (suc k) 0 (λ e. omega arith), sub-one)

  pub is-slide : (j : ℕ) → j ≡ 0 → x.k ≡ 0 → move C j x ≡ slide C x
  unfolding move slide
  is-slide j e f = simp (e, f)

-- ---- what the moves come to
module _ (C : Cut) (x : Lifted) where
  pub hop-yes : (p : ℕ) → meets C p x ≡ true → hop C p x ≡ across C p x
  unfolding hop
  hop-yes p e = simp e

  pub hop-no : (p : ℕ) → meets C p x ≡ false → hop C p x ≡ x
  unfolding hop
  hop-no p e = simp e

  pub hop-level : (p : ℕ) → (hop C p x).k ≡ x.k
  hop-level p = go (meets C p x) refl
    where
      go : (b : Bool) → meets C p x ≡ b → (hop C p x).k ≡ x.k
      go true e = ap (λ (y : Lifted). y.k) (hop-yes p e)
      go false e = ap (λ (y : Lifted). y.k) (hop-no p e)

  pub climb-up : rises C x ≡ true → climb C x ≡ raised x
  unfolding climb
  climb-up e = simp e

  climb-turn : rises C x ≡ false → through C x ≡ true → climb C x ≡ turned x
  unfolding climb
  climb-turn e f = simp (e, f)

  climb-stay : rises C x ≡ false → through C x ≡ false → climb C x ≡ x
  unfolding climb
  climb-stay e f = simp (e, f)

  -- what holds of a lifted dart one level up, on the other side and here holds of where it climbs to
  pub climb-to : (P : Lifted → Type 0) → P (raised x) → P (turned x) → P x → P (climb C x)
  unfolding climb
  climb-to P a b c = go (rises C x) (through C x)
    where
      go : (r t : Bool) → P (cond r (raised x) (cond t (turned x) x))
      go true t = a
      go false true = b
      go false false = c

  rises-true : rises C x ≡ true → (suc x.k ≤ C.m) × (C.end (suc x.k) x.d x.t ≡ true)
  unfolding rises
  rises-true e = go (leb (suc x.k) C.m) refl e
    where
      go : (b : Bool) → leb (suc x.k) C.m ≡ b → cond b (C.end (suc x.k) x.d x.t) false ≡ true
          → (suc x.k ≤ C.m) × (C.end (suc x.k) x.d x.t ≡ true)
      go true f e = (leb-true _ _ f, e)
      go false f e = absurd (false≢true e)

  pub rises-of : suc x.k ≤ C.m → rises C x ≡ C.end (suc x.k) x.d x.t
  unfolding rises
  rises-of h = simp (le-leb (suc x.k) C.m h)

  rises-off : C.m < suc x.k → rises C x ≡ false
  unfolding rises
  rises-off h = simp (lt-leb (suc x.k) C.m h)

  rises-turned : rises C (turned x) ≡ rises C x
  unfolding rises
  rises-turned = refl

-- ---- a move leads to a lifted dart
module _ (C : Cut) (L : Lawful C) (x : Lifted) (X : Member C x) where
  pub hop-member : (p : ℕ) → p ≤ C.m → (p ≡ x.k → ⊥) → Member C (hop C p x)
  hop-member p l ne = go (meets C p x) refl
    where
      go : (b : Bool) → meets C p x ≡ b → Member C (hop C p x)
      go true e = rw (hop-yes C x p e) (record {
        dart = L.within p x.d X.dart l;
        level = X.level;
        end = L.cell x.k p x.d x.t X.dart X.level l ne ∙ X.end;
        side = e;
      })
      go false e = rw (hop-no C x p e) X

  pub climb-member : Member C (climb C x)
  climb-member = go (rises C x) (through C x) refl refl
    where
      go : (a b : Bool) → rises C x ≡ a → through C x ≡ b → Member C (climb C x)
      go true b e f = let h = rises-true C x e in rw (climb-up C x e) (record { dart = X.dart; level = h.0; end = h.1; side = X.side })
      go false true e f = rw (climb-turn C x e f) (record { dart = X.dart; level = X.level; end = X.end; side = f })
      go false false e f = rw (climb-stay C x e f) X

  pub end-at : (k : ℕ) → x.k ≡ k → C.end k x.d x.t ≡ true
  end-at k e = subst (λ (j : ℕ). C.end j x.d x.t ≡ true) e X.end

  pub fall-member : (k : ℕ) → x.k ≡ suc k → Member C (to_level k x)
  fall-member k e = let a = X.level in record {
    dart = X.dart;
    level = omega arith;
    end = L.nested k x.d x.t X.dart (omega arith) (end-at (suc k) e);
    side = X.side;
  }

  pub slide-member : x.k ≡ 0 → Member C (slide C x)
  unfolding slide
  slide-member e = record {
    dart = X.dart;
    level = omega arith;
    end = L.next_end x.d x.t x.s X.dart (end-at 0 e) X.side;
    side = L.next_cov x.d x.t x.s X.dart (end-at 0 e) X.side;
  }

  -- ---- moves undo themselves
  pub hop-undo : (p : ℕ) → p ≤ C.m → hop C p (hop C p x) ≡ x
  hop-undo p l = go (meets C p x) refl
    where
      u : C.α p (C.α p x.d) ≡ x.d
      u = L.undo p x.d X.dart l

      go : (b : Bool) → meets C p x ≡ b → hop C p (hop C p x) ≡ x
      go true e = ap (hop C p) (hop-yes C x p e) ∙ hop-yes C (across C p x) p (ap (λ (d : ℕ). C.cov d x.t x.s) u ∙ X.side)
          ∙ ap (λ (d : ℕ). at d x.k x.t x.s) u
      go false e = ap (hop C p) (hop-no C x p e) ∙ hop-no C x p e

  pub slide-undo : x.k ≡ 0 → slide C (slide C x) ≡ x
  unfolding slide
  slide-undo f = rw (L.next_back x.d x.t x.s X.dart (end-at 0 f) X.side, not-not, ← f)

  pub climb-undo : (j : ℕ) → j ≡ suc x.k → move C j (climb C x) ≡ x
  climb-undo j e = go (rises C x) (through C x) refl refl
    where
      go : (a b : Bool) → rises C x ≡ a → through C x ≡ b → move C j (climb C x) ≡ x
      go true b f c = ap (move C j) (climb-up C x f) ∙ is-fall C (raised x) j x.k e refl
      go false true f c =
          ap (move C j) (climb-turn C x f c) ∙ is-climb C L (turned x) (record { dart = X.dart; level = X.level; end = X.end; side = c }) j e
          ∙ climb-turn C (turned x) (rises-turned C x ∙ f) (ap (C.cov x.d x.t) (not-not x.s) ∙ X.side) ∙ rw not-not
      go false false f c = ap (move C j) (climb-stay C x f c) ∙ is-climb C L x X j e ∙ climb-stay C x f c

-- ---- moves commute with hops
module _ (C : Cut) (L : Lawful C) (x : Lifted) (X : Member C x) where
  pub hop-hop : (p q : ℕ) → p + 2 ≤ q → q ≤ C.m → hop C p (hop C q x) ≡ hop C q (hop C p x)
  hop-hop p q h l = go (meets C q x) refl
    where
      f : C.α p (C.α q x.d) ≡ C.α q (C.α p x.d)
      f = L.far p q x.d X.dart h l

      same : (e : ℕ) → e < C.N → C.cov (C.α p e) x.t x.s ≡ C.cov e x.t x.s
      same e z = L.rows p e x.t x.s z (omega arith)

      beyond : C.cov (C.α p (C.α q x.d)) x.t x.s ≡ meets C q x
      beyond = same (C.α q x.d) (L.within q x.d X.dart l)

      there : meets C q (across C p x) ≡ meets C q x
      there = ap (λ (d : ℕ). C.cov d x.t x.s) (sym f) ∙ beyond

      first : hop C p x ≡ across C p x
      first = hop-yes C x p (same x.d X.dart ∙ X.side)

      go : (b : Bool) → meets C q x ≡ b → hop C p (hop C q x) ≡ hop C q (hop C p x)
      go true e = ap (hop C p) (hop-yes C x q e) ∙ hop-yes C (across C q x) p (beyond ∙ e)
          ∙ ap (λ (d : ℕ). at d x.k x.t x.s) f ∙ sym (ap (hop C q) first ∙ hop-yes C (across C p x) q (there ∙ e))
      go false e = ap (hop C p) (hop-no C x q e) ∙ first ∙ sym (ap (hop C q) first ∙ hop-no C (across C p x) q (there ∙ e))

  pub fall-hop : (p j k : ℕ) → j ≡ suc k → x.k ≡ suc k → move C j (hop C p x) ≡ hop C p (to_level k x)
  fall-hop p j k e f = go (meets C p x) refl
    where
      go : (b : Bool) → meets C p x ≡ b → move C j (hop C p x) ≡ hop C p (to_level k x)
      go true c = ap (move C j) (hop-yes C x p c) ∙ is-fall C (across C p x) j k e f ∙ sym (hop-yes C (to_level k x) p c)
      go false c = ap (move C j) (hop-no C x p c) ∙ is-fall C x j k e f ∙ sym (hop-no C (to_level k x) p c)

  pub slide-hop : (p : ℕ) → x.k ≡ 0 → 1 ≤ p → p ≤ C.m → slide C (hop C p x) ≡ hop C p (slide C x)
  unfolding slide
  slide-hop p f h l = go (meets C p x) refl
    where
      there : meets C p x ≡ meets C p (slide C x)
      there = L.between p x.d x.t x.s X.dart h l (end-at C L x X 0 f) X.side

      go : (b : Bool) → meets C p x ≡ b → unfold slide in (slide C (hop C p x) ≡ hop C p (slide C x))
      go true c = ap (slide C) (hop-yes C x p c) ∙ ap (λ (t : ℤ). at (C.α p x.d) 0 t (not x.s)) (L.next_cell p x.d x.t x.s X.dart h l)
          ∙ sym (hop-yes C (slide C x) p (sym there ∙ c))
      go false c = ap (slide C) (hop-no C x p c) ∙ sym (hop-no C (slide C x) p (sym there ∙ c))

  -- where p is below m, or there is a level above; in both cases p is not that level
  pub climb-hop : (p : ℕ) → p ≤ C.m → (p ≡ suc x.k → ⊥) → (p < C.m) ⊎ (suc x.k ≤ C.m) → climb C (hop C p x) ≡ hop C p (climb C x)
  climb-hop p l ne w = go (rises C x) (meets C p x) refl refl
    where
      same : (suc x.k ≤ C.m) ⊎ (C.m < suc x.k) → rises C (across C p x) ≡ rises C x
      same (inl h) = rises-of C (across C p x) h ∙ L.cell (suc x.k) p x.d x.t X.dart h l ne ∙ sym (rises-of C x h)
      same (inr h) = rises-off C (across C p x) h ∙ sym (rises-off C x h)

      there : rises C (across C p x) ≡ rises C x
      there = same (le-or (suc x.k) C.m)

      -- the side is covered across, and the other side there as here; or the other side is covered here, and there as the side is
      others : rises C x ≡ false → (p < C.m) ⊎ (suc x.k ≤ C.m)
          → ((meets C p x ≡ true) × (meets C p (turned x) ≡ through C x)) ⊎ ((through C x ≡ true) × (meets C p (turned x) ≡ meets C p x))
      others e (inl h) = inl (L.rows p x.d x.t x.s X.dart h ∙ X.side, L.rows p x.d x.t (not x.s) X.dart h)
      others e (inr h) =
          let z : C.end (suc x.k) x.d x.t ≡ false = sym (rises-of C x h) ∙ e in
          let u = L.cell (suc x.k) p x.d x.t X.dart h l ne ∙ z in inr (
            sym (L.inside (suc x.k) x.d x.t x.s X.dart h z) ∙ X.side,
            sym (L.inside (suc x.k) (C.α p x.d) x.t x.s (L.within p x.d X.dart l) h u),
          )

      low : (u : Bool) → rises C x ≡ false → through C x ≡ u → meets C p x ≡ true → meets C p (turned x) ≡ u → climb C (hop C p x) ≡ hop C p (climb C x)
      low true e f c v = ap (climb C) (hop-yes C x p c) ∙ climb-turn C (across C p x) (there ∙ e) v ∙ sym (ap (hop C p) (climb-turn C x e f) ∙ hop-yes C (turned x) p v)
      low false e f c v = ap (climb C) (hop-yes C x p c) ∙ climb-stay C (across C p x) (there ∙ e) v ∙ sym (ap (hop C p) (climb-stay C x e f) ∙ hop-yes C x p c)

      high : (b : Bool) → rises C x ≡ false → through C x ≡ true → meets C p x ≡ b → meets C p (turned x) ≡ b → climb C (hop C p x) ≡ hop C p (climb C x)
      high true e f c v = low true e f c v
      high false e f c v = ap (climb C) (hop-no C x p c) ∙ climb-turn C x e f ∙ sym (ap (hop C p) (climb-turn C x e f) ∙ hop-no C (turned x) p v)

      go : (a b : Bool) → rises C x ≡ a → meets C p x ≡ b → climb C (hop C p x) ≡ hop C p (climb C x)
      go true true e c = ap (climb C) (hop-yes C x p c) ∙ climb-up C (across C p x) (there ∙ e) ∙ sym (ap (hop C p) (climb-up C x e) ∙ hop-yes C (raised x) p c)
      go true false e c = ap (climb C) (hop-no C x p c) ∙ climb-up C x e ∙ sym (ap (hop C p) (climb-up C x e) ∙ hop-no C (raised x) p c)
      go false b e c = ⊎_elim (λ h. low (through C x) e refl h.0 h.1) (λ h. high b e h.0 c (h.1 ∙ c)) (others e w)
