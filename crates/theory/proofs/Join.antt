-- A row with a new span in it: it and those that it overlaps become one. What asks for a row in order, or for a span that is no empty one, says so.
--     below_apart, above_apart       a span that starts at another's end or above, or ends at its start or below, does not overlap it
--     joined-low, joined-high        the joined span reaches as far as the new one, both ways
--     joined-lo            it starts with the new one where the row does not start lower
--     reach-low, reach-high          a span that the new one overlaps reaches what is joined so far
--     past-none            once a span starts at the new one's hi or above, none is overlapped
--     alone                where the new one overlaps none, nothing is joined and all stay
--     place-front, place-any         a span put in its place: in front of a row that starts above it, beside what was in the row
--     with_span-has, with_span-stays, with_span-member  the new row has the joined span, and each that the new one does not overlap, and no other
--     with_span-ordered     the new row is in order
--     with_span-length      it is as long as those that the new one does not overlap, and the joined span
--     with_span-alone, with_span-grows      where the new span overlaps none it comes in its place, and the row grows only there
--     with_span-later       a span that ends at the new one's lo or below stays before it
--     with_span-inside      a span inside one of its object leaves the row as it was
use Rattle.std.proofs.Common.{◌≡◌, suc, ◌<◌, ◌≤◌, Bool, true, false, cond, ◌&&◌, ◌||◌, ◌⊎◌, List, [], ◌∷◌, length, ℤ, sym, refl, ap, ◌∙◌, subst, inl, inr, ⊎_elim, arith}
use mathlib.Core.List.Memᴰ
use lib.Signed.{lt_z, le_z}
use Rattle.paper.specs.Below.{any_of}
use Rattle.paper.specs.Map.{Span, Owned, spans_of}
use Rattle.paper.specs.Span.{starts_from, ordered, overlaps}
use Rattle.paper.specs.Join.{lower, higher, hull, joined, unmet, in_place, with_span}
use Rattle.theory.specs.Member.{◌∈◌}
use Rattle.theory.proofs.Bool.{and_both, and_intro, or_off, not-true, clash}
use Rattle.theory.proofs.Member.{any-of-out}
use Rattle.theory.proofs.Order.{Z-order, asym, le_in, le_out, le-lt, lt-le, le-le}
use Rattle.theory.proofs.Row.{starts-less, ordered-parts, starts-behind, ordered-cons, ordered-after, ordered-proper, spans-in, spans-out, apart}

-- ---- the lower and the higher of two heights
lower-right : (a b : ℤ) → lt_z b (lower a b) ≡ false
lower-right a b = go (lt_z a b) refl
  where
    go : (t : Bool) → lt_z a b ≡ t → lt_z b (cond t a b) ≡ false
    go true e = asym lt_z Z-order a b e
    go false e = Z-order.irrefl b

higher-right : (a b : ℤ) → lt_z (higher a b) b ≡ false
higher-right a b = go (lt_z a b) refl
  where
    go : (t : Bool) → lt_z a b ≡ t → lt_z (cond t b a) b ≡ false
    go true e = Z-order.irrefl b
    go false e = e

-- each of the two has it
of_two : (P : ℤ → Type 0) (t : Bool) (a b : ℤ) → P a → P b → P (cond t a b)
of_two P true a b p q = p
of_two P false a b p q = q

-- ---- a new span and those that it overlaps, as one
module _ (x : Span) where
  -- it reaches as far as the new one, both ways
  pub joined-low : (r : List Span) → lt_z x.lo (joined x r).lo ≡ false
  unfolding joined
  joined-low [] = Z-order.irrefl x.lo
  joined-low (y ∷ r) = go (overlaps x y) (joined-low r)
    where
      go : (t : Bool) → lt_z x.lo (joined x r).lo ≡ false → lt_z x.lo (cond t (hull y (joined x r)) (joined x r)).lo ≡ false
      go true e = le-le lt_z Z-order (lower y.lo (joined x r).lo) (joined x r).lo x.lo (lower-right y.lo (joined x r).lo) e
      go false e = e

  pub joined-high : (r : List Span) → lt_z (joined x r).hi x.hi ≡ false
  unfolding joined
  joined-high [] = Z-order.irrefl x.hi
  joined-high (y ∷ r) = go (overlaps x y) (joined-high r)
    where
      go : (t : Bool) → lt_z (joined x r).hi x.hi ≡ false → lt_z (cond t (hull y (joined x r)) (joined x r)).hi x.hi ≡ false
      go true e = le-le lt_z Z-order x.hi (joined x r).hi (higher y.hi (joined x r).hi) e (higher-right y.hi (joined x r).hi)
      go false e = e

  joined-proper : (r : List Span) → lt_z x.lo x.hi ≡ true → lt_z (joined x r).lo (joined x r).hi ≡ true
  joined-proper r p =
      lt-le lt_z Z-order (joined x r).lo x.hi (joined x r).hi (le-lt lt_z Z-order (joined x r).lo x.lo x.hi (joined-low r) p) (joined-high r)

-- ---- spans apart
-- two spans that do not overlap: one starts at the end of the other or above
apart-cases : (x z : Span) → overlaps x z ≡ false → (lt_z x.lo z.hi ≡ false) ⊎ (lt_z z.lo x.hi ≡ false)
apart-cases x z o = go (lt_z x.lo z.hi) refl o
  where
    go : (t : Bool) → lt_z x.lo z.hi ≡ t → (t && lt_z z.lo x.hi) ≡ false → (lt_z x.lo z.hi ≡ false) ⊎ (lt_z z.lo x.hi ≡ false)
    go true e o = inr o
    go false e o = inl e

pub below_apart : (x z : Span) → lt_z z.lo x.hi ≡ false → overlaps x z ≡ false
below_apart x z e = not-true (overlaps x z) (λ o. clash (and_both (lt_z x.lo z.hi) (lt_z z.lo x.hi) o).1 e)

pub above_apart : (x z : Span) → lt_z x.lo z.hi ≡ false → overlaps x z ≡ false
above_apart x z e = not-true (overlaps x z) (λ o. clash (and_both (lt_z x.lo z.hi) (lt_z z.lo x.hi) o).0 e)

-- what lies apart from two spans that reach each other lies apart from both as one
hull-apart : (y h z : Span) → lt_z y.lo h.hi ≡ true → lt_z h.lo y.hi ≡ true → lt_z z.lo z.hi ≡ true → overlaps y z ≡ false → overlaps h z ≡ false → overlaps (hull y h) z ≡ false
hull-apart y h z p q s o u = go (apart-cases y z o) (apart-cases h z u)
  where
    go : (lt_z y.lo z.hi ≡ false) ⊎ (lt_z z.lo y.hi ≡ false) → (lt_z h.lo z.hi ≡ false) ⊎ (lt_z z.lo h.hi ≡ false) → overlaps (hull y h) z ≡ false
    go (inl a) (inl b) = above_apart (hull y h) z (of_two (λ k. lt_z k z.hi ≡ false) (lt_z y.lo h.lo) y.lo h.lo a b)
    go (inr a) (inr b) = below_apart (hull y h) z (of_two (λ k. lt_z z.lo k ≡ false) (lt_z y.hi h.hi) h.hi y.hi b a)
    go (inl a) (inr b) = absurd (clash (lt-le lt_z Z-order y.lo h.hi z.lo p b) (le-le lt_z Z-order z.lo z.hi y.lo (asym lt_z Z-order z.lo z.hi s) a))
    go (inr a) (inl b) = absurd (clash (lt-le lt_z Z-order h.lo y.hi z.lo q a) (le-le lt_z Z-order z.lo z.hi h.lo (asym lt_z Z-order z.lo z.hi s) b))

-- a span that the new one overlaps reaches what is joined so far
module _ (x y : Span) (r : List Span) (o : overlaps x y ≡ true) where
  pub reach-high : lt_z y.lo (joined x r).hi ≡ true
  reach-high = lt-le lt_z Z-order y.lo x.hi (joined x r).hi (and_both (lt_z x.lo y.hi) (lt_z y.lo x.hi) o).1 (joined-high x r)

  pub reach-low : lt_z (joined x r).lo y.hi ≡ true
  reach-low = le-lt lt_z Z-order (joined x r).lo x.lo y.hi (joined-low x r) (and_both (lt_z x.lo y.hi) (lt_z y.lo x.hi) o).0

joined-apart : (x z : Span) (r : List Span) → lt_z z.lo z.hi ≡ true → overlaps x z ≡ false → ((y : Span) → y ∈ r → overlaps x y ≡ true → overlaps y z ≡ false) → overlaps (joined x r) z ≡ false
unfolding joined
joined-apart x z [] s o f = o
joined-apart x z (y ∷ r) s o f = go (overlaps x y) refl (joined-apart x z r s o (λ w h. f w (Memᴰ.tail h)))
  where
    go : (t : Bool) → overlaps x y ≡ t → overlaps (joined x r) z ≡ false → overlaps (cond t (hull y (joined x r)) (joined x r)) z ≡ false
    go true e u = hull-apart y (joined x r) z (reach-high x y r e) (reach-low x y r e) s (f y (Memᴰ.head refl) e) u
    go false e u = u

-- ---- where the joined span starts, and where overlaps end
module _ (x : Span) where
  -- once one starts at its hi or above, none overlaps it
  pub past-none : (r : List Span) → ordered r ≡ true → starts_from x.hi r ≡ true → any_of (overlaps x) r ≡ false
  unfolding any_of
  past-none [] o q = refl
  past-none (y ∷ r) o q = rw (below_apart x y (le_out x.hi y.lo q)) (past-none r (ordered-parts y r o).2 (starts-behind x.hi y r o q))

  -- the joined span starts from where both the new one and the row do
  joined-from : (g : ℤ) (r : List Span) → lt_z x.lo g ≡ false → ordered r ≡ true → starts_from g r ≡ true → lt_z (joined x r).lo g ≡ false
  unfolding joined
  joined-from g [] p o q = p
  joined-from g (y ∷ r) p o q = go (overlaps x y) (joined-from g r p (ordered-parts y r o).2 (starts-behind g y r o q))
    where
      go : (b : Bool) → lt_z (joined x r).lo g ≡ false → lt_z (cond b (hull y (joined x r)) (joined x r)).lo g ≡ false
      go true h = of_two (λ k. lt_z k g ≡ false) (lt_z y.lo (joined x r).lo) y.lo (joined x r).lo (le_out g y.lo q) h
      go false h = h

  -- a row that starts from its lo does not lower it
  pub joined-lo : (r : List Span) → ordered r ≡ true → starts_from x.lo r ≡ true → (joined x r).lo ≡ x.lo
  joined-lo r o q = Z-order.tri (joined x r).lo x.lo (joined-from x.lo r (Z-order.irrefl x.lo) o q) (joined-low x r)

-- ---- the spans that the new one does not overlap
module _ (x : Span) where
  unmet-starts : (h : ℤ) (r : List Owned) → ordered (spans_of r) ≡ true → starts_from h (spans_of r) ≡ true → starts_from h (spans_of (unmet x r)) ≡ true
  unfolding unmet
  unmet-starts h [] o s = s
  unmet-starts h (y ∷ r) o s = go (overlaps x y.span) (unmet-starts h r (ordered-parts y.span (spans_of r) o).2 (starts-behind h y.span (spans_of r) o s))
    where
      go : (t : Bool) → starts_from h (spans_of (unmet x r)) ≡ true → starts_from h (spans_of (cond t (unmet x r) (y ∷ unmet x r))) ≡ true
      go true e = e
      go false e = s

  unmet-ordered : (r : List Owned) → ordered (spans_of r) ≡ true → ordered (spans_of (unmet x r)) ≡ true
  unfolding unmet
  unmet-ordered [] o = o
  unmet-ordered (y ∷ r) o = let a = ordered-parts y.span (spans_of r) o in go a.0 (unmet-starts y.span.hi r a.2 a.1) (unmet-ordered r a.2) (overlaps x y.span)
    where
      go : lt_z y.span.lo y.span.hi ≡ true → starts_from y.span.hi (spans_of (unmet x r)) ≡ true → ordered (spans_of (unmet x r)) ≡ true
          → (t : Bool) → ordered (spans_of (cond t (unmet x r) (y ∷ unmet x r))) ≡ true
      go p s u true = u
      go p s u false = ordered-cons y.span (spans_of (unmet x r)) p s u

  unmet-out : (r : List Owned) (z : Owned) → z ∈ unmet x r → (z ∈ r) × (overlaps x z.span ≡ false)
  unfolding unmet
  unmet-out [] z h = absurd (Memᴰ.not-nil h)
  unmet-out (y ∷ r) z h = go (overlaps x y.span) refl h (unmet-out r z)
    where
      go : (t : Bool) → overlaps x y.span ≡ t → z ∈ cond t (unmet x r) (y ∷ unmet x r) → (z ∈ unmet x r → (z ∈ r) × (overlaps x z.span ≡ false))
          → (z ∈ y ∷ r) × (overlaps x z.span ≡ false)
      go true e h f = let i = f h in (Memᴰ.tail i.0, i.1)
      go false e h f = ⊎_elim
          (λ (q : z ≡ y). (Memᴰ.head q, subst (λ (w : Owned). overlaps x w.span ≡ false) (sym q) e))
          (λ u. let i = f u in (Memᴰ.tail i.0, i.1))
          (Memᴰ.cases_cons h)

  unmet-keeps : (r : List Owned) (z : Owned) → z ∈ r → overlaps x z.span ≡ false → z ∈ unmet x r
  unfolding unmet
  unmet-keeps [] z h o = absurd (Memᴰ.not-nil h)
  unmet-keeps (y ∷ r) z h o = go (overlaps x y.span) refl (Memᴰ.cases_cons h) (λ u. unmet-keeps r z u o)
    where
      go : (t : Bool) → overlaps x y.span ≡ t → (z ≡ y) ⊎ (z ∈ r) → (z ∈ r → z ∈ unmet x r) → z ∈ cond t (unmet x r) (y ∷ unmet x r)
      go true e (inl q) f = absurd (clash e (subst (λ (w : Owned). overlaps x w.span ≡ false) q o))
      go true e (inr u) f = f u
      go false e (inl q) f = Memᴰ.head q
      go false e (inr u) f = Memᴰ.tail (f u)

  -- where it overlaps none, nothing is joined and all stay
  pub alone : (r : List Owned) → any_of (overlaps x) (spans_of r) ≡ false → (joined x (spans_of r) ≡ x) × (unmet x r ≡ r)
  unfolding joined unmet any_of
  alone [] o = (refl, refl)
  alone (y ∷ r) o =
      let v = or_off (overlaps x y.span) (any_of (overlaps x) (spans_of r)) o in
      let i = alone r v.1 in
      rw v.0 (i.0, ap (λ l. y ∷ l) i.1)

  unmet-few : (r : List Owned) → length (unmet x r) ≤ length r
  unfolding unmet
  unmet-few [] = omega arith
  unmet-few (y ∷ r) = go (overlaps x y.span) (unmet-few r)
    where
      go : (t : Bool) → length (unmet x r) ≤ length r → length (cond t (unmet x r) (y ∷ unmet x r)) ≤ suc (length r)
      go true h = omega arith
      go false h = omega arith

  unmet-fewer : (r : List Owned) → any_of (overlaps x) (spans_of r) ≡ true → length (unmet x r) < length r
  unfolding unmet any_of
  unmet-fewer [] e = absurd (clash e refl)
  unmet-fewer (y ∷ r) e = go (overlaps x y.span) e (unmet-few r) (unmet-fewer r)
    where
      go : (t : Bool) → (t || any_of (overlaps x) (spans_of r)) ≡ true → length (unmet x r) ≤ length r → (any_of (overlaps x) (spans_of r) ≡ true → length (unmet x r) < length r)
          → length (cond t (unmet x r) (y ∷ unmet x r)) < suc (length r)
      go true e h f = omega arith
      go false e h f = let g = f e in omega arith

-- ---- a span in its place
module _ (h : Owned) where
  -- before the first span that starts above it
  place_here : (y : Owned) (r : List Owned) → lt_z h.span.lo y.span.lo ≡ true → in_place h (y ∷ r) ≡ h ∷ (y ∷ r)
  unfolding in_place
  place_here y r e = ap (λ (t : Bool). elim t as (λ (b : Bool). List Owned) [ true ↦ h ∷ (y ∷ r) | false ↦ y ∷ in_place h r ]) e

  place-next : (y : Owned) (r : List Owned) → lt_z h.span.lo y.span.lo ≡ false → in_place h (y ∷ r) ≡ y ∷ in_place h r
  unfolding in_place
  place-next y r e = ap (λ (t : Bool). elim t as (λ (b : Bool). List Owned) [ true ↦ h ∷ (y ∷ r) | false ↦ y ∷ in_place h r ]) e

  pub place-front : (z : ℤ) (r : List Owned) → lt_z h.span.lo z ≡ true → starts_from z (spans_of r) ≡ true → in_place h r ≡ h ∷ r
  unfolding in_place
  place-front z [] p q = refl
  place-front z (y ∷ r) p q = place_here y r (lt-le lt_z Z-order h.span.lo z y.span.lo p (le_out z y.span.lo q))

  place_in : (r : List Owned) → h ∈ in_place h r
  unfolding in_place
  place_in [] = Memᴰ.head refl
  place_in (y ∷ r) = go (lt_z h.span.lo y.span.lo) (place_in r)
    where
      go : (t : Bool) → h ∈ in_place h r → h ∈ (elim t as (λ (b : Bool). List Owned) [ true ↦ h ∷ (y ∷ r) | false ↦ y ∷ in_place h r ])
      go true e = Memᴰ.head refl
      go false e = Memᴰ.tail e

  place-keeps : (r : List Owned) (z : Owned) → z ∈ r → z ∈ in_place h r
  unfolding in_place
  place-keeps [] z m = absurd (Memᴰ.not-nil m)
  place-keeps (y ∷ r) z m = go (lt_z h.span.lo y.span.lo) (place-keeps r z)
    where
      go : (t : Bool) → (z ∈ r → z ∈ in_place h r) → z ∈ (elim t as (λ (b : Bool). List Owned) [ true ↦ h ∷ (y ∷ r) | false ↦ y ∷ in_place h r ])
      go true f = Memᴰ.tail m
      go false f = ⊎_elim (λ q. Memᴰ.head q) (λ u. Memᴰ.tail (f u)) (Memᴰ.cases_cons m)

  place_out : (r : List Owned) (z : Owned) → z ∈ in_place h r → (z ≡ h) ⊎ (z ∈ r)
  unfolding in_place
  place_out [] z m = inl (Memᴰ.eq_of_singleton m)
  place_out (y ∷ r) z m = go (lt_z h.span.lo y.span.lo) m (place_out r z)
    where
      go : (t : Bool) → z ∈ (elim t as (λ (b : Bool). List Owned) [ true ↦ h ∷ (y ∷ r) | false ↦ y ∷ in_place h r ]) → (z ∈ in_place h r → (z ≡ h) ⊎ (z ∈ r)) → (z ≡ h) ⊎ (z ∈ y ∷ r)
      go true m f = Memᴰ.cases_cons m
      go false m f = ⊎_elim (λ q. inr (Memᴰ.head q)) (λ u. ⊎_elim inl (λ v. inr (Memᴰ.tail v)) (f u)) (Memᴰ.cases_cons m)

  pub place-any : (p : Span → Bool) (r : List Owned) → any_of p (spans_of (in_place h r)) ≡ (p h.span || any_of p (spans_of r))
  unfolding in_place any_of
  place-any p [] = refl
  place-any p (y ∷ r) = go (lt_z h.span.lo y.span.lo) (place-any p r)
    where
      turn : (a b c d : Bool) → d ≡ (a || c) → (b || d) ≡ (a || (b || c))
      turn true true c d e = refl
      turn true false c d e = e
      turn false b c d e = ap (λ k. b || k) e

      go : (t : Bool) → any_of p (spans_of (in_place h r)) ≡ (p h.span || any_of p (spans_of r))
          → any_of p (spans_of (elim t as (λ (b : Bool). List Owned) [ true ↦ h ∷ (y ∷ r) | false ↦ y ∷ in_place h r ])) ≡ (p h.span || (p y.span || any_of p (spans_of r)))
      go true e = refl
      go false e = turn (p h.span) (p y.span) (any_of p (spans_of r)) (any_of p (spans_of (in_place h r))) e

  place-length : (r : List Owned) → length (in_place h r) ≡ suc (length r)
  unfolding in_place
  place-length [] = refl
  place-length (y ∷ r) = go (lt_z h.span.lo y.span.lo) (place-length r)
    where
      go : (t : Bool) → length (in_place h r) ≡ suc (length r) → length {A = Owned} (elim t as (λ (b : Bool). List Owned) [ true ↦ h ∷ (y ∷ r) | false ↦ y ∷ in_place h r ]) ≡ suc (suc (length r))
      go true e = refl
      go false e = ap suc e

  -- the row still starts from g, if h does
  place-starts : (g : ℤ) (r : List Owned) → le_z g h.span.lo ≡ true → starts_from g (spans_of r) ≡ true → starts_from g (spans_of (in_place h r)) ≡ true
  unfolding in_place
  place-starts g [] p q = p
  place-starts g (y ∷ r) p q = go (lt_z h.span.lo y.span.lo)
    where
      go : (t : Bool) → starts_from g (spans_of (elim t as (λ (b : Bool). List Owned) [ true ↦ h ∷ (y ∷ r) | false ↦ y ∷ in_place h r ])) ≡ true
      go true = p
      go false = q

  -- one that starts below another and does not overlap it ends at its start or below; one that does not starts at its end or above
  ends-before : (y : Span) → lt_z h.span.lo y.lo ≡ true → lt_z y.lo y.hi ≡ true → overlaps h.span y ≡ false → le_z h.span.hi y.lo ≡ true
  ends-before y p q o = le_in h.span.hi y.lo (⊎_elim
      (λ e. absurd (clash (Z-order.trans h.span.lo y.lo y.hi p q) e)) (λ e. e) (apart-cases h.span y o))

  starts-after : (y : Span) → lt_z h.span.lo y.lo ≡ false → lt_z h.span.lo h.span.hi ≡ true → overlaps h.span y ≡ false → le_z y.hi h.span.lo ≡ true
  starts-after y p q o = le_in y.hi h.span.lo (⊎_elim
      (λ e. e) (λ e. absurd (clash (le-lt lt_z Z-order y.lo h.span.lo h.span.hi p q) e)) (apart-cases h.span y o))

  place-ordered : (r : List Owned) → lt_z h.span.lo h.span.hi ≡ true → any_of (overlaps h.span) (spans_of r) ≡ false → ordered (spans_of r) ≡ true → ordered (spans_of (in_place h r)) ≡ true
  unfolding in_place any_of
  place-ordered [] p o q = ordered-cons h.span [] p refl q
  place-ordered (y ∷ r) p o q =
      let v = or_off (overlaps h.span y.span) (any_of (overlaps h.span) (spans_of r)) o in
      let t = ordered-parts y.span (spans_of r) q in
      go (lt_z h.span.lo y.span.lo) refl v.0 t.0 t.1 (place-ordered r p v.1 t.2)
    where
      go : (b : Bool) → lt_z h.span.lo y.span.lo ≡ b → overlaps h.span y.span ≡ false → lt_z y.span.lo y.span.hi ≡ true → starts_from y.span.hi (spans_of r) ≡ true
          → ordered (spans_of (in_place h r)) ≡ true → ordered (spans_of (elim b as (λ (z : Bool). List Owned) [ true ↦ h ∷ (y ∷ r) | false ↦ y ∷ in_place h r ])) ≡ true
      go true e a f s k = ordered-cons h.span (spans_of (y ∷ r)) p (ends-before y.span e f a) q
      go false e a f s k = ordered-cons y.span (spans_of (in_place h r)) f (place-starts y.span.hi r (starts-after y.span e p a) s) k

-- ---- the new row
module _ (x : Owned) where
  -- the joined span, of the new one's object
  abbrev pub whole : List Owned → Owned
  whole r = record { span = joined x.span (spans_of r); object = x.object }

  pub with_span-has : (r : List Owned) → whole r ∈ with_span x r
  unfolding with_span
  with_span-has r = place_in (whole r) (unmet x.span r)

  pub with_span-stays : (r : List Owned) (z : Owned) → z ∈ r → overlaps x.span z.span ≡ false → z ∈ with_span x r
  unfolding with_span
  with_span-stays r z m o = place-keeps (whole r) (unmet x.span r) z (unmet-keeps x.span r z m o)

  pub with_span-member : (r : List Owned) (z : Owned) → z ∈ with_span x r → (z ≡ whole r) ⊎ ((z ∈ r) × (overlaps x.span z.span ≡ false))
  unfolding with_span
  with_span-member r z m = ⊎_elim inl (λ u. inr (unmet-out x.span r z u)) (place_out (whole r) (unmet x.span r) z m)

  pub with_span-ordered : (r : List Owned) → lt_z x.span.lo x.span.hi ≡ true → ordered (spans_of r) ≡ true → ordered (spans_of (with_span x r)) ≡ true
  unfolding with_span
  with_span-ordered r p o =
      place-ordered (whole r) (unmet x.span r) (joined-proper x.span (spans_of r) p) (not-true (any_of (overlaps (joined x.span (spans_of r))) (spans_of (unmet x.span r))) none) (unmet-ordered x.span r o)
    where
      -- a span that stays, beside one that is joined
      beside : (z : Span) → z ∈ spans_of r → overlaps x.span z ≡ false → (y : Span) → y ∈ spans_of r → overlaps x.span y ≡ true → overlaps y z ≡ false
      beside z m u y n v = ⊎_elim
          (λ (q : y ≡ z). absurd (clash v (subst (λ (w : Span). overlaps x.span w ≡ false) (sym q) u)))
          (λ q. ⊎_elim (below_apart y z) (above_apart y z) q)
          (apart (spans_of r) y z o n m)

      none : any_of (overlaps (joined x.span (spans_of r))) (spans_of (unmet x.span r)) ≡ true → ⊥
      none e =
          let z = any-of-out (overlaps (joined x.span (spans_of r))) (spans_of (unmet x.span r)) e in
          let w = spans-out (unmet x.span r) z.0 z.1 in
          let u = unmet-out x.span r w.0 w.1 in
          let m : z.0 ∈ spans_of r = subst (λ (s : Span). s ∈ spans_of r) w.2 (spans-in r w.0 u.0) in
          let v : overlaps x.span z.0 ≡ false = subst (λ (s : Span). overlaps x.span s ≡ false) w.2 u.1 in
          clash z.2 (joined-apart x.span z.0 (spans_of r) (ordered-proper (spans_of r) z.0 o m) v (beside z.0 m v))

  pub with_span-length : (r : List Owned) → length (with_span x r) ≡ suc (length (unmet x.span r))
  unfolding with_span
  with_span-length r = place-length (whole r) (unmet x.span r)

  pub with_span-alone : (r : List Owned) → any_of (overlaps x.span) (spans_of r) ≡ false → with_span x r ≡ in_place x r
  unfolding with_span
  with_span-alone r o = let a = alone x.span r o in λ i. in_place (record { span = a.0 i; object = x.object }) (a.1 i)

  pub with_span-grows : (r : List Owned) → length r < length (with_span x r) → any_of (overlaps x.span) (spans_of r) ≡ false
  with_span-grows r g = not-true (any_of (overlaps x.span) (spans_of r)) (λ e. let h = unmet-fewer x.span r e in let l = with_span-length r in omega arith)

  -- a span that ends at the new one's lo or below stays before it
  pub with_span-later : (y : Owned) (r : List Owned) → ordered (spans_of (y ∷ r)) ≡ true → lt_z x.span.lo y.span.hi ≡ false → with_span x (y ∷ r) ≡ y ∷ with_span x r
  unfolding with_span joined unmet
  with_span-later y r o e =
      let t = ordered-parts y.span (spans_of r) o in
      let j = joined x.span (spans_of r) in
      let f = le-le lt_z Z-order y.span.lo y.span.hi j.lo (asym lt_z Z-order y.span.lo y.span.hi t.0) (joined-from x.span y.span.hi (spans_of r) e t.2 t.1) in
      rw (above_apart x.span y.span e) (place-next (whole r) y (unmet x.span r) f)

  -- ---- a span inside one of its object
  module _ (p : lt_z x.span.lo x.span.hi ≡ true) where
    -- y lies about x, as the first span of a row: they make y, and no later span is overlapped
    inside-first : (y : Owned) (r : List Owned) → ordered (spans_of (y ∷ r)) ≡ true → lt_z x.span.lo y.span.lo ≡ false → lt_z y.span.hi x.span.hi ≡ false → x.object ≡ y.object
        → with_span x (y ∷ r) ≡ y ∷ r
    unfolding with_span joined unmet
    inside-first y r o a b e =
        let over = and_intro (lt_z x.span.lo y.span.hi) (lt_z y.span.lo x.span.hi)
        (lt-le lt_z Z-order x.span.lo x.span.hi y.span.hi p b) (le-lt lt_z Z-order y.span.lo x.span.lo x.span.hi a p) in
        let t = ordered-parts y.span (spans_of r) o in
        let left = alone x.span r (past-none x.span (spans_of r) t.2 (starts-less x.span.hi y.span.hi (spans_of r) b t.1)) in
        rw over ((λ i. in_place (record { span = hull y.span (left.0 i); object = x.object }) (left.1 i))
        ∙ (λ i. in_place (record { span = record { lo = low (lt_z y.span.lo x.span.lo) refl i; hi = high i }; object = e i }) r)
        ∙ place-front y y.span.hi r t.0 t.1)
      where
        low : (t : Bool) → lt_z y.span.lo x.span.lo ≡ t → cond t y.span.lo x.span.lo ≡ y.span.lo
        low true q = refl
        low false q = Z-order.tri x.span.lo y.span.lo a q

        high : higher y.span.hi x.span.hi ≡ y.span.hi
        high = rw b refl

    pub with_span-inside : (r : List Owned) (y : Owned) → ordered (spans_of r) ≡ true → y ∈ r → lt_z x.span.lo y.span.lo ≡ false → lt_z y.span.hi x.span.hi ≡ false → x.object ≡ y.object
        → with_span x r ≡ r
    with_span-inside [] y o m a b e = absurd (Memᴰ.not-nil m)
    with_span-inside (z ∷ r) y o m a b e = ⊎_elim
        (λ (q : y ≡ z). inside-first z r o (subst (λ (w : Owned). lt_z x.span.lo w.span.lo ≡ false) q a) (subst (λ (w : Owned). lt_z w.span.hi x.span.hi ≡ false) q b) (e ∙ ap (λ (w : Owned). w.object) q))
        (λ u. with_span-later z r o (le-le lt_z Z-order z.span.hi y.span.lo x.span.lo (ordered-after z.span y.span (spans_of r) o (spans-in r y u)) a)
        ∙ ap (λ l. z ∷ l) (with_span-inside r y (ordered-parts z.span (spans_of r) o).2 u a b e))
        (Memᴰ.cases_cons m)
