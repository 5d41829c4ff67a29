-- What a row with a new span in it covers, and whose it is.
--     with_span-covered     at each height and side the new row covers what the row or the new span covers, and nothing else: of every row, in whatever order
--     with_span-keeps       where the new span overlaps none of another object, a side that the row covers belongs to the same object as before
--     with_span-brings      every side that the new span covers belongs to its object
-- An object is told as `object_at` tells it, as a number from 0 on.
use Rattle.std.proofs.Common.{◌≡◌, ℕ, suc, Bool, true, false, cond, not, ◌&&◌, ◌||◌, ◌⊎◌, List, [], ◌∷◌, ℤ, nat_abs, sym, refl, ap, ◌∙◌, subst, inl, inr, ⊎_elim, Some}
use mathlib.Core.List.Memᴰ
use lib.Signed.{lt_z}
use Rattle.paper.specs.Below.{any_of}
use Rattle.paper.specs.Map.{Span, Owned, spans_of, eq_z}
use Rattle.paper.specs.Span.{ordered, covers, covering, covering_from, covered, overlaps}
use Rattle.paper.specs.Lift.{object_at}
use Rattle.paper.specs.Join.{clashes, lower, higher, hull, joined, unmet, with_span}
use Rattle.paper.proofs.Same.{same-ℤ}
use Rattle.theory.specs.Member.{◌∈◌}
use Rattle.theory.proofs.Bool.{or_left, or_right, and_intro, not-true, clash, decided, on, eq-T}
use Rattle.theory.proofs.Member.{any-of-in}
use Rattle.theory.proofs.Order.{Z-order, asym}
use Rattle.theory.proofs.Row.{ordered-parts, ordered-after, spans-in, spans-out}
use Rattle.theory.proofs.Height.{covered-any, covered_out, passed, passed-less, covers-passed, covers-once}
use Rattle.theory.proofs.Join.{reach-high, reach-low, place-any, whole, with_span-ordered, with_span-has, with_span-stays}

-- ---- two spans as one
module _ (t : ℤ) (s : Bool) where
  -- above the lower of two heights is above one of them, above the higher above both
  passed-lower : (a b : ℤ) → passed (lower a b) t s ≡ (passed a t s || passed b t s)
  passed-lower a b = go (lt_z a b) refl
    where
      first : (p q : Bool) → (q ≡ true → p ≡ true) → p ≡ (p || q)
      first true q f = refl
      first false true f = f refl
      first false false f = refl

      second : (p q : Bool) → (p ≡ true → q ≡ true) → q ≡ (p || q)
      second true q f = f refl
      second false q f = refl

      go : (c : Bool) → lt_z a b ≡ c → passed (cond c a b) t s ≡ (passed a t s || passed b t s)
      go true e = first (passed a t s) (passed b t s) (passed-less a b t s (asym lt_z Z-order a b e))
      go false e = second (passed a t s) (passed b t s) (passed-less b a t s e)

  passed-higher : (a b : ℤ) → passed (higher a b) t s ≡ (passed a t s && passed b t s)
  passed-higher a b = go (lt_z a b) refl
    where
      first : (p q : Bool) → (p ≡ true → q ≡ true) → p ≡ (p && q)
      first true q f = sym (f refl)
      first false q f = refl

      second : (p q : Bool) → (q ≡ true → p ≡ true) → q ≡ (p && q)
      second true q f = refl
      second false true f = sym (f refl)
      second false false f = refl

      go : (c : Bool) → lt_z a b ≡ c → passed (cond c b a) t s ≡ (passed a t s && passed b t s)
      go true e = second (passed a t s) (passed b t s) (passed-less a b t s (asym lt_z Z-order a b e))
      go false e = first (passed a t s) (passed b t s) (passed-less b a t s e)

  -- two spans that reach each other have no gap between them
  hull-covers : (y h : Span) → lt_z y.lo h.hi ≡ true → lt_z h.lo y.hi ≡ true → covers (hull y h) t s ≡ (covers y t s || covers h t s)
  hull-covers y h p q =
      covers-passed (hull y h) t s
      ∙ (λ i. passed-lower y.lo h.lo i && not (passed-higher y.hi h.hi i))
      ∙ no_gap (passed y.lo t s) (passed y.hi t s) (passed h.lo t s) (passed h.hi t s)
      (passed-less h.lo y.hi t s (asym lt_z Z-order h.lo y.hi q)) (passed-less y.lo h.hi t s (asym lt_z Z-order y.lo h.hi p))
      ∙ (λ i. sym (covers-passed y t s) i || sym (covers-passed h t s) i)
    where
      no_gap : (a b c d : Bool) → (b ≡ true → c ≡ true) → (d ≡ true → a ≡ true) → ((a || c) && not (b && d)) ≡ ((a && not b) || (c && not d))
      no_gap a true c true f g = rw (f refl, g refl) refl
      no_gap true true c false f g = rw (f refl) refl
      no_gap false true c false f g = rw (f refl) refl
      no_gap a false c true f g = rw (g refl) refl
      no_gap true false true false f g = refl
      no_gap true false false false f g = refl
      no_gap false false true false f g = refl
      no_gap false false false false f g = refl

  module _ (x : Span) where
    -- the joined span covers what the new one covers, and what each span covers that is joined to it
    joined-new : (r : List Span) → covers x t s ≡ true → covers (joined x r) t s ≡ true
    unfolding joined
    joined-new [] c = c
    joined-new (y ∷ r) c = go (overlaps x y) refl (joined-new r c)
      where
        go : (b : Bool) → overlaps x y ≡ b → covers (joined x r) t s ≡ true → covers (cond b (hull y (joined x r)) (joined x r)) t s ≡ true
        go true e h = hull-covers y (joined x r) (reach-high x y r e) (reach-low x y r e) ∙ or_right (covers y t s) (covers (joined x r) t s) h
        go false e h = h

    joined-old : (r : List Span) (z : Span) → z ∈ r → overlaps x z ≡ true → covers z t s ≡ true → covers (joined x r) t s ≡ true
    unfolding joined
    joined-old [] z m o c = absurd (Memᴰ.not-nil m)
    joined-old (y ∷ r) z m o c = go (overlaps x y) refl (Memᴰ.cases_cons m) (λ u. joined-old r z u o c)
      where
        go : (b : Bool) → overlaps x y ≡ b → (z ≡ y) ⊎ (z ∈ r) → (z ∈ r → covers (joined x r) t s ≡ true) → covers (cond b (hull y (joined x r)) (joined x r)) t s ≡ true
        go true e (inl q) f =
            hull-covers y (joined x r) (reach-high x y r e) (reach-low x y r e)
            ∙ or_left (covers y t s) (covers (joined x r) t s) (subst (λ (w : Span). covers w t s ≡ true) q c)
        go true e (inr u) f = hull-covers y (joined x r) (reach-high x y r e) (reach-low x y r e) ∙ or_right (covers y t s) (covers (joined x r) t s) (f u)
        go false e (inl q) f = absurd (clash o (subst (λ (w : Span). overlaps x w ≡ false) (sym q) e))
        go false e (inr u) f = f u

    -- and with those that stay all that the row or the new one covers
    joined-all : (r : List Owned) → (covers (joined x (spans_of r)) t s || any_of (λ y. covers y t s) (spans_of (unmet x r))) ≡ (covers x t s || any_of (λ y. covers y t s) (spans_of r))
    unfolding joined unmet any_of
    joined-all [] = refl
    joined-all (y ∷ r) = go (overlaps x y.span) refl (joined-all r)
      where
        any-true : (a : Bool) → (a || true) ≡ true
        any-true true = refl
        any-true false = refl

        taken : (a b c d e : Bool) → (b || c) ≡ (d || e) → ((a || b) || c) ≡ (d || (a || e))
        taken true b c d e q = sym (any-true d)
        taken false b c d e q = q

        stays : (a b c d e : Bool) → (b || c) ≡ (d || e) → (b || (a || c)) ≡ (d || (a || e))
        stays true b c d e q = any-true b ∙ sym (any-true d)
        stays false b c d e q = q

        go : (b : Bool) → overlaps x y.span ≡ b → (covers (joined x (spans_of r)) t s || any_of (λ z. covers z t s) (spans_of (unmet x r))) ≡ (covers x t s || any_of (λ z. covers z t s) (spans_of r))
            → (covers (cond b (hull y.span (joined x (spans_of r))) (joined x (spans_of r))) t s || any_of (λ z. covers z t s) (spans_of (cond b (unmet x r) (y ∷ unmet x r))))
            ≡ (covers x t s || (covers y.span t s || any_of (λ z. covers z t s) (spans_of r)))
        go true e q =
            ap (λ b. b || any_of (λ z. covers z t s) (spans_of (unmet x r))) (hull-covers y.span (joined x (spans_of r)) (reach-high x y.span (spans_of r) e) (reach-low x y.span (spans_of r) e))
            ∙ taken (covers y.span t s) (covers (joined x (spans_of r)) t s) (any_of (λ z. covers z t s) (spans_of (unmet x r))) (covers x t s) (any_of (λ z. covers z t s) (spans_of r)) q
        go false e q =
            stays (covers y.span t s) (covers (joined x (spans_of r)) t s) (any_of (λ z. covers z t s) (spans_of (unmet x r))) (covers x t s) (any_of (λ z. covers z t s) (spans_of r)) q

pub with_span-covered : (x : Owned) (r : List Owned) (t : ℤ) (s : Bool) → covered (spans_of (with_span x r)) t s ≡ (covers x.span t s || covered (spans_of r) t s)
unfolding with_span
with_span-covered x r t s =
    covered-any (spans_of (with_span x r)) t s
    ∙ place-any (whole x r) (λ y. covers y t s) (unmet x.span r)
    ∙ joined-all t s x.span r
    ∙ ap (λ b. covers x.span t s || b) (sym (covered-any (spans_of r) t s))

-- ---- whose a side is
module _ (t : ℤ) (s : Bool) where
  -- the object at a side of a row
  abbrev object_of : List Owned → ℕ
  object_of r = object_at r (covering (spans_of r) t s)

  -- a first span more moves what is found by one
  object-next : (i : ℕ) (z : Owned) (r : List Owned) (l : List Span) → object_at (z ∷ r) (covering_from (suc i) l t s) ≡ object_at r (covering_from i l t s)
  unfolding covering_from
  object-next i z r [] = refl
  object-next i z r (y ∷ l) = go (covers y t s) (object-next (suc i) z r l)
    where
      go : (b : Bool) → object_at (z ∷ r) (covering_from (suc (suc i)) l t s) ≡ object_at r (covering_from (suc i) l t s)
          → object_at (z ∷ r) (cond b (Some (suc i)) (covering_from (suc (suc i)) l t s)) ≡ object_at r (cond b (Some i) (covering_from (suc i) l t s))
      go true e = refl
      go false e = e

  object-of : (r : List Owned) (y : Owned) → ordered (spans_of r) ≡ true → y ∈ r → covers y.span t s ≡ true → object_at r (covering (spans_of r) t s) ≡ nat_abs y.object
  unfolding covering_from
  object-of [] y o m c = absurd (Memᴰ.not-nil m)
  object-of (z ∷ r) y o m c = ⊎_elim
      (λ (q : y ≡ z). rw (subst (λ (w : Owned). covers w.span t s ≡ true) q c) (ap (λ (w : Owned). nat_abs w.object) (sym q)))
      (λ u. rw (covers-once z.span y.span t s (ordered-after z.span y.span (spans_of r) o (spans-in r y u)) c)
      (object-next 0 z r (spans_of r) ∙ object-of r y (ordered-parts z.span (spans_of r) o).2 u c))
      (Memᴰ.cases_cons m)

  module _ (x : Owned) (r : List Owned) (p : lt_z x.span.lo x.span.hi ≡ true) (o : ordered (spans_of r) ≡ true) where
    -- where the joined span covers a side, it is the new one's
    joined-object : covers (joined x.span (spans_of r)) t s ≡ true → object_of (with_span x r) ≡ nat_abs x.object
    joined-object c = object-of (with_span x r) (whole x r) (with_span-ordered x r p o) (with_span-has x r) c

    pub with_span-brings : covers x.span t s ≡ true → object_at (with_span x r) (covering (spans_of (with_span x r)) t s) ≡ nat_abs x.object
    with_span-brings c = joined-object (joined-new t s x.span (spans_of r) c)

    pub with_span-keeps : any_of (clashes x) r ≡ false → covered (spans_of r) t s ≡ true → object_at (with_span x r) (covering (spans_of (with_span x r)) t s) ≡ object_at r (covering (spans_of r) t s)
    with_span-keeps n c =
        let w = covered_out (spans_of r) t s c in
        let y = spans-out r w.0 w.1 in
        let d : covers y.0.span t s ≡ true = subst (λ (k : Span). covers k t s ≡ true) (sym y.2) w.2 in
        go y.0 y.1 d (decided (overlaps x.span y.0.span)) ∙ sym (object-of r y.0 o y.1 d)
      where
        -- a span of the row that covers the side: joined, and of the same object; or it stays
        go : (y : Owned) → y ∈ r → covers y.span t s ≡ true → (overlaps x.span y.span ≡ true) ⊎ (overlaps x.span y.span ≡ false)
            → object_at (with_span x r) (covering (spans_of (with_span x r)) t s) ≡ nat_abs y.object
        go y m d (inl e) =
            let own = on (eq_z x.object y.object) (not-true (not (eq_z x.object y.object))
            (λ f. clash (any-of-in (clashes x) r y m (and_intro (overlaps x.span y.span) (not (eq_z x.object y.object)) e f)) n)) in
            joined-object (joined-old t s x.span (spans_of r) y.span (spans-in r y m) e d) ∙ ap nat_abs (same-ℤ x.object y.object (eq-T own))
        go y m d (inr e) = object-of (with_span x r) y (with_span-ordered x r p o) (with_span-stays x r y m e) d
