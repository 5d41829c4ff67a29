-- The pieces of a span that is cut at heights that rise.
--     Part             a stretch between two of the heights, with none inside it
--     cut_parts, parts_cut    the pieces are the parts
use Rattle.std.proofs.Common.{◌≡◌, Bool, true, false, cond, ◌&&◌, ◌⊎◌, List, [], ◌∷◌, ℤ, sym, refl, subst, inl, inr, ⊎_elim}
use mathlib.Core.List.Memᴰ
use lib.Signed.{lt_z, le_z}
use Rattle.paper.specs.Map.{Span}
use Rattle.theory.specs.Member.{◌∈◌}
use Rattle.theory.specs.Ascending.{Ascends}
use Rattle.theory.proofs.Bool.{clash, and_both}
use Rattle.theory.proofs.Order.{Z-order, above-mem, le_out, asym, lt-le, le-lt, le-le}
use Rattle.theory.proofs.Stretch.{stretch}
use Rattle.number.specs.Beside.{cut_span}

-- the first height is at or below all
rises-least : (t : ℤ) (T : List ℤ) (u : ℤ) → Ascends le_z (t ∷ T) → u ∈ t ∷ T → lt_z u t ≡ false
rises-least t T u w h = ⊎_elim (λ (e : u ≡ t). subst (λ (z : ℤ). lt_z z t ≡ false) (sym e) (Z-order.irrefl t)) (λ k. le_out t u (above-mem le_z t u T w.0 k)) (Memᴰ.cases_cons h)

-- ---- the pieces
-- p is a part of the stretch from a to b: it reaches from one height of T to another, where a and b count too, and none lies inside it
pub record Part (a b : ℤ) (T : List ℤ) (p : Span) : Type 0 where
  pub proper : lt_z p.lo p.hi ≡ true
  pub above : lt_z p.lo a ≡ false
  pub under : lt_z b p.hi ≡ false
  pub foot : (p.lo ≡ a) ⊎ (p.lo ∈ T)
  pub head : (p.hi ≡ b) ⊎ (p.hi ∈ T)
  pub whole : (t : ℤ) → t ∈ T → (lt_z p.lo t ≡ false) ⊎ (lt_z t p.hi ≡ false)

-- a height that is not inside a stretch is not above its foot, or not below its head
and-off : (a b : Bool) → (a && b) ≡ false → (a ≡ false) ⊎ (b ≡ false)
and-off true b e = inr e
and-off false b e = inl refl

pub cut_parts : (a b : ℤ) (T : List ℤ) (p : Span) → Ascends le_z T → lt_z a b ≡ true → p ∈ cut_span a b T → Part a b T p
unfolding cut_span
cut_parts a b [] p w ab h = subst (λ (z : Span). Part a b [] z) (sym (Memᴰ.eq_of_singleton h)) (record {
  proper = ab;
  above = Z-order.irrefl a;
  under = Z-order.irrefl b;
  foot = inl refl;
  head = inl refl;
  whole = λ t k. absurd (Memᴰ.not-nil k);
})
cut_parts a b (t ∷ T) p w ab h = go (lt_z a t && lt_z t b) refl (λ z zb k. cut_parts z b T p w.1 zb k) h
  where
    -- no height is inside the first piece, for all are at t or above
    low : lt_z a t ≡ true → lt_z t b ≡ true → Part a b (t ∷ T) (stretch a t)
    low at tb = record {
      proper = at;
      above = Z-order.irrefl a;
      under = asym lt_z Z-order t b tb;
      foot = inl refl;
      head = inr (Memᴰ.head refl);
      whole = λ u k. inr (rises-least t T u w k);
    }

    -- t is not inside a part that starts at t or above
    high : lt_z a t ≡ true → Part t b T p → Part a b (t ∷ T) p
    high at P = record {
      proper = P.proper;
      above = le-le lt_z Z-order a t p.lo (asym lt_z Z-order a t at) P.above;
      under = P.under;
      foot = inr (⊎_elim (λ e. Memᴰ.head e) (λ k. Memᴰ.tail k) P.foot);
      head = ⊎_elim (λ e. inl e) (λ k. inr (Memᴰ.tail k)) P.head;
      whole = λ u k. ⊎_elim (λ (e : u ≡ t). inl (subst (λ (z : ℤ). lt_z p.lo z ≡ false) (sym e) P.above)) (P.whole u) (Memᴰ.cases_cons k);
    }

    -- nor inside a part of a stretch that it is not inside
    outside : (lt_z a t ≡ false) ⊎ (lt_z t b ≡ false) → Part a b T p → Part a b (t ∷ T) p
    outside o P = record {
      proper = P.proper;
      above = P.above;
      under = P.under;
      foot = ⊎_elim (λ e. inl e) (λ k. inr (Memᴰ.tail k)) P.foot;
      head = ⊎_elim (λ e. inl e) (λ k. inr (Memᴰ.tail k)) P.head;
      whole = λ u k. ⊎_elim
          (λ (e : u ≡ t). subst (λ (z : ℤ). (lt_z p.lo z ≡ false) ⊎ (lt_z z p.hi ≡ false)) (sym e) (⊎_elim
          (λ q. inl (le-le lt_z Z-order t a p.lo q P.above))
          (λ q. inr (le-le lt_z Z-order p.hi b t P.under q))
          o))
          (P.whole u)
          (Memᴰ.cases_cons k);
    }

    go : (c : Bool) → (lt_z a t && lt_z t b) ≡ c → ((z : ℤ) → lt_z z b ≡ true → p ∈ cut_span z b T → Part z b T p)
        → p ∈ cond c (stretch a t ∷ cut_span t b T) (cut_span a b T) → Part a b (t ∷ T) p
    go true e f k =
        let i = and_both (lt_z a t) (lt_z t b) e in
        ⊎_elim
        (λ (q : p ≡ stretch a t). subst (λ (z : Span). Part a b (t ∷ T) z) (sym q) (low i.0 i.1))
        (λ u. high i.0 (f t i.1 u))
        (Memᴰ.cases_cons k)
    go false e f k = outside (and-off (lt_z a t) (lt_z t b) e) (f a ab k)

pub parts_cut : (a b : ℤ) (T : List ℤ) (p : Span) → Ascends le_z T → Part a b T p → p ∈ cut_span a b T
unfolding cut_span
parts_cut a b [] p w P = Memᴰ.head (λ i. stretch (none P.foot i) (none P.head i))
  where
    none : {u v : ℤ} → (u ≡ v) ⊎ (u ∈ []) → u ≡ v
    none o = ⊎_elim (λ e. e) (λ k. absurd (Memᴰ.not-nil k)) o
parts_cut a b (t ∷ T) p w P = go (lt_z a t && lt_z t b) refl (λ z Q. parts_cut z b T p w.1 Q)
  where
    rest : (u : ℤ) → u ∈ T → (lt_z p.lo u ≡ false) ⊎ (lt_z u p.hi ≡ false)
    rest u k = P.whole u (Memᴰ.tail k)

    -- t is inside: a part at t or above is one of the rest
    high : lt_z a t ≡ true → lt_z p.lo t ≡ false → Part t b T p
    high at q = record {
      proper = P.proper;
      above = q;
      under = P.under;
      foot = ⊎_elim (λ (e : p.lo ≡ a). absurd (clash at (subst (λ (z : ℤ). lt_z z t ≡ false) e q))) (λ k. Memᴰ.cases_cons k) P.foot;
      head = ⊎_elim (λ e. inl e)
          (λ k. ⊎_elim (λ (e : p.hi ≡ t). absurd (clash (subst (λ (z : ℤ). lt_z p.lo z ≡ true) e P.proper) q)) (λ v. inr v) (Memᴰ.cases_cons k))
          P.head;
      whole = rest;
    }

    -- and one at t or below is the first
    low : lt_z t b ≡ true → lt_z t p.hi ≡ false → p ≡ stretch a t
    low tb q = λ i. stretch (lo i) (hi i)
      where
        lo : p.lo ≡ a
        lo = ⊎_elim (λ e. e) (λ k. absurd (clash (lt-le lt_z Z-order p.lo p.hi t P.proper q) (rises-least t T p.lo w k))) P.foot

        hi : p.hi ≡ t
        hi = ⊎_elim (λ (e : p.hi ≡ b). absurd (clash tb (subst (λ (z : ℤ). lt_z t z ≡ false) e q)))
            (λ k. Z-order.tri p.hi t (rises-least t T p.hi w k) q) P.head

    -- t is not inside: where it is an end of the part, it is a or b
    outside : (lt_z a t ≡ false) ⊎ (lt_z t b ≡ false) → Part a b T p
    outside o = record {
      proper = P.proper;
      above = P.above;
      under = P.under;
      foot = ⊎_elim (λ e. inl e) (λ k. ⊎_elim (λ e. inl (lo e o)) (λ v. inr v) (Memᴰ.cases_cons k)) P.foot;
      head = ⊎_elim (λ e. inl e) (λ k. ⊎_elim (λ e. inl (hi e o)) (λ v. inr v) (Memᴰ.cases_cons k)) P.head;
      whole = rest;
    }
      where
        lo : p.lo ≡ t → (lt_z a t ≡ false) ⊎ (lt_z t b ≡ false) → p.lo ≡ a
        lo e (inl q) = Z-order.tri p.lo a P.above (subst (λ (z : ℤ). lt_z a z ≡ false) (sym e) q)
        lo e (inr q) = absurd (clash (lt-le lt_z Z-order p.lo p.hi b P.proper P.under) (subst (λ (z : ℤ). lt_z z b ≡ false) (sym e) q))

        hi : p.hi ≡ t → (lt_z a t ≡ false) ⊎ (lt_z t b ≡ false) → p.hi ≡ b
        hi e (inl q) = absurd (clash (le-lt lt_z Z-order a p.lo p.hi P.above P.proper) (subst (λ (z : ℤ). lt_z a z ≡ false) (sym e) q))
        hi e (inr q) = Z-order.tri p.hi b (subst (λ (z : ℤ). lt_z z b ≡ false) (sym e) q) P.under

    go : (c : Bool) → (lt_z a t && lt_z t b) ≡ c → ((z : ℤ) → Part z b T p → p ∈ cut_span z b T) → p ∈ cond c (stretch a t ∷ cut_span t b T) (cut_span a b T)
    go true e f =
        let i = and_both (lt_z a t) (lt_z t b) e in
        ⊎_elim (λ q. Memᴰ.tail (f t (high i.0 q))) (λ q. Memᴰ.head (low i.1 q)) (P.whole t (Memᴰ.head refl))
    go false e f = f a (outside (and-off (lt_z a t) (lt_z t b) e))
