-- SEW keeps a map valid, and links twice as many darts as A has.
--     sewn-local       SEW, where it is not refused
--     mate-pair        the darts of a pair are linked to each other
--     mate-rest        other darts keep their links
--     sewn-value       the darts linked are twice those of A
use Rattle.std.proofs.Common.{◌≡◌, ℕ, ◌+◌, ◌*◌, ◌<◌, ◌≤◌, Bool, true, false, ◌&&◌, ◌||◌, eqb, ltb, leb, sym, refl, ap, ◌∙◌, subst, arith, lt-ltb, eq-eqb, eqb-true, le-leb}
use Rattle.paper.specs.Below.{count_below, first_below}
use Rattle.paper.specs.Map.{Map, count, link, place, owned, eq_place, eq_row}
use Rattle.paper.specs.Orbit.{here, step, marked, size}
use Rattle.paper.specs.Sew.{Far, wing, Sewable, partners, partner, implies, sewable, agreeing, mate}
use Rattle.paper.specs.Edit.{sewn}
use Rattle.paper.proofs.Same.{same_place, same_row}
use Rattle.theory.specs.Local.{Local}
use Rattle.theory.proofs.Bool.{and_both, and_intro, imp_use, not-true, clash, eq-T}
use Rattle.theory.proofs.Below.{all-out, count-into, count-or, first_passes, first_found}
use Rattle.theory.proofs.Valid.{reach-within, in-wing, of-wing}
use Rattle.theory.proofs.Edit.{Apart, far-in, far-out, swap, wing-closed, relinked-local}
use Rattle.theory.proofs.Pairing.{sewable-sound, pairing-found}

module _ (M : Map) (L : Local M) (i a b : ℕ) (il : i ≤ M.dim) (an : a < count M) (bn : b < count M) (ok : sewable M i a b ≡ true) where
  abbrev N : ℕ
  N = count M

  abbrev m : ℕ
  m = M.dim

  abbrev α : ℕ → ℕ → ℕ
  α = link M

  -- d is reached from c by links of J
  abbrev side : ℕ → ℕ → Bool
  side c d = marked (wing M i c) d

  abbrev f : ℕ → ℕ
  f = partner (partners M i a b)

  -- the dart that is paired with d of B
  abbrev g : ℕ → ℕ
  g d = first_below N (λ x. side a x && eqb (f x) d)

  X : Sewable M i a b
  X = sewable-sound M L i a b an bn ok

  same : (d : ℕ) → Far M i a d → X.f d ≡ f d
  same = pairing-found M L i a b an X

  apart : (d : ℕ) → d < N → side a d ≡ true → side b d ≡ false
  apart d h t = not-true (side b d) (λ u. X.apart d (of-wing M L i a d an h t) (of-wing M L i b d bn h u))

  not-A : (d : ℕ) → d < N → side b d ≡ true → side a d ≡ false
  not-A d h u = not-true (side a d) (λ v. clash u (apart d h v))

  one : (d e : ℕ) → d < N → e < N → side a d ≡ true → side a e ≡ true → f d ≡ f e → d ≡ e
  one d e h l t u q =
      let r = of-wing M L i a d an h t in
      let s = of-wing M L i a e an l u in
      X.pairing.one d e r s (same d r ∙ q ∙ sym (same e s))

  back : (d : ℕ) → d < N → side b d ≡ true → (g d < N) × (side a (g d) ≡ true) × (f (g d) ≡ d)
  back d h u =
      let k = X.pairing.onto d (of-wing M L i b d bn h u) in
      let kn = reach-within M L an k.1 in
      let t = and_intro (side a k.0) (eqb (f k.0) d) (in-wing M L i a k.0 an k.1) (eq-eqb (f k.0) d (sym (same k.0 k.1) ∙ k.2)) in
      let q = first_found N (λ x. side a x && eqb (f x) d) k.0 kn t in
      let gn : g d < N = omega arith in
      let v = and_both (side a (g d)) (eqb (f (g d)) d) (first_passes N (λ x. side a x && eqb (f x) d) gn) in
      (gn, v.0, eqb-true (f (g d)) d v.1)

  there : (d : ℕ) → d < N → side a d ≡ true → (f d < N) × (side b (f d) ≡ true) × (g (f d) ≡ d)
  there d h t =
      let r = of-wing M L i a d an h t in
      let s : Far M i b (f d) = subst (λ z. Far M i b z) (same d r) (X.pairing.into d r) in
      let fn = reach-within M L bn s in
      let k = back (f d) fn (in-wing M L i b (f d) bn s) in
      (fn, in-wing M L i b (f d) bn s, one (g (f d)) d k.0 h k.1 t k.2)

  along : (j d : ℕ) → d < N → side a d ≡ true → j ≤ m → Apart i j → f (α j d) ≡ α j (f d)
  along j d h t l x =
      let r = of-wing M L i a d an h t in
      let y = far-in i j x in
      sym (same (α j d) (step r j l y refl)) ∙ X.pairing.along j d l y r ∙ ap (α j) (same d r)

  -- ---- whom SEW links d to
  abbrev φ : ℕ → ℕ
  φ = mate M i a b

  on-A : (d : ℕ) → side a d ≡ true → φ d ≡ f d
  unfolding mate
  on-A d e = simp e

  on-B : (d : ℕ) → side a d ≡ false → side b d ≡ true → φ d ≡ g d
  unfolding mate
  on-B d e h = simp (e, h)

  on-C : (d : ℕ) → side a d ≡ false → side b d ≡ false → φ d ≡ α i d
  unfolding mate
  on-C d e h = simp (e, h)

  pub mate-pair : (d : ℕ) → d < N → side a d ≡ true → (φ d ≡ f d) × (φ (f d) ≡ d)
  mate-pair d h t = let k = there d h t in (on-A d t, on-B (f d) (not-A (f d) k.0 k.1) k.1 ∙ k.2)

  pub mate-rest : (d : ℕ) → side a d ≡ false → side b d ≡ false → φ d ≡ α i d
  mate-rest = on-C

  -- ---- the value
  pub sewn-value : count_below N (λ d. side a d || side b d) ≡ 2 * size N (wing M i a)
  unfolding size
  sewn-value =
      let p = count-into N N (side a) (side b) f (λ d h t. let k = there d h t in (k.0, k.1)) one in
      let q =
      count-into N N (side b) (side a) g (λ d h t. let k = back d h t in (k.0, k.1))
      (λ d e h l t u e₀. sym (back d h t).2 ∙ ap f e₀ ∙ (back e l u).2) in
      let e = count-or N (side a) (side b) apart in
      e ∙ twice (count_below N (side a)) (count_below N (side b)) p q
    where
      twice : (x y : ℕ) → x ≤ y → y ≤ x → x + y ≡ 2 * x
      twice x y p q = omega arith

  -- ---- SEW
  module _ (af : α i a ≡ a) (bf : α i b ≡ b) (agree : agreeing M i a b ≡ true) where
    -- the part of the darts that d belongs to: A, B or the rest
    data Part (d : ℕ) : Type 0 where
      is-A : side a d ≡ true → Part d
      is-B : side a d ≡ false → side b d ≡ true → Part d
      is-C : side a d ≡ false → side b d ≡ false → Part d

    part : (d : ℕ) → Part d
    part d = go (side a d) (side b d) refl refl
      where
        go : (x y : Bool) → side a d ≡ x → side b d ≡ y → Part d
        go true y e h = is-A e
        go false true e h = is-B e h
        go false false e h = is-C e h

    -- every dart of A and of B is free along i, because a and b are
    all-free : (c d : ℕ) → c < N → α i c ≡ c → Far M i c d → α i d ≡ d
    all-free c d h e here = e
    all-free c d h e (step {e = y} r j jl x p) =
        ap (α i) (sym p) ∙ swap M L i j y (reach-within M L h r) il jl (far-out i j x) ∙ ap (α j) (all-free c y h e r) ∙ p

    -- so a dart outside has its partner outside
    out_of : (c d : ℕ) → c < N → α i c ≡ c → d < N → side c d ≡ false → side c (α i d) ≡ false
    out_of c d h e l t =
        not-true (side c (α i d))
        (λ u. let w = L.within i d l il in
        clash (subst (λ z. side c z ≡ true) (sym (all-free c (α i d) h e (of-wing M L i c (α i d) h w u)) ∙ L.undo i d l il) u) t)

    mate-within : (d : ℕ) → d < N → Part d → φ d < N
    mate-within d h (is-A e) = subst (λ z. z < N) (sym (on-A d e)) (there d h e).0
    mate-within d h (is-B e u) = subst (λ z. z < N) (sym (on-B d e u)) (back d h u).0
    mate-within d h (is-C e u) = subst (λ z. z < N) (sym (on-C d e u)) (L.within i d h il)

    mate-undo : (d : ℕ) → d < N → Part d → φ (φ d) ≡ d
    mate-undo d h (is-A e) = let t = there d h e in ap φ (on-A d e) ∙ on-B (f d) (not-A (f d) t.0 t.1) t.1 ∙ t.2
    mate-undo d h (is-B e u) = let t = back d h u in ap φ (on-B d e u) ∙ on-A (g d) t.1 ∙ t.2
    mate-undo d h (is-C e u) = ap φ (on-C d e u) ∙ on-C (α i d) (out_of a d an af h e) (out_of b d bn bf h u) ∙ L.undo i d h il

    mate-far : (j d : ℕ) → d < N → j ≤ m → Apart i j → Part d → φ (α j d) ≡ α j (φ d)
    mate-far j d h l x (is-A e) = on-A (α j d) (wing-closed M L i a j d an h l x ∙ e) ∙ along j d h e l x ∙ ap (α j) (sym (on-A d e))
    mate-far j d h l x (is-B e u) =
        let t = back d h u in
        let w : α j d ≡ f (α j (g d)) = ap (α j) (sym t.2) ∙ sym (along j (g d) t.0 t.1 l x) in
        let v = there (α j (g d)) (L.within j (g d) t.0 l) (wing-closed M L i a j (g d) an t.0 l x ∙ t.1) in
        on-B (α j d) (wing-closed M L i a j d an h l x ∙ e) (wing-closed M L i b j d bn h l x ∙ u) ∙ ap g w ∙ v.2 ∙ ap (α j) (sym (on-B d e u))
    mate-far j d h l x (is-C e u) =
        on-C (α j d) (wing-closed M L i a j d an h l x ∙ e) (wing-closed M L i b j d bn h l x ∙ u) ∙ swap M L i j d h il l x ∙ ap (α j) (sym (on-C d e u))

    -- the pairs agree (refusal 16)
    agrees : (d : ℕ) → d < N → side a d ≡ true → (1 ≤ i → place M (f d) ≡ place M d) × (i < m → owned M (f d) ≡ owned M d)
    unfolding agreeing
    agrees d h t =
        let P = eq_place (place M d) (place M (f d)) in
        let R = eq_row (owned M d) (owned M (f d)) in
        let q =
        imp_use (side a d) (implies (leb 1 i) P && implies (ltb i m) R)
        (all-out N (λ d. implies (side a d) (implies (leb 1 i) (eq_place (place M d) (place M (f d))) && implies (ltb i m) (eq_row (owned M d) (owned M (f d)))))
        agree d h) t in
        let v = and_both (implies (leb 1 i) P) (implies (ltb i m) R) q in (
          (λ o. sym (same_place (place M d) (place M (f d)) (eq-T (imp_use (leb 1 i) P v.0 (le-leb 1 i o))))),
          (λ o. sym (same_row (owned M d) (owned M (f d)) (eq-T (imp_use (ltb i m) R v.1 (lt-ltb i m o))))),
        )

    mate-place : (d : ℕ) → d < N → 1 ≤ i → Part d → place M (φ d) ≡ place M d
    mate-place d h k (is-A e) = ap (place M) (on-A d e) ∙ (agrees d h e).0 k
    mate-place d h k (is-B e u) = let t = back d h u in ap (place M) (on-B d e u) ∙ sym ((agrees (g d) t.0 t.1).0 k) ∙ ap (place M) t.2
    mate-place d h k (is-C e u) = ap (place M) (on-C d e u) ∙ L.places i d h k il

    mate-row : (d : ℕ) → d < N → i < m → Part d → owned M (φ d) ≡ owned M d
    mate-row d h k (is-A e) = ap (owned M) (on-A d e) ∙ (agrees d h e).1 k
    mate-row d h k (is-B e u) = let t = back d h u in ap (owned M) (on-B d e u) ∙ sym ((agrees (g d) t.0 t.1).1 k) ∙ ap (owned M) t.2
    mate-row d h k (is-C e u) = ap (owned M) (on-C d e u) ∙ L.rows i d h k

    pub sewn-local : Local (sewn M i a b)
    unfolding sewn
    sewn-local =
        relinked-local M L i φ il (λ d h. mate-within d h (part d)) (λ d h. mate-undo d h (part d)) (λ j d h l x. mate-far j d h l x (part d))
        (λ k d h. mate-place d h k (part d)) (λ k d h. mate-row d h k (part d))
