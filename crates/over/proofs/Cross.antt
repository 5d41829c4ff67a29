-- The walk over two stretches, a step at a time: what is done, and the walk over what is left, is the whole.
--     eq_self, eq-above     tests of the walk
--     cmp-less, cmp-greater     by what `cmp` answers one number is below the other
--     Crossing         how far the walk is in both stretches, and what it has left to do
--     start            it begins with all to do
--     past_own, past_other, past_both     a step: in the one stretch, in the other, in both
--     ended, spent     one of the stretches is at its end
use Rattle.std.proofs.Common.{◌≡◌, ℕ, suc, ◌+◌, ◌-◌, ◌*◌, ◌<◌, ◌≤◌, Bool, true, false, cond, Less, Equal, Greater, ◌≢◌, List, [], ◌∷◌, length, ℤ, sym, refl, ap, ◌∙◌, subst, arith}
use lib.Signed.{lt_z}
use Rattle.paper.specs.Map.{eq_z}
use Rattle.paper.proofs.Same.{same-ℤ, same-ℤ-refl}
use Rattle.theory.specs.Ascending.{Above, Ascends}
use Rattle.theory.proofs.Bool.{clash, not-true, T-eq, eq-T}
use Rattle.theory.proofs.Order.{Z-order, above-trans}
use Rattle.over.specs.Over.{height_at, feet_from, Put, walk_one, walk_all}

-- ---- one height
pub eq_self : (p : ℤ) → eq_z p p ≡ true
eq_self p = T-eq (eq_z p p) (same-ℤ-refl p)

-- a height and one above it differ
pub eq-above : (p q : ℤ) → lt_z q p ≡ true → eq_z p q ≡ false
eq-above p q h = not-true (eq_z p q) (λ e. clash (subst (λ (z : ℤ). lt_z q z ≡ true) (same-ℤ p q (eq-T e)) h) (Z-order.irrefl q))

eq-below : (p q : ℤ) → lt_z p q ≡ true → eq_z p q ≡ false
eq-below p q h = not-true (eq_z p q) (λ e. clash (subst (λ (z : ℤ). lt_z z q ≡ true) (same-ℤ p q (eq-T e)) h) (Z-order.irrefl q))

one-low : (f : Put) (x : ℕ) (p q : ℤ) (Q : List ℤ) (y : ℕ) (ol : List ℕ) → lt_z q p ≡ true → walk_one f x p (q ∷ Q) y ol ≡ walk_one f x p Q (y + 2) ol
unfolding walk_one
one-low f x p q Q y ol h = rw (eq-above p q h, walk_one)

one_same : (f : Put) (x : ℕ) (p : ℤ) (Q : List ℤ) (y : ℕ) (ol : List ℕ) → walk_one f x p (p ∷ Q) y ol ≡ f x y ol
unfolding walk_one
one_same f x p Q y ol = rw (eq_self p, walk_one)

one_none : (f : Put) (x : ℕ) (p : ℤ) (Q : List ℤ) (y : ℕ) (ol : List ℕ) → Above lt_z p Q → walk_one f x p Q y ol ≡ ol
unfolding walk_one
one_none f x p [] y ol h = refl
one_none f x p (q ∷ Q) y ol h = rw (eq-below p q h.0, walk_one) (one_none f x p Q (y + 2) ol h.1)

-- ---- the three kinds of step on lists
walk-drop : (f : Put) (q : ℤ) (P Q : List ℤ) (x y : ℕ) (ol : List ℕ) → Above lt_z q P → walk_all f P (q ∷ Q) x y ol ≡ walk_all f P Q x (y + 2) ol
unfolding walk_all
walk-drop f q [] Q x y ol h = refl
walk-drop f q (p ∷ P) Q x y ol h = rw (one-low f x p q Q y ol h.0) (walk-drop f q P Q (x + 2) y _ h.1)

walk-miss : (f : Put) (p : ℤ) (P Q : List ℤ) (x y : ℕ) (ol : List ℕ) → Above lt_z p Q → walk_all f (p ∷ P) Q x y ol ≡ walk_all f P Q (x + 2) y ol
unfolding walk_all
walk-miss f p P Q x y ol h = rw (one_none f x p Q y ol h)

walk-both : (f : Put) (p : ℤ) (P Q : List ℤ) (x y : ℕ) (ol : List ℕ) → Above lt_z p P
    → walk_all f (p ∷ P) (p ∷ Q) x y ol ≡ walk_all f P Q (x + 2) (y + 2) (f x y ol)
unfolding walk_all
walk-both f p P Q x y ol h = rw (one_same f x p Q y ol) (walk-drop f p P Q (x + 2) y _ h)

walk_none : (f : Put) (P : List ℤ) (x y : ℕ) (ol : List ℕ) → walk_all f P [] x y ol ≡ ol
unfolding walk_all walk_one
walk_none f [] x y ol = refl
walk_none f (p ∷ P) x y ol = walk_none f P (x + 2) y ol

walk_end : (f : Put) (Q : List ℤ) (x y : ℕ) (ol : List ℕ) → walk_all f [] Q x y ol ≡ ol
unfolding walk_all
walk_end f Q x y ol = refl

-- ---- what `cmp` tells
pub cmp-less : (a b : Bool) → Less ≡ cond a Less (cond b Greater Equal) → a ≡ true
cmp-less true b e = refl
cmp-less false true e = cc
cmp-less false false e = cc

pub cmp-greater : (a b : Bool) → Greater ≡ cond a Less (cond b Greater Equal) → b ≡ true
cmp-greater true b e = cc
cmp-greater false true e = refl
cmp-greater false false e = cc

-- ---- stretches
feet-next : (op : List ℤ) (m x i c : ℕ) → i < c → feet_from op m (x + i * 2) (c - i) ≡ height_at op m (x + i * 2) ∷ feet_from op m (x + (i + 1) * 2) (c - (i + 1))
unfolding feet_from
feet-next op m x i c h =
    let e : c - i ≡ suc (c - (i + 1)) = omega arith in
    let f : x + (i + 1) * 2 ≡ x + i * 2 + 2 = omega arith in
    rw (e, f)

above-cons : (p q : ℤ) (Q : List ℤ) → lt_z p q ≡ true → Ascends lt_z (q ∷ Q) → Above lt_z p (q ∷ Q)
above-cons p q Q h s = (h, above-trans lt_z Z-order p q Q h s.0)

pub record Crossing (f : Put) (op : List ℤ) (m x c y e : ℕ) (ol₀ ol : List ℕ) (i j : ℕ) : Type 0 where
  pub il : i ≤ c
  pub jl : j ≤ e
  pub same : length ol ≡ length ol₀
  pub up : Ascends lt_z (feet_from op m (x + i * 2) (c - i))
  pub other_up : Ascends lt_z (feet_from op m (y + j * 2) (e - j))
  pub whole : walk_all f (feet_from op m (x + i * 2) (c - i)) (feet_from op m (y + j * 2) (e - j)) (x + i * 2) (y + j * 2) ol
      ≡ walk_all f (feet_from op m x c) (feet_from op m y e) x y ol₀

pub start : (f : Put) (op : List ℤ) (m x c y e : ℕ) (ol : List ℕ) → Ascends lt_z (feet_from op m x c) → Ascends lt_z (feet_from op m y e) → Crossing f op m x c y e ol ol 0 0
start f op m x c y e ol s t =
    let k : c - 0 ≡ c = omega arith in
    let l : e - 0 ≡ e = omega arith in
    let g : x + 0 * 2 ≡ x = omega arith in
    let h : y + 0 * 2 ≡ y = omega arith in
    record { il = omega arith; jl = omega arith; same = refl; up = rw (k, g) s; other_up = rw (l, h) t; whole = rw (k, l, g, h) }

module _ {f : Put} {op : List ℤ} {m x c y e : ℕ} {ol₀ ol : List ℕ} {i j : ℕ} (C : Crossing f op m x c y e ol₀ ol i j) (li : i < c) (nj : j ≢ e) (t u : ℤ)
    (et : t ≡ height_at op m (x + i * 2)) (eu : u ≡ height_at op m (y + j * 2)) where
  lj : j < e
  lj = let k = C.jl in omega arith

  abbrev P : List ℤ
  P = feet_from op m (x + i * 2) (c - i)

  abbrev P' : List ℤ
  P' = feet_from op m (x + (i + 1) * 2) (c - (i + 1))

  abbrev Q : List ℤ
  Q = feet_from op m (y + j * 2) (e - j)

  abbrev Q' : List ℤ
  Q' = feet_from op m (y + (j + 1) * 2) (e - (j + 1))

  eP : P ≡ t ∷ P'
  eP = feet-next op m x i c li ∙ ap (λ z. z ∷ P') (sym et)

  eQ : Q ≡ u ∷ Q'
  eQ = feet-next op m y j e lj ∙ ap (λ z. z ∷ Q') (sym eu)

  xs : x + (i + 1) * 2 ≡ x + i * 2 + 2
  xs = omega arith

  ys : y + (j + 1) * 2 ≡ y + j * 2 + 2
  ys = omega arith

  upP : Ascends lt_z (t ∷ P')
  upP = subst (Ascends lt_z) eP C.up

  upQ : Ascends lt_z (u ∷ Q')
  upQ = subst (Ascends lt_z) eQ C.other_up

  -- the height of the one is lower, or that of the other, or they are equal and the rows were linked
  pub past_own : lt_z t u ≡ true → Crossing f op m x c y e ol₀ ol (i + 1) j
  past_own h = record {
    il = omega arith;
    jl = C.jl;
    same = C.same;
    up = upP.1;
    other_up = C.other_up;
    whole = ap (λ z. walk_all f P' Q z (y + j * 2) ol) xs
        ∙ sym (walk-miss f t P' Q (x + i * 2) (y + j * 2) ol (subst (Above lt_z t) (sym eQ) (above-cons t u Q' h upQ)))
        ∙ rw (← eP) C.whole;
  }

  pub past_other : lt_z u t ≡ true → Crossing f op m x c y e ol₀ ol i (j + 1)
  past_other h = record {
    il = C.il;
    jl = (let b = lj in omega arith);
    same = C.same;
    up = C.up;
    other_up = upQ.1;
    whole = ap (λ z. walk_all f P Q' (x + i * 2) z ol) ys
        ∙ sym (walk-drop f u P Q' (x + i * 2) (y + j * 2) ol (subst (Above lt_z u) (sym eP) (above-cons u t P' h upP)))
        ∙ rw (← eQ) C.whole;
  }

  pub past_both : t ≡ u → {ol' : List ℕ} → length ol' ≡ length ol → ol' ≡ f (x + i * 2) (y + j * 2) ol → Crossing f op m x c y e ol₀ ol' (i + 1) (j + 1)
  past_both h {ol'} kept eq = rw eq
      (record {
        il = omega arith;
        jl = (let b = lj in omega arith);
        same = ap length (sym eq) ∙ kept ∙ C.same;
        up = upP.1;
        other_up = upQ.1;
        whole = ap (λ z. walk_all f P' Q' z (y + (j + 1) * 2) (f (x + i * 2) (y + j * 2) ol)) xs
            ∙ ap (λ z. walk_all f P' Q' (x + i * 2 + 2) z (f (x + i * 2) (y + j * 2) ol)) ys
            ∙ sym (walk-both f t P' Q' (x + i * 2) (y + j * 2) ol upP.0)
            ∙ rw (← eP, ← (eQ ∙ ap (λ z. z ∷ Q') (sym h))) C.whole;
      })

module _ {f : Put} {op : List ℤ} {m x c y e : ℕ} {ol₀ ol : List ℕ} {i j : ℕ} (C : Crossing f op m x c y e ol₀ ol i j) where
  pub ended : c ≤ i → ol ≡ walk_all f (feet_from op m x c) (feet_from op m y e) x y ol₀
  unfolding feet_from
  ended h = let z : c - i ≡ 0 = omega arith in let g = rw z at C.whole in sym (walk_end f _ (x + i * 2) (y + j * 2) ol) ∙ g

  pub spent : j ≡ e → ol ≡ walk_all f (feet_from op m x c) (feet_from op m y e) x y ol₀
  unfolding feet_from
  spent h = let z : e - j ≡ 0 = omega arith in let g = rw z at C.whole in sym (walk_none f _ (x + i * 2) (y + j * 2) ol) ∙ g
