-- Two levels of a dart that have as many pieces.
--     ends-rise        the ends of a dart's pieces rise with their positions, side by side
--     ends-once        so that no end stands at two of them
--     levels-same      where a level has as many pieces as the one below it, they are the same
use Rattle.std.proofs.Common.{◌≡◌, ℕ, zero, suc, ◌+◌, ◌-◌, ◌<◌, ◌≤◌, Bool, true, ℤ, sym, ap, ◌∙◌, subst, ⊎_elim, arith}
use native.Mathlib.Omega.{by_contra}
use lib.Signed.{lt_z}
use Rattle.paper.specs.Map.{Map, count}
use Rattle.theory.specs.Local.{Local}
use Rattle.theory.proofs.Bool.{clash, eq-or, less-or}
use Rattle.theory.proofs.Order.{Z-order}
use Rattle.theory.proofs.Below.{less-cases}
use Rattle.number.specs.Count.{piece_count}
use Rattle.number.specs.First.{end_of}
use Rattle.number.proofs.First.{foot-rises}
use Rattle.number.proofs.Target.{targets}

pub ends-rise : (M : Map) (d k : ℕ) (s : Bool) (i j : ℕ) → i < j → j < piece_count M d k → lt_z (end_of M d k i s) (end_of M d k j s) ≡ true
ends-rise M d k s i zero h g = absurd (let z : ⊥ = omega arith in z)
ends-rise M d k s i (suc j) h g = ⊎_elim
    (λ (p : i ≡ j). subst (λ (x : ℕ). lt_z (end_of M d k x s) (end_of M d k (suc j) s) ≡ true) (sym p) (foot-rises M d k j g s))
    (λ l. Z-order.trans (end_of M d k i s) (end_of M d k j s) (end_of M d k (suc j) s) (ends-rise M d k s i j l (omega arith)) (foot-rises M d k j g s))
    (less-cases h)

-- the position of a lower end is lower
ends-less : (M : Map) (d k : ℕ) (s : Bool) (i j : ℕ) → i < piece_count M d k → lt_z (end_of M d k i s) (end_of M d k j s) ≡ true → i < j
ends-less M d k s i j h l = by_contra (suc i) j (λ g. ⊎_elim
    (λ (p : j ≡ i). clash (subst (λ (x : ℕ). lt_z (end_of M d k i s) (end_of M d k x s) ≡ true) p l) (Z-order.irrefl (end_of M d k i s)))
    (λ u. clash (Z-order.trans (end_of M d k i s) (end_of M d k j s) (end_of M d k i s) l (ends-rise M d k s j i u h)) (Z-order.irrefl (end_of M d k i s)))
    (less-cases (let a = g in omega arith)))

pub ends-once : (M : Map) (d k : ℕ) (s : Bool) (i j : ℕ) → i < piece_count M d k → j < piece_count M d k → end_of M d k i s ≡ end_of M d k j s → i ≡ j
ends-once M d k s i j hi hj p = ⊎_elim (λ e. e) (λ ne. absurd (⊎_elim
    (λ (u : i < j). clash (ends-rise M d k s i j u hj) (ap (λ (x : ℤ). lt_z x (end_of M d k j s)) p ∙ Z-order.irrefl (end_of M d k j s)))
    (λ (u : j ≤ i). clash (ends-rise M d k s j i (omega (arith, ne)) hi) (ap (λ (x : ℤ). lt_z (end_of M d k j s) x) p ∙ Z-order.irrefl (end_of M d k j s)))
    (less-or i j))) (eq-or i j)

-- ---- the ends of a level stand at the one below, in their order
module _ (M : Map) (L : Local M) (d k l : ℕ) (up : suc l ≡ k) (hd : d < count M) (hk : k ≤ M.dim) (same : piece_count M d k ≡ piece_count M d l) (s : Bool) where
  abbrev At : ℕ → ℕ → Type 0
  At j i = (i < piece_count M d l) × (end_of M d k j s ≡ end_of M d l i s)

  stands : (j : ℕ) → j < piece_count M d k → (i : ℕ) × At j i
  stands j h = let r = (targets M L d k j s hd hk h).down l up in (r.0, (r.1, r.2))

  rises : (j i i' : ℕ) → suc j < piece_count M d k → At j i → At (suc j) i' → i < i'
  rises j i i' h a b =
      ends-less M d l s i i' a.0 (sym (λ n. lt_z (a.1 n) (b.1 n)) ∙ foot-rises M d k j h s)

  -- none before its own position
  from : (j i : ℕ) → j < piece_count M d k → At j i → j ≤ i
  from zero i h a = omega arith
  from (suc j) i h a =
      let b = stands j (omega arith) in
      let c = from j b.0 (omega arith) b.1 in
      let e = rises j b.0 i h b.1 a in
      omega arith

  -- nor behind it, since so many are left
  upto : (n j i : ℕ) → j + suc n ≡ piece_count M d k → At j i → i ≤ j
  upto zero j i e a = let b = a.0 in omega arith
  upto (suc n) j i e a =
      let b = stands (suc j) (omega arith) in
      let c = upto n (suc j) b.0 (omega arith) b.1 in
      let r = rises j i b.0 (omega arith) a b.1 in
      omega arith

  pub levels-same : (j : ℕ) → j < piece_count M d k → end_of M d k j s ≡ end_of M d l j s
  levels-same j h =
      let a = stands j h in
      let u = from j a.0 h a.1 in
      let v = upto (piece_count M d k - suc j) j a.0 (omega arith) a.1 in
      let e : a.0 ≡ j = omega arith in
      a.1.1 ∙ ap (λ (i : ℕ). end_of M d l i s) e
