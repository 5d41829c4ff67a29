-- Laws of darts without spans, whose blocks have no rows.
--     first-bare       all their blocks start at one row
--     halves-bare, halves-some     where both halves of a dart's bases are the same before it is linked, it has no spans; where they differ, it has rows
--     bare-lays, bare-linking      nothing is to be laid, nor linked
use Rattle.std.proofs.Common.{◌≡◌, ℕ, zero, suc, ◌-◌, ◌<◌, ◌≤◌, true, List, set, ℤ, sym, refl, ap, ◌∙◌, subst, le_refl, arith}
use native.Mathlib.Omega.{by_contra}
use lib.Seq.{set-get_or}
use Rattle.paper.specs.Below.{sum_below}
use Rattle.paper.specs.Map.{Map, count}
use Rattle.number.specs.Count.{piece_count}
use Rattle.number.specs.First.{first}
use Rattle.number.specs.Own.{bare}
use Rattle.number.proofs.First.{first_next}
use Rattle.number.proofs.Sum.{sum-at}
use Rattle.number.proofs.Own.{bare-first, count-bare}
use Rattle.base.specs.Base.{slot, base}
use Rattle.visit.specs.Block.{Lays, Connected}
use Rattle.visit.specs.Stead.{Stead}
use Rattle.visit.specs.Visit.{Below}
use Rattle.sweep.proofs.Drawing.{no_row}

pub first-bare : (M : Map) (d k : ℕ) → bare M d ≡ true → first M d k ≡ first M d 0
first-bare M d zero b = refl
first-bare M d (suc k) b = bare-first M d k b ∙ first-bare M d k b

-- the first row past a dart's blocks is that of its lowest block only where there is none
all-bare : (M : Map) (d : ℕ) → first M d 0 ≡ first M d (suc M.dim) → piece_count M d 0 ≡ 0
unfolding first sum_below
all-bare M d p = let a = sum-at (suc M.dim) (piece_count M d) 0 (omega arith) in omega arith

module _ {M : Map} {m n : ℕ} {links : List ℕ} {places spans : List ℤ} {w : List ℕ} {op : List ℤ} {ol : List ℕ} {room : ℕ}
    (S : Stead M m n links places spans w op ol room) where
  in_map : {e : ℕ} → e < n → e < count M
  in_map {e} h = subst (λ (c : ℕ). e < c) (sym S.plan.holds.darts) h

  -- ---- a dart whose bases stand before it is linked
  module _ {e k : ℕ} (h : ℕ) (dart : e < n) (level : k ≤ m) (own : base w n h e ≡ first M e k) (before : (l : ℕ) → suc l ≡ k → base w n (1 - h) e ≡ first M e l)
      (outset : k ≡ 0 → base w n (1 - h) e ≡ first M e (suc M.dim)) where
    within : (l : ℕ) → l ≤ k → l ≤ M.dim
    within l g = let a = level in let b = S.plan.holds.dims in omega arith

    pub halves-bare : base w n h e ≡ base w n (1 - h) e → bare M e ≡ true
    halves-bare p = go k refl
      where
        go : (l : ℕ) → l ≡ k → bare M e ≡ true
        go zero q =
            let r = own ∙ ap (first M e) (sym q) in
            count-bare M S.plan.valid e 0 (in_map dart) (within 0 (omega arith)) (all-bare M e (sym r ∙ p ∙ outset (sym q)))
        go (suc l) q =
            let a = own ∙ ap (first M e) (sym q) in
            let b = before l q in
            let c = first_next M e l in
            count-bare M S.plan.valid e l (in_map dart) (within l (omega arith)) (omega arith)

    -- where they differ, it has rows
    pub halves-some : (base w n h e ≡ base w n (1 - h) e → ⊥) → 0 < piece_count M e k
    halves-some o = by_contra 1 (piece_count M e k) (λ z.
        let b = count-bare M S.plan.valid e k (in_map dart) (within k (le_refl k)) (omega arith) in
        o (own ∙ first-bare M e k b ∙ sym (go b k refl)))
      where
        go : bare M e ≡ true → (l : ℕ) → l ≡ k → base w n (1 - h) e ≡ first M e 0
        go b zero q = outset (sym q) ∙ first-bare M e (suc M.dim) b
        go b (suc l) q = before l q ∙ first-bare M e l b

  -- nothing is to be laid
  pub bare-lays : {e k : ℕ} → bare M e ≡ true → Lays M e k op ol op ol
  bare-lays {e} {k} b = record {
    laid = record { placed = λ j s a hj ha. absurd (no_row M e k j b hj); told = λ some. absurd (no_row M e k 0 b some) };
    places_same = λ q a _ _. refl;
    links_same = λ q a _ _. refl;
  }

  -- nor linked
  pub bare-linking : {e k h : ℕ} → Below M m n e k h w op ol → base w n h e ≡ base w n (1 - h) e → Connected M n e k h op ol w ol w
  bare-linking {e} {k} {h} A p =
      let b = halves-bare h A.dart A.level (A.own e A.dart) A.before A.outset p in
      record {
        written = record {
          placed = λ j s a hj ha. absurd (no_row M e k j b hj);
          inner = record {
            right = λ i _ _ j s hj. absurd (no_row M e k j b hj);
            free = λ i _ _ j s hj. absurd (no_row M e k j b hj);
          };
          touched = record {
            met = λ j _ s hj _ _. absurd (no_row M e k j b hj);
            missed = λ j s hj _. absurd (no_row M e k j b hj);
          };
          own = λ _ j s hj. absurd (no_row M e k j b hj);
          joined = λ l _ j s hj. absurd (no_row M e l j b hj);
          places_same = λ q a _ _. refl;
          links_same = λ q b _ _ _. refl;
        };
        base = sym (ap (set w (slot n (1 - h) e)) (sym (sym p ∙ A.own e A.dart ∙ sym (bare-first M e k b))) ∙ set-get_or w (slot n (1 - h) e) 0);
      }
