-- How far a level is written, as the block of one dart more is linked.
--     stand-below      what linking it asks of the level
--     stand-link       the level after it
use Rattle.std.proofs.Common.{◌≡◌, ℕ, suc, ◌-◌, ◌<◌, ◌≤◌, ◌⊎◌, List, ℤ, sym, refl, ap, ◌∙◌, subst, inl, inr, ⊎_elim, arith}
use Rattle.paper.specs.Map.{Map}
use Rattle.theory.proofs.Bool.{eq-or}
use Rattle.number.specs.First.{first}
use Rattle.base.specs.Base.{base}
use Rattle.base.proofs.Slots.{base-here, base-other, base-half}
use Rattle.visit.specs.Block.{Connected}
use Rattle.visit.specs.Stead.{Stead}
use Rattle.visit.specs.Visit.{Below}
use Rattle.sweep.specs.Level.{Upon, Standing}
use Rattle.visit.proofs.Visiting.{visit-bases}
use Rattle.sweep.proofs.Drawing.{drawn-block}

module _ {M : Map} {m n k h e : ℕ} {links : List ℕ} {places spans : List ℤ} {w : List ℕ} {D : ℕ → Type 0} {op : List ℤ} {ol : List ℕ} {room : ℕ}
    (S : Stead M m n links places spans w op ol room) (level : k ≤ m) (either : h ≤ 1) (G : Standing M n k h w D op ol) (below : e < n) (fresh : D e → ⊥) where
  pub stand-below : Below M m n e k h w op ol
  stand-below = record {
    dart = below;
    level = level;
    either = either;
    own = G.own;
    before = G.before e below fresh;
    outset = G.outset e below fresh;
    placed = λ l p. G.drawn.placed e l (below, inl (omega arith));
    touched = λ l p. G.drawn.touched e l (below, inl (omega arith)) (λ u. ⊎_elim (λ a. omega arith) (λ a. fresh a.1) u.1);
  }

  module _ (D' : ℕ → Type 0) (keep : (x : ℕ) → D x → D' x) (has : D' e) (grow : (x : ℕ) → D' x → D x ⊎ (x ≡ e))
      {w' ol' : List ℕ} (N : Connected M n e k h op ol w ol' w') where
    other : (x : ℕ) → (x ≡ e → ⊥) → base w' n (1 - h) x ≡ base w n (1 - h) x
    other x o = ap (λ (l : List ℕ). base l n (1 - h) x) N.base ∙ base-other w n (1 - h) e x (first M e (suc k)) o

    here : base w' n (1 - h) e ≡ first M e (suc k)
    here = ap (λ (l : List ℕ). base l n (1 - h) e) N.base ∙ base-here w n (1 - h) e (first M e (suc k)) (visit-bases S) (omega arith) below

    pub stand-link : Standing M n k h w' D' op ol'
    stand-link = record {
      drawn = drawn-block M (let a = S.dims in let b = S.plan.holds.dims in omega arith) (Upon n k D') G.drawn N.written
          (subst (λ (x : ℕ). e < x) (sym S.plan.holds.darts) below)
          (subst (λ (x : ℕ). k ≤ x) (sym S.plan.holds.dims) level)
          (λ x l u. (u.0, ⊎_elim (λ a. inl a) (λ a. inr (a.0, keep x a.1)) u.1))
          (below, inr (refl, has))
          (λ x l u. ⊎_elim
          (λ a. inl (u.0, inl a))
          (λ a. ⊎_elim (λ i. inl (u.0, inr (a.0, i))) (λ p. inr (p, a.0)) (grow x a.1))
          u.1)
          (λ u. ⊎_elim (λ a. let z : ⊥ = omega arith in z) (λ a. fresh a.1) u.1)
          (λ u. ⊎_elim (λ a. let z : ⊥ = omega arith in z) (λ a. let b = a.0 in let z : ⊥ = omega arith in z) u.1);
      own = λ x l. ap (λ (u : List ℕ). base u n h x) N.base ∙ base-half w n h e x (first M e (suc k)) either ∙ G.own x l;
      next = λ x l i. ⊎_elim (λ (p : x ≡ e). rw p here) (λ ne. other x ne ∙ G.next x l (⊎_elim (λ j. j) (λ p. absurd (ne p)) (grow x i))) (eq-or x e);
      before = λ x l o a b. other x (λ p. o (rw p has)) ∙ G.before x l (λ i. o (keep x i)) a b;
      outset = λ x l o a. other x (λ p. o (rw p has)) ∙ G.outset x l (λ i. o (keep x i)) a;
    }
