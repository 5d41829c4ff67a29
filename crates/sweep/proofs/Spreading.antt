-- How far a level is laid, as one block more is.
--     reached-same     only the bases matter in the work
--     reached-lay      the levels below stay as they are where a block is laid
--     laid-stays       so does what another block has
--     spread_same      the same darts, told in other words
--     spread-lay       one dart more
use Rattle.std.proofs.Common.{◌≡◌, ℕ, ◌-◌, ◌<◌, ◌≤◌, Bool, true, ◌⊎◌, List, ℤ, sym, ◌∙◌, subst, ⊎_elim, arith}
use Rattle.paper.specs.Map.{Map, count}
use Rattle.theory.proofs.Bool.{eq-or}
use Rattle.number.specs.Count.{piece_count}
use Rattle.number.specs.First.{first, number_of}
use Rattle.base.specs.Base.{base}
use Rattle.visit.specs.Block.{Outside, Laid, Lays}
use Rattle.visit.specs.Stead.{Stead}
use Rattle.visit.proofs.Blocks.{row-outside}
use Rattle.sweep.specs.Level.{Reached, Spread}
use Rattle.sweep.proofs.Drawing.{drawn-aside}

pub reached-same : {M : Map} {n k h : ℕ} {w w' : List ℕ} {op : List ℤ} {ol : List ℕ} → ((g e : ℕ) → base w' n g e ≡ base w n g e)
    → Reached M n k h w op ol → Reached M n k h w' op ol
reached-same {h = h} bases R = record {
  drawn = R.drawn;
  own = λ e l. bases h e ∙ R.own e l;
  before = λ e l a b. bases (1 - h) e ∙ R.before e l a b;
  outset = λ e l a. bases (1 - h) e ∙ R.outset e l a;
}

pub spread_same : {M : Map} {n k h : ℕ} {w w' : List ℕ} {D : ℕ → Type 0} (D' : ℕ → Type 0) {op : List ℤ} {ol : List ℕ} → ((g e : ℕ) → base w' n g e ≡ base w n g e)
    → ((e : ℕ) → e < n → D' e → D e) → Spread M n k h w D op ol → Spread M n k h w' D' op ol
spread_same D' bases back G = record { reached = reached-same bases G.reached; laid = λ e l i. G.laid e l (back e l i) }

module _ {M : Map} {m n k e : ℕ} {links : List ℕ} {places spans : List ℤ} {w : List ℕ} {op : List ℤ} {ol : List ℕ} {room : ℕ}
    (S : Stead M m n links places spans w op ol room) (level : k ≤ m) (below : e < n) {op' : List ℤ} {ol' : List ℕ} (N : Lays M e k op ol op' ol') where
  in_map : {x : ℕ} → x < n → x < count M
  in_map {x} h = subst (λ (c : ℕ). x < c) (sym S.plan.holds.darts) h

  dims : k ≤ M.dim
  dims = subst (λ (c : ℕ). k ≤ c) (sym S.plan.holds.dims) level

  pub reached-lay : {h : ℕ} → Reached M n k h w op ol → Reached M n k h w op' ol'
  reached-lay R = record {
    drawn = drawn-aside M (let a = S.dims in let b = S.plan.holds.dims in omega arith) R.drawn N (in_map below) dims
        (λ u. let a = u.1 in let z : ⊥ = omega arith in z) (λ u. let a = u.1 in let z : ⊥ = omega arith in z);
    own = R.own;
    before = R.before;
    outset = R.outset;
  }

  pub laid-stays : (x : ℕ) → x < n → (x ≡ e → ⊥) → Laid M op ol x k → Laid M op' ol' x k
  laid-stays x h ne L = record {
    placed = λ j s a hj ha. N.places_same (number_of M x k j s) a ha (out j s hj) ∙ L.placed j s a hj ha;
    told = λ some.
        let z : number_of M x k 0 true ≡ first M x k = omega arith in
        N.links_same (first M x k) 0 (omega arith) (λ t. let a = t.0 in let b = t.1.0 in ⊎_elim (λ u. omega arith) (λ u. omega arith) (out 0 true some)) ∙ L.told some;
  }
    where
      out : (j : ℕ) (s : Bool) → j < piece_count M x k → Outside M e k (number_of M x k j s)
      out j s hj = row-outside M x k e k (in_map h) (in_map below) dims dims (λ p. ne p.0) j s hj

  pub spread-lay : {h : ℕ} {D : ℕ → Type 0} (D' : ℕ → Type 0) → ((x : ℕ) → x < n → D' x → D x ⊎ (x ≡ e)) → Spread M n k h w D op ol → Spread M n k h w D' op' ol'
  spread-lay D' grow G = record {
    reached = reached-lay G.reached;
    laid = λ x l i. ⊎_elim
        (λ (p : x ≡ e). subst (λ (y : ℕ). Laid M op' ol' y k) (sym p) N.laid)
        (λ ne. laid-stays x l ne (G.laid x l (⊎_elim (λ j. j) (λ p. absurd (ne p)) (grow x l i))))
        (eq-or x e);
  }
