-- The tables stay right where one block more is written.
--     drawn-block      the block of a dart at a level
--     drawn-aside      a block that is laid leaves the others
--     drawn-over       the links over the boundary of a dart and its neighbour
--     drawn-none       nothing is written yet
--     drawn-same       the same blocks, told in other words
--     no_row           a dart without spans has no rows
use Rattle.std.proofs.Common.{◌≡◌, ℕ, suc, ◌<◌, ◌≤◌, Bool, true, ◌⊎◌, List, ℤ, sym, ap, ◌∙◌, subst, subst₂, ⊎_elim, eq-or-lt_of_le, arith}
use Rattle.paper.specs.Width.{link_width}
use Rattle.paper.specs.Map.{Map, count}
use Rattle.number.specs.Count.{piece_count}
use Rattle.number.specs.First.{number_of}
use Rattle.number.specs.Own.{bare}
use Rattle.number.proofs.Own.{bare-count}
use Rattle.over.specs.Over.{link_of}
use Rattle.visit.specs.Block.{PlacedAt, Linked, Own, Inner, Touched, Written, Lays}
use Rattle.visit.proofs.Blocks.{row-outside}
use Rattle.sweep.specs.Drawn.{Drawn, Paired, OverAt}

-- ---- a block that keeps its links
module _ (M : Map) (ol ol' : List ℕ) (d l : ℕ) where
  -- axis i of each of its rows is as before
  abbrev Kept : ℕ → Type 0
  Kept i = (j : ℕ) (s : Bool) → j < piece_count M d l → link_of ol' (number_of M d l j s) i ≡ link_of ol (number_of M d l j s) i

  linked-kept : (i : ℕ) → Kept i → Linked M ol d l i → Linked M ol' d l i
  linked-kept i f x j s hj = f j s hj ∙ x j s hj

  own-kept : (i : ℕ) → Kept i → Own M ol d l i → Own M ol' d l i
  own-kept i f x j s hj = f j s hj ∙ x j s hj

  inner-kept : suc M.dim < link_width → l ≤ M.dim → ((i : ℕ) → i < link_width → (i ≡ suc l → ⊥) → (i ≡ suc M.dim → ⊥) → Kept i)
      → Inner M ol d l → Inner M ol' d l
  inner-kept narrow hl f I = record {
    right = λ i hi x. linked-kept i (f i (omega arith) x (λ (p : i ≡ suc M.dim). omega arith)) (I.right i hi x);
    free = λ i x hi. own-kept i (f i hi (λ (p : i ≡ suc l). omega arith) (λ (p : i ≡ suc M.dim). omega arith)) (I.free i x hi);
  }

  touched-kept : Kept (suc l) → Touched M ol d l → Touched M ol' d l
  touched-kept f T = record {
    met = λ j j' s hj hj' x. f j s hj ∙ T.met j j' s hj hj' x;
    missed = λ j s hj x. f j s hj ∙ T.missed j s hj x;
  }

-- ---- a block more
-- Each axis of the lifted map has its place in a row of the table.
module _ (M : Map) (narrow : suc M.dim < link_width) {D O : ℕ → ℕ → Type 0} (D' : ℕ → ℕ → Type 0) {e k : ℕ} {op op' : List ℤ} {ol ol' : List ℕ}
    (B : Drawn M D O op ol) (N : Written M e k op ol op' ol') (he : e < count M) (hk : k ≤ M.dim)
    (keep : (d l : ℕ) → D d l → D' d l) (has : D' e k) (grow : (d l : ℕ) → D' d l → D d l ⊎ ((d ≡ e) × (l ≡ k)))
    (fresh : D e k → ⊥) (later : D e (suc k) → ⊥) where
  other : (d l : ℕ) → D d l → (d ≡ e) × (l ≡ k) → ⊥
  other d l b p = fresh (subst₂ D p.0 p.1 b)

  -- what holds of the blocks written before, and of this one
  each : (P : ℕ → ℕ → Type 0) → P e k → ((d l : ℕ) → D d l → P d l) → (d l : ℕ) → D' d l → P d l
  each P x f d l b = ⊎_elim (f d l) (λ p. subst₂ P (sym p.0) (sym p.1) x) (grow d l b)

  -- an axis of another block, but where it is the level below, which is joined to this one
  aside : (d l i : ℕ) → d < count M → l ≤ M.dim → ((d ≡ e) × (l ≡ k) → ⊥) → i < link_width → (i ≡ k → suc l ≡ k → d ≡ e → ⊥) → Kept M ol ol' d l i
  aside d l i hd hl o hi x j s hj =
      N.links_same (number_of M d l j s) i hi (row-outside M d l e k hd he hl hk o j s hj)
      (λ m p q. row-outside M d l e m hd he hl (omega arith) (λ r. x q (ap suc r.1 ∙ p) r.0) j s hj)

  before : (d l i : ℕ) → D d l → i < link_width → (i ≡ k → suc l ≡ k → d ≡ e → ⊥) → Kept M ol ol' d l i
  before d l i b = aside d l i (B.within d l b).0 (B.within d l b).1 (other d l b)

  before_last : (d l : ℕ) → D d l → Kept M ol ol' d l (suc M.dim)
  before_last d l b = before d l (suc M.dim) b narrow (λ (p : suc M.dim ≡ k) _ _. omega arith)

  pub drawn-block : Drawn M D' O op' ol'
  drawn-block = record {
    within = each (λ d l. (d < count M) × (l ≤ M.dim)) (he, hk) B.within;
    sub = λ d l o. keep d l (B.sub d l o);
    placed = each (PlacedAt M op') N.placed
        (λ d l b j s a hj ha.
        let r = B.within d l b in
        N.places_same (number_of M d l j s) a ha (row-outside M d l e k r.0 he r.1 hk (other d l b) j s hj) ∙ B.placed d l b j s a hj ha);
    inner = each (Inner M ol') N.inner
        (λ d l b. inner-kept M ol ol' d l narrow (B.within d l b).1 (λ i hi x _. before d l i b hi (λ p q _. x (p ∙ sym q))) (B.inner d l b));
    touched = each (λ d l. (D' d (suc l) → ⊥) → Touched M ol' d l) (λ _. N.touched)
        (λ d l b no.
        let r = (B.within d l b).1 in
        touched-kept M ol ol' d l (before d l (suc l) b (omega arith) (λ _ p q. no (subst₂ D' (sym q) (sym p) has)))
        (B.touched d l b (λ x. no (keep d (suc l) x))));
    joined = λ d l b. ⊎_elim
        (λ (c : D d (suc l)).
        let r = B.within d (suc l) c in
        linked-kept M ol ol' d l (suc l)
        (aside d l (suc l) r.0 (omega arith) (λ p. later (subst₂ D p.0 (ap suc p.1) c)) (omega arith) (λ _ p q. fresh (subst₂ D q p c)))
        (B.joined d l c))
        (λ p. subst₂ (λ (x y : ℕ). Linked M ol' x l y) (sym p.0) (sym p.1) (N.joined l p.1))
        (grow d (suc l) b);
    own = each (λ d l. (O d l → ⊥) → l < M.dim → Own M ol' d l (suc M.dim)) (λ _. N.own)
        (λ d l b no hl. own-kept M ol ol' d l (suc M.dim) (before_last d l b) (B.own d l b no hl));
    over = λ d l o hl. linked-kept M ol ol' d l (suc M.dim) (before_last d l (B.sub d l o)) (B.over d l o hl);
  }

-- ---- a block that is laid, and not linked yet
module _ (M : Map) (narrow : suc M.dim < link_width) {D O : ℕ → ℕ → Type 0} {e k : ℕ} {op op' : List ℤ} {ol ol' : List ℕ}
    (B : Drawn M D O op ol) (N : Lays M e k op ol op' ol') (he : e < count M) (hk : k ≤ M.dim) (fresh : D e k → ⊥) (later : D e (suc k) → ⊥) where
  stays : (d l i : ℕ) → d < count M → l ≤ M.dim → ((d ≡ e) × (l ≡ k) → ⊥) → i < link_width → Kept M ol ol' d l i
  stays d l i hd hl o hi j s hj =
      N.links_same (number_of M d l j s) i hi (λ t. let a = t.0 in let b = t.1.0 in ⊎_elim (λ u. omega arith) (λ u. omega arith) (row-outside M d l e k hd he hl hk o j s hj))

  of : (d l i : ℕ) → D d l → i < link_width → Kept M ol ol' d l i
  of d l i b = stays d l i (B.within d l b).0 (B.within d l b).1 (λ p. fresh (subst₂ D p.0 p.1 b))

  pub drawn-aside : Drawn M D O op' ol'
  drawn-aside = record {
    within = B.within;
    sub = B.sub;
    placed = λ d l b j s a hj ha.
        let r = B.within d l b in
        N.places_same (number_of M d l j s) a ha (row-outside M d l e k r.0 he r.1 hk (λ p. fresh (subst₂ D p.0 p.1 b)) j s hj) ∙ B.placed d l b j s a hj ha;
    inner = λ d l b. inner-kept M ol ol' d l narrow (B.within d l b).1 (λ i hi _ _. of d l i b hi) (B.inner d l b);
    touched = λ d l b no. touched-kept M ol ol' d l (of d l (suc l) b (let a = (B.within d l b).1 in omega arith)) (B.touched d l b no);
    joined = λ d l c.
        let r = B.within d (suc l) c in
        linked-kept M ol ol' d l (suc l)
        (stays d l (suc l) r.0 (let a = r.1 in omega arith) (λ p. later (subst₂ D p.0 (ap suc p.1) c)) (let a = r.1 in omega arith)) (B.joined d l c);
    own = λ d l b no hl. own-kept M ol ol' d l (suc M.dim) (of d l (suc M.dim) b narrow) (B.own d l b no hl);
    over = λ d l o hl. linked-kept M ol ol' d l (suc M.dim) (of d l (suc M.dim) (B.sub d l o) narrow) (B.over d l o hl);
  }

-- ---- the links over the boundary of the blocks of a pair, which the top level has none of
module _ (M : Map) (narrow : suc M.dim < link_width) {D O : ℕ → ℕ → Type 0} (O' : ℕ → ℕ → Type 0) {e k : ℕ} {op : List ℤ} {ol ol' : List ℕ}
    (B : Drawn M D O op ol) (U : OverAt M e k ol ol') (written : (d : ℕ) → Paired M e d → D d k) (hk : k < M.dim)
    (keep : (d l : ℕ) → O d l → O' d l) (has : (d : ℕ) → Paired M e d → O' d k) (grow : (d l : ℕ) → O' d l → O d l ⊎ (Paired M e d × (l ≡ k)))
    (fresh : (d : ℕ) → Paired M e d → O d k → ⊥) where
  -- the last axis of another block
  last : (d l : ℕ) → D d l → (Paired M e d → l ≡ k → ⊥) → Kept M ol ol' d l (suc M.dim)
  last d l b o j s hj =
      let p = B.within d l b in
      U.same (number_of M d l j s) (suc M.dim) narrow (λ _ x r.
      let q = B.within x k (written x r) in
      row-outside M d l x k p.0 q.0 p.1 q.1 (λ w. o (subst (Paired M e) (sym w.0) r) w.1) j s hj)

  -- any axis before it, and after it
  rest : (d l i : ℕ) → i < link_width → (i ≡ suc M.dim → ⊥) → Kept M ol ol' d l i
  rest d l i hi ne j s hj = U.same (number_of M d l j s) i hi (λ p. absurd (ne p))

  pub drawn-over : Drawn M D O' op ol'
  drawn-over = record {
    within = B.within;
    sub = λ d l o. ⊎_elim (B.sub d l) (λ p. subst (D d) (sym p.1) (written d p.0)) (grow d l o);
    placed = B.placed;
    inner = λ d l b. inner-kept M ol ol' d l narrow (B.within d l b).1 (λ i hi _ no. rest d l i hi no) (B.inner d l b);
    touched = λ d l b no. touched-kept M ol ol' d l
        (⊎_elim
        (λ (p : l ≡ M.dim). subst (λ (i : ℕ). Kept M ol ol' d l (suc i)) (sym p) (last d l b (λ _ (x : l ≡ k). omega arith)))
        (λ (h : l < M.dim). rest d l (suc l) (omega arith) (λ (p : suc l ≡ suc M.dim). omega arith))
        (eq-or-lt_of_le (B.within d l b).1))
        (B.touched d l b no);
    joined = λ d l b.
        let r = (B.within d (suc l) b).1 in
        linked-kept M ol ol' d l (suc l) (rest d l (suc l) (omega arith) (λ (p : suc l ≡ suc M.dim). omega arith)) (B.joined d l b);
    own = λ d l b no hl. own-kept M ol ol' d l (suc M.dim)
        (last d l b (λ p q. no (subst (O' d) (sym q) (has d p))))
        (B.own d l b (λ o. no (keep d l o)) hl);
    over = λ d l o hl. ⊎_elim
        (λ (b : O d l). linked-kept M ol ol' d l (suc M.dim) (last d l (B.sub d l b) (λ p q. fresh d p (subst (O d) q b))) (B.over d l b hl))
        (λ p. subst (λ (y : ℕ). Linked M ol' d y (suc M.dim)) (sym p.1) (U.right d p.0 hk))
        (grow d l o);
  }

-- ---- at the start, and in other words
pub drawn-none : (M : Map) (op : List ℤ) (ol : List ℕ) → Drawn M (λ _ _. ⊥) (λ _ _. ⊥) op ol
drawn-none M op ol = record {
  within = λ _ _ x. absurd x;
  sub = λ _ _ x. x;
  placed = λ _ _ x. absurd x;
  inner = λ _ _ x. absurd x;
  touched = λ _ _ x. absurd x;
  joined = λ _ _ x. absurd x;
  own = λ _ _ x. absurd x;
  over = λ _ _ x. absurd x;
}

pub drawn-same : (M : Map) {D O : ℕ → ℕ → Type 0} (D' O' : ℕ → ℕ → Type 0) {op : List ℤ} {ol : List ℕ}
    → ((d l : ℕ) → D d l → D' d l) → ((d l : ℕ) → D' d l → D d l) → ((d l : ℕ) → O d l → O' d l) → ((d l : ℕ) → O' d l → O d l)
    → Drawn M D O op ol → Drawn M D' O' op ol
drawn-same M D' O' to back over-to over-back B = record {
  within = λ d l b. B.within d l (back d l b);
  sub = λ d l o. to d l (B.sub d l (over-back d l o));
  placed = λ d l b. B.placed d l (back d l b);
  inner = λ d l b. B.inner d l (back d l b);
  touched = λ d l b no. B.touched d l (back d l b) (λ x. no (to d (suc l) x));
  joined = λ d l b. B.joined d l (back d (suc l) b);
  own = λ d l b no. B.own d l (back d l b) (λ x. no (over-to d l x));
  over = λ d l o. B.over d l (over-back d l o);
}

-- ---- blocks without rows
pub no_row : (M : Map) (d k j : ℕ) → bare M d ≡ true → j < piece_count M d k → ⊥
no_row M d k j b h = let z = bare-count M d k b in omega arith
