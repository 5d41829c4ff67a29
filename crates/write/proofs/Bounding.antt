-- Laws of the links over the boundary.
--     over-at                  those of a dart whose block is matched with that of its neighbour
--     near, back               a dart's neighbour is a dart, and leads back
--     turned                   a match of two blocks, told from the other one
--     bound-..                 those of a dart and its neighbour: what the calls ask, and what they leave
--     bounds-top               at the top level there are none
--     Bounding, ..             the loop of `over_level`
use Rattle.std.proofs.Common.{◌≡◌, ℕ, suc, ◌+◌, ◌-◌, ◌*◌, ◌/◌, ◌<◌, ◌≤◌, Bool, not, List, length, ℤ, sym, refl, ap, ◌∙◌, subst, subst₂, inl, inr, ⊎_elim, not-suc-le-zero, add-one, arith}
use Rattle.paper.specs.Map.{Map, count, link}
use Rattle.theory.specs.Local.{Local}
use Rattle.theory.proofs.Below.{less-cases}
use Rattle.number.specs.Count.{piece_count}
use Rattle.number.specs.First.{end_of, first}
use Rattle.number.proofs.First.{first_next}
use Rattle.number.proofs.Target.{over-self, targets, pieces-alike}
use Rattle.kernel.specs.Link.{alpha}
use Rattle.base.specs.Base.{base, Bases}
use Rattle.over.specs.Block.{Alike, Joinable, Joined}
use Rattle.visit.specs.Block.{Linked, Own, Ways}
use Rattle.sweep.specs.Drawn.{Drawn, Paired, OverAt}
use Rattle.visit.specs.Stead.{Stead}
use Rattle.sweep.specs.Level.{Past, Before, Filed, Bounded}
use Rattle.visit.proofs.Blocks.{alike, joinable, joined-read}
use Rattle.sweep.proofs.Drawing.{drawn-over, drawn-same}
use Rattle.visit.proofs.Visiting.{stead-kept}

-- ---- where they lead
module _ {M : Map} {m n : ℕ} {links : List ℕ} {places spans : List ℤ} {w : List ℕ} {op₀ : List ℤ} {ol₀ : List ℕ} {room : ℕ}
    (S : Stead M m n links places spans w op₀ ol₀ room) where
  abbrev L : Local M
  L = S.plan.valid

  plan-darts : count M ≡ n
  plan-darts = S.plan.holds.darts

  over-at : (e k : ℕ) {ol ol' : List ℕ} → e < n → Ways M (suc M.dim) e k (link M M.dim e) k ol ol' → Own M ol e k (suc M.dim) → k < M.dim
      → Linked M ol' e k (suc M.dim)
  over-at e k h D o l j s g = ⊎_elim
      (λ f. (D.met j f.0 s g f.1 f.2).0 ∙ sym f.3)
      (λ f. D.own_missed j s g f.0 ∙ o j s g ∙ sym f.1)
      ((targets M L e k j s (rw plan-darts h) (omega arith) g).over l)

  near : (e : ℕ) → e < n → link M M.dim e < n
  near e h = subst (λ (c : ℕ). link M M.dim e < c) plan-darts (L.within M.dim e (rw plan-darts h) (omega arith))

  back : (e : ℕ) → e < n → link M M.dim (link M M.dim e) ≡ e
  back e h = L.undo M.dim e (rw plan-darts h) (omega arith)

turned : {M : Map} {a d k e l : ℕ} {ol ol' : List ℕ} → Ways M a d k e l ol ol' → Ways M a e l d k ol ol'
turned D = record {
  met = λ j i s hj hi q. let r = D.met i j s hi hj (sym q) in (r.1, r.0);
  own_missed = D.other_missed;
  other_missed = D.own_missed;
  rest = λ q b l o. D.rest q b l (λ p. ((o p).1, (o p).0));
}

-- ---- a dart and its neighbour
module _ {M : Map} {m n k h d : ℕ} {links : List ℕ} {places spans : List ℤ} {w : List ℕ} {op : List ℤ} {ol : List ℕ} {room : ℕ}
    (S : Stead M m n links places spans w op ol room) (A : Bounded M m n k h d w op ol) where
  pub bound-bases : Bases w n
  bound-bases = record { few = S.plan.few; long = S.work }

  module _ (e : ℕ) (he : e < n) where
    next_row : base w n (1 - h) e ≡ base w n h e + piece_count M e k * 2
    next_row =
        let a = A.own e he in
        let b = A.next e he in
        let c = first_next M e k in
        omega arith

    pub bound-rows : base w n h e ≤ base w n (1 - h) e
    bound-rows = let a = next_row in omega arith

    bound-count : {c : ℕ} → c ≡ (base w n (1 - h) e - base w n h e) / 2 → c ≡ piece_count M e k
    bound-count p = let a = next_row in omega arith

  low : k ≤ m
  low = let a = A.level in omega arith

  dims : M.dim ≡ m
  dims = S.plan.holds.dims

  dart : (x : ℕ) → Paired M d x → x < n
  dart x p = let a = A.dart in let b = p.0.0 in omega arith

  -- the neighbour of a dart that leads to d is that of d
  mate : (x : ℕ) → Paired M d x → link M M.dim x ≡ d → x ≡ link M M.dim d
  mate x p q = sym (back S x (dart x p)) ∙ ap (link M M.dim) q

  -- a dart without rows has none to link, and its neighbour nothing to be linked with
  pub bound-bare : base w n h d ≡ base w n (1 - h) d → OverAt M d k ol ol
  bound-bare p = record {
    right = λ x r. over-at S x k {ol = ol} {ol' = ol} (dart x r)
        (record {
          met = λ j i s hj hi _. absurd (⊎_elim (λ q. none j (subst (λ (x : ℕ). j < piece_count M x k) q hj)) (λ q. none i (subst (λ (x : ℕ). i < piece_count M x k) q hi)) r.1);
          own_missed = λ _ _ _ _. refl;
          other_missed = λ _ _ _ _. refl;
          rest = λ _ _ _ _. refl;
        })
        (A.free x r);
    same = λ _ _ _ _. refl;
  }
    where
      none : (j : ℕ) → j < piece_count M d k → ⊥
      none j l = let a = next_row d A.dart in omega arith

  -- the neighbour
  module _ {e : ℕ} (ee : e ≡ alpha links m d) where
    neighbour : e ≡ link M M.dim d
    neighbour = ee ∙ sym (S.plan.holds.links m d A.dart (omega arith)) ∙ ap (λ (i : ℕ). link M i d) (sym dims)

    pub bound-near : e < n
    bound-near = subst (λ (x : ℕ). x < n) (sym neighbour) (near S d A.dart)

    -- where it is no lower, the pair has its turn with it, or d is its own neighbour and has these links already
    pub bound-self : d ≤ e → OverAt M d k ol ol
    bound-self g = record {
      right = λ x p l j i hj. A.free x p j i hj ∙ sym (over-self M S.plan.valid x k j i (rw S.plan.holds.darts (dart x p)) (omega arith) hj l (self x p));
      same = λ _ _ _ _. refl;
    }
      where
        self : (x : ℕ) → Paired M d x → link M M.dim x ≡ x
        self x p =
            let a = p.0.0 in
            let b = p.0.1 in
            let c = neighbour in
            ⊎_elim (λ q. let z : link M M.dim x ≡ link M M.dim d = ap (link M M.dim) q in omega arith) (λ q. let z = mate x p q in omega arith) p.1

    module _ {x y c b : ℕ} (le : e < d) (ex : x ≡ base w n h d) (ey : y ≡ base w n h e)
        (ec : c ≡ (base w n (1 - h) d - base w n h d) / 2) (eb : b ≡ (base w n (1 - h) e - base w n h e) / 2) where
      x-first : x ≡ first M d k
      x-first = ex ∙ A.own d A.dart

      y-first : y ≡ first M e k
      y-first = ey ∙ A.own e bound-near

      pub bound-joins : Joinable op m ol (m + 1) x c y b
      bound-joins =
          joinable S op d k e k A.dart low bound-near low (A.placed d A.dart) (A.placed e bound-near) x c y b
          x-first (bound-count d A.dart ec) y-first (bound-count e bound-near eb)
          (λ p. let q = p.0 in omega arith) (m + 1) ol (let a = S.dims in omega arith) S.lifted_places S.lifted_links

      pub bound-alike : Alike op m x c y b
      bound-alike =
          let z = dims in
          let g = A.level in
          alike S op d k e k A.dart low bound-near low (A.placed d A.dart) (A.placed e bound-near) x c y b
          x-first (bound-count d A.dart ec) y-first (bound-count e bound-near eb)
          (subst
          (λ (e : ℕ). (j i : ℕ) (s : Bool) → j < piece_count M d k → i < piece_count M e k → end_of M d k j s ≡ end_of M e k i s → end_of M d k j (not s) ≡ end_of M e k i (not s))
          (sym neighbour)
          (pieces-alike M S.plan.valid d k M.dim (rw S.plan.holds.darts A.dart) (omega arith) (λ q. omega arith)))

      pub bound-over : {ol' : List ℕ} → Joined op m (m + 1) x c y b ol ol' → OverAt M d k ol ol'
      bound-over {ol'} C = record { right = λ x p. over-at S x k (dart x p) (both x p) (A.free x p); same = λ q b l o. D.rest q b l (λ r. (o r d own, o r e other)) }
        where
          own : Paired M d d
          own = let a = neighbour in ((omega arith, omega arith), inl refl)

          other : Paired M d e
          other = let a = ap (link M M.dim) neighbour ∙ back S d A.dart in ((omega arith, omega arith), inr a)

          D : Ways M (suc M.dim) d k e k ol ol'
          D = subst (λ (a : ℕ). Ways M a d k e k ol ol') (add-one m ∙ ap suc (sym dims))
              (joined-read S op d k e k A.dart low bound-near low (A.placed d A.dart) (A.placed e bound-near) x c y b
              x-first (bound-count d A.dart ec) y-first (bound-count e bound-near eb) (m + 1) C)

          both : (x : ℕ) → Paired M d x → Ways M (suc M.dim) x k (link M M.dim x) k ol ol'
          both x p = ⊎_elim
              (λ q. subst₂ (λ (x e : ℕ). Ways M (suc M.dim) x k e k ol ol') (sym q) (neighbour ∙ ap (link M M.dim) (sym q)) D)
              (λ q. subst₂ (λ (x e : ℕ). Ways M (suc M.dim) x k e k ol ol') (neighbour ∙ sym (mate x p q)) (sym q) (turned D))
              p.1

-- ---- every dart
pub bounds-top : {M : Map} {m n k h : ℕ} {links : List ℕ} {places spans : List ℤ} {w : List ℕ} {op : List ℤ} {ol : List ℕ} {room : ℕ}
    → Stead M m n links places spans w op ol room → k ≡ m → Filed M n k h w op ol → Drawn M (Past n (suc k)) (Past n (suc k)) op ol
bounds-top {n = n} {k = k} S e F =
    let B = F.drawn in
    let z = S.plan.holds.dims in
    record {
      within = B.within;
      sub = λ d l u. u;
      placed = B.placed;
      inner = B.inner;
      touched = B.touched;
      joined = B.joined;
      own = λ d l b no. B.own d l b (λ (u : Past n k d l). no (u.0, let a = u.1 in omega arith));
      over = λ d l u h. B.over d l (u.0, omega arith) h;
    }

pub record Bounding (M : Map) (n k : ℕ) (op : List ℤ) (ol₀ ol : List ℕ) (d : ℕ) : Type 0 where
  pub at : d ≤ n
  pub long : length ol ≡ length ol₀
  pub drawn : Drawn M (Past n (suc k)) (Before M n k d) op ol

module _ {M : Map} {m n k h : ℕ} {links : List ℕ} {places spans : List ℤ} {w : List ℕ} {op : List ℤ} {ol₀ : List ℕ} {room : ℕ}
    (S : Stead M m n links places spans w op ol₀ room) (B : (k < m) × (h ≤ 1)) (F : Filed M n k h w op ol₀) where
  pub bounds-none : Bounding M n k op ol₀ ol₀ 0
  bounds-none = record {
    at = omega arith;
    long = refl;
    drawn = drawn-same M (Past n (suc k)) (Before M n k 0) (λ e l u. u) (λ e l u. u) (λ e l u. (u.0, inl u.1))
        (λ e l u. (u.0, ⊎_elim (λ a. a) (λ a. absurd (not-suc-le-zero a.1.0)) u.1)) F.drawn;
  }

  module _ {ol : List ℕ} {d : ℕ} (I : Bounding M n k op ol₀ ol d) where
    pub bounds-stead : Stead M m n links places spans w op ol room
    bounds-stead = stead-kept refl refl I.long S

    pub bounds-done : n ≤ d → Drawn M (Past n (suc k)) (Past n (suc k)) op ol
    bounds-done h = drawn-same M (Past n (suc k)) (Past n (suc k)) (λ e l u. u) (λ e l u. u)
        (λ e l u. (u.0, ⊎_elim (λ a. omega arith) (λ a. let b = a.0 in omega arith) u.1))
        (λ e l u. (u.0, ⊎_elim (λ (p : l ≡ k). let a = u.0 in let b = near S e u.0 in inr (p, (omega arith, omega arith))) (λ a. inl a) (less-cases u.1))) I.drawn

    module _ (dn : d < n) where
      here : (x : ℕ) → Paired M d x → Past n (suc k) x k
      here x p = let a = p.0.0 in (omega arith, omega arith)

      out : (x : ℕ) → Paired M d x → Before M n k d x k → ⊥
      out x p u = ⊎_elim (λ a. omega arith) (λ a. let b = a.1.0 in let c = a.1.1 in ⊎_elim (λ q. omega arith) (λ q. omega arith) p.1) u.1

      level : k < M.dim
      level = let a = S.plan.holds.dims in let b = B.0 in omega arith

      pub bounds-at : Bounded M m n k h d w op ol
      bounds-at = record {
        dart = dn;
        level = B.0;
        either = B.1;
        own = F.own;
        next = F.next;
        placed = λ e l. I.drawn.placed e k (l, omega arith);
        free = λ x p. I.drawn.own x k (here x p) (out x p) level;
      }

      pub bounds-more : {ol' : List ℕ} → length ol' ≡ length ol → OverAt M d k ol ol' → Bounding M n k op ol₀ ol' (d + 1)
      bounds-more q O = record {
        at = omega arith;
        long = q ∙ I.long;
        drawn = drawn-over M (let a = S.dims in let b = S.plan.holds.dims in omega arith) (Before M n k (d + 1)) I.drawn O here level
            (λ e l u. (u.0, ⊎_elim (λ a. inl a) (λ a. let b = a.1.0 in let c = a.1.1 in inr (a.0, (omega arith, omega arith))) u.1))
            (λ x p. let a = p.0.0 in let b = p.0.1 in (omega arith, inr (refl, (omega arith, omega arith))))
            (λ e l u. ⊎_elim
            (λ a. inl (u.0, inl a))
            (λ a.
            let f = a.1.0 in
            let g = a.1.1 in
            ⊎_elim
            (λ (p : e ≡ d). inr (((omega arith, omega arith), inl p), a.0))
            (λ i. ⊎_elim
            (λ (p : link M M.dim e ≡ d). inr (((omega arith, omega arith), inr p), a.0))
            (λ j. inl (u.0, inr (a.0, (i, j))))
            (less-cases (omega arith)))
            (less-cases (omega arith)))
            u.1)
            out;
      }
