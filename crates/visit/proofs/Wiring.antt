-- The links of a block: those that follow the plan's links, and those that walks by height make.
--     count_same       along an axis below the plan's dimension, other than k, there are as many pieces at level k
--     fillable         a block may be filled
--     wired-low        the links of a block of level 0, filled and then joined to itself
--     wired-high       those of a block of a level above it, joined to the level below too
use Rattle.std.proofs.Common.{◌≡◌, ℕ, suc, ◌+◌, ◌-◌, ◌*◌, ◌<◌, ◌≤◌, Bool, not, ◌⊎◌, List, length, ℤ, sym, ap, ◌∙◌, subst, inl, inr, ⊎_elim, arith}
use Rattle.paper.specs.Width.{link_width}
use Rattle.paper.specs.Map.{Map, Span, count, link}
use Rattle.theory.specs.Local.{Local}
use Rattle.theory.proofs.Bool.{eq-or, lt-or, less-or}
use Rattle.kernel.specs.Link.{alpha}
use Rattle.number.specs.Count.{piece_count}
use Rattle.number.specs.First.{first, side, number_of}
use Rattle.number.specs.Targets.{target_of, Reaches, Missing, Targets}
use Rattle.number.proofs.First.{side-small, block_apart}
use Rattle.number.proofs.Target.{pieces-same, targets}
use Rattle.base.specs.Base.{base}
use Rattle.over.specs.Over.{link_of}
use Rattle.follow.specs.Fill.{start_of, Fillable, Filled}
use Rattle.follow.proofs.Starts.{start-low, start-high, start-own}
use Rattle.visit.specs.Block.{Outside, Linked, Own, Touched, Cross, Ways, Wired}
use Rattle.visit.specs.Stead.{Stead}
use Rattle.visit.proofs.Blocks.{block_room}

pub count_same : (M : Map) → Local M → (d k i : ℕ) → d < count M → i < M.dim → (i ≡ k → ⊥) → piece_count M (link M i d) k ≡ piece_count M d k
unfolding piece_count
count_same M L d k i h a ne = ap (λ (P : List Span). length P) (pieces-same M L d k i h a ne)

module _ {M : Map} {m n : ℕ} {links : List ℕ} {places spans : List ℤ} {w : List ℕ} {op₀ : List ℤ} {ol₀ : List ℕ} {room : ℕ}
    (S : Stead M m n links places spans w op₀ ol₀ room) where
  abbrev L : Local M
  L = S.plan.valid

  dims : M.dim ≡ m
  dims = S.plan.holds.dims

  darts : count M ≡ n
  darts = S.plan.holds.darts

  -- a row of a block is none of the block at another level
  row_apart : (e k l j : ℕ) (s : Bool) → e < n → k ≤ m → l ≤ m → (k ≡ l → ⊥) → j < piece_count M e k → Outside M e l (number_of M e k j s)
  row_apart e k l j s h hk hl ne g =
      let b = side-small s in
      ⊎_elim (λ a. inl (omega arith)) (λ a. inr (omega arith))
      (block_apart M e k e l (rw darts h) (rw darts h) (rw dims hk) (rw dims hl) (λ p. ne p.1))

  module _ (k h e x c : ℕ) (he : e < n) (hk : k ≤ m) (hh : h ≤ 1) (own : (d : ℕ) → d < n → base w n h d ≡ first M d k)
      (ex : x ≡ first M e k) (ec : c ≡ piece_count M e k) where
    near : (i : ℕ) → i ≤ m → alpha links i e < n
    near i l =
        let a = S.plan.holds.links i e he l in
        let b = L.within i e (rw darts he) (rw dims l) in
        let d = darts in
        omega arith

    -- an axis is below the level; or its column starts at the block itself; or it is two above the level or more
    kinds : (i : ℕ) → (i < k) ⊎ (((k ≤ i) × ((i < k + 2) ⊎ (m < i))) ⊎ ((p : ℕ) × (suc k ≤ p) × (p < m) × (suc p ≡ i)))
    kinds i = ⊎_elim inl
        (λ a. inr (⊎_elim (λ b. inl (a, inl b)) (λ b. ⊎_elim (λ q. inl (a, inr q)) (λ q. inr (i - 1, omega arith, omega arith, omega arith)) (less-or m i)) (less-or i (k + 2))))
        (less-or i k)

    -- ---- where columns start
    at-near : (i : ℕ) → i ≤ m → base w n h (alpha links i e) ≡ first M (link M i e) k
    at-near i l = own (alpha links i e) (near i l) ∙ ap (λ (d : ℕ). first M d k) (sym (S.plan.holds.links i e he l))

    at_low : (i : ℕ) → i < k → start_of links w m n k h e x i ≡ first M (link M i e) k
    at_low i l = start-low links w m n k h e x i l ∙ at-near i (omega arith)

    at_high : (i : ℕ) → suc k ≤ i → i < m → start_of links w m n k h e x (suc i) ≡ first M (link M i e) k
    at_high i l g =
        let p : suc i - 1 ≡ i = omega arith in
        start-high links w m n k h e x (suc i) (omega arith) g ∙ ap (λ (q : ℕ). base w n h (alpha links q e)) p ∙ at-near i (omega arith)

    at_own : (i : ℕ) → k ≤ i → (i < k + 2) ⊎ (m < i) → start_of links w m n k h e x i ≡ first M e k
    at_own i l g = start-own links w m n k h e x i l g ∙ ex

    -- ---- filling
    near_fits : (i : ℕ) → i < m → (i ≡ k → ⊥) → first M (link M i e) k + c * 2 ≤ room
    near_fits i l ne =
        let d = darts in
        let a = L.within i e (rw darts he) (rw dims (omega arith)) in
        let b = block_room S (link M i e) k (omega arith) hk in
        let q = count_same M L e k i (rw darts he) (rw dims l) ne in
        omega arith

    starts_fit : (i : ℕ) → start_of links w m n k h e x i + c * 2 ≤ room
    starts_fit i = ⊎_elim
        (λ l. let a = near_fits i (omega arith) (λ p. omega arith) in rw (at_low i l) a)
        (⊎_elim
        (λ b. let a = block_room S e k he hk in rw (at_own i b.0 b.1, ec) a)
        (λ b. let a = near_fits b.0 b.2 (λ p. let q = b.1 in omega arith) in rw (← b.3) (rw (at_high b.0 b.1 b.2) a)))
        (kinds i)

    pub fillable : (ol : List ℕ) → room * link_width ≤ length ol → Fillable links w m n k h e ol x c
    fillable ol long =
        let a = block_room S e k he hk in
        let f = S.few in
        let g = S.dims in
        record {
          start = record {
            dart = he;
            half = hh;
            level = hk;
            dims = omega arith;
            links = S.links_long;
            bases = record { few = S.plan.few; long = S.work };
            near = near;
          };
          rows = omega arith;
          own = omega arith;
          starts = λ i _. let b = starts_fit i in omega arith;
        }

    -- ---- what filling and the walk to the block itself leave
    module _ {ol ol₁ ol₂ : List ℕ} (F : Filled links w m n k h e x c ol ol₁) (C : Cross M (suc k) e k ol₁ ol₂) where
      own_row : (j : ℕ) (s : Bool) → x + j * 2 + side s ≡ number_of M e k j s
      own_row j s = omega arith

      axes : (i : ℕ) → i ≤ suc m → i < link_width
      axes i l = let a = S.dims in omega arith

      filled_at : (i d j : ℕ) (s : Bool) → i < link_width → (i ≡ 0 → k ≡ 0 → ⊥) → start_of links w m n k h e x i ≡ first M d k → j < piece_count M e k
          → link_of ol₁ (number_of M e k j s) i ≡ number_of M d k j s
      filled_at i d j s l ne p g = (rw (own_row j s) at (F.at i j s l (rw ec g) ne)) ∙ ap (λ (y : ℕ). y + j * 2 + side s) p

      -- other axes than that of the walk
      left : (i q : ℕ) → i < link_width → (i ≡ suc k → ⊥) → link_of ol₂ q i ≡ link_of ol₁ q i
      left i q l ne = C.other q i l (λ p. absurd (ne p))

      T : (j : ℕ) (s : Bool) → j < piece_count M e k → Targets M e k j s
      T j s g = targets M L e k j s (rw darts he) (rw dims hk) g

      -- axes that follow the plan's
      follows : (i : ℕ) → i ≤ M.dim → (i ≡ suc k → ⊥) → (i ≡ k → ⊥) → Linked M ol₂ e k i
      follows i l ne nk j s g =
          let d = dims in
          let li = axes i (omega arith) in
          left i (number_of M e k j s) li ne ∙ ⊎_elim
          (λ a. filled_at i (link M i e) j s li (λ p q. omega arith) (at_low i a) g ∙ sym ((T j s g).low i a))
          (⊎_elim
          (λ b. absurd (⊎_elim (λ u. ⊎_elim (λ a. let f = b.0 in omega arith) (λ a. ne (omega arith)) (lt-or i k nk)) (λ u. omega arith) b.1))
          (λ b. subst (λ (i : ℕ). link_of ol₁ (number_of M e k j s) i ≡ target_of M e k i j s) b.3 (upper b.0 b.1 b.2)))
          (kinds i)
        where
          upper : (p : ℕ) → suc k ≤ p → p < m → link_of ol₁ (number_of M e k j s) (suc p) ≡ target_of M e k (suc p) j s
          upper p a b =
              filled_at (suc p) (link M p e) j s (axes (suc p) (omega arith)) (λ q r. omega arith) (at_high p a b) g ∙ sym ((T j s g).high p a (rw dims b))

      -- the walk itself
      touches : Touched M ol₂ e k
      touches = record {
        met = C.met;
        missed = λ j s g f. C.missed j s g f ∙ filled_at (suc k) e j s (axes (suc k) (omega arith)) (λ p q. omega arith) (at_own (suc k) (omega arith) (inl (omega arith))) g;
      }

      -- axes past the plan's
      stays : (i : ℕ) → M.dim < i → (i ≡ suc k → ⊥) → i < link_width → Own M ol₂ e k i
      stays i l ne li j s g =
          let d = dims in
          left i (number_of M e k j s) li ne ∙ filled_at i e j s li (λ p q. omega arith) (at_own i (omega arith) (inr (omega arith))) g

      alone : (q b : ℕ) → b < link_width → Outside M e k q → link_of ol₂ q b ≡ link_of ol q b
      alone q b l o = C.other q b l (λ _. o) ∙ F.other q b l (rw (ex, ec) o)

      pub wired-low : k ≡ 0 → Wired M e k ol ol₂
      wired-low z =
          let d = dims in
          record {
            inner = record {
              right = λ i l ne. ⊎_elim (λ (p : i ≡ k). joins i p) (follows i l ne) (eq-or i k);
              free = λ i l li. stays i (omega arith) (λ p. omega arith) li;
            };
            touched = touches;
            own = λ l. stays (suc M.dim) (omega arith) (λ p. omega arith) (axes (suc M.dim) (omega arith));
            joined = λ l p. absurd (omega arith);
            links_same = λ q b l o _. alone q b l o;
          }
        where
          joins : (i : ℕ) → i ≡ k → Linked M ol₂ e k i
          joins i p j s g =
              let z' : i ≡ 0 = omega arith in
              rw z' (left 0 (number_of M e k j s) (omega arith) (λ q. omega arith) ∙ (rw (own_row j s, own_row j (not s)) at (F.pair j s (rw ec g) z)) ∙ sym ((T j s g).pair z))

      -- ---- the level below
      module _ (l : ℕ) (p : suc l ≡ k) {ol₃ : List ℕ} (D : Ways M k e k e l ol₂ ol₃) where
        keeps : (i q : ℕ) → i < link_width → (i ≡ k → ⊥) → link_of ol₃ q i ≡ link_of ol₂ q i
        keeps i q li ne = D.rest q i li (λ r. absurd (ne r))

        falls : Linked M ol₃ e k k
        falls j s g = let f = (T j s g).down l p in (D.met j f.0 s g f.1 f.2).0 ∙ sym f.3

        climbs : Touched M ol e l → Linked M ol₃ e l k
        climbs t j s g =
            let d = dims in
            let u = subst (λ (k : ℕ). Reaches M e l k j s e k s ⊎ (Missing M e l j s e k s × Reaches M e l k j s e l (not s))) p
            ((targets M L e l j s (rw darts he) (omega arith) g).up (omega arith)) in
            let o = row_apart e l k j s he (omega arith) hk (λ q. omega arith) g in
            ⊎_elim
            (λ f. (D.met f.0 j s f.1 g (sym f.2)).1 ∙ sym f.3)
            (λ f. D.other_missed j s g f.0
            ∙ alone (number_of M e l j s) k (axes k (omega arith)) o
            ∙ ap (link_of ol (number_of M e l j s)) (sym p)
            ∙ t.met j f.1.0 s g f.1.1 f.1.2
            ∙ sym f.1.3)
            u

        pub wired-high : Touched M ol e l → Wired M e k ol ol₃
        wired-high t =
            let d = dims in
            record {
              inner = record {
                right = λ i r ne. ⊎_elim
                    (λ (q : i ≡ k). subst (λ (i : ℕ). Linked M ol₃ e k i) (sym q) falls)
                    (λ nk j s g. keeps i (number_of M e k j s) (axes i (omega arith)) nk ∙ follows i r ne nk j s g)
                    (eq-or i k);
                free = λ i r li. own-past i (omega arith) (λ q. omega arith) li;
              };
              touched = record {
                met = λ j i s g f q. onward j s ∙ touches.met j i s g f q;
                missed = λ j s g f. onward j s ∙ touches.missed j s g f;
              };
              own = λ r. own-past (suc M.dim) (omega arith) (λ q. omega arith) (axes (suc M.dim) (omega arith));
              joined = λ i q. let z : l ≡ i = omega arith in subst (λ (i : ℕ). Linked M ol₃ e i k) z (climbs t);
              links_same = λ q b lb o f. D.rest q b lb (λ r. (o, f l p r)) ∙ alone q b lb o;
            }
          where
            onward : (j : ℕ) (s : Bool) → link_of ol₃ (number_of M e k j s) (suc k) ≡ link_of ol₂ (number_of M e k j s) (suc k)
            onward j s = keeps (suc k) (number_of M e k j s) (axes (suc k) (omega arith)) (λ q. omega arith)

            own-past : (i : ℕ) → M.dim < i → (i ≡ suc k → ⊥) → i < link_width → Own M ol₃ e k i
            own-past i r ne li j s g =
                let d = dims in
                keeps i (number_of M e k j s) li (λ q. omega arith) ∙ stays i r ne li j s g
