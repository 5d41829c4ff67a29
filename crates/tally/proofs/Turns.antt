-- Laws of the count at a turn of the sweep over the cells of a level.
--     plan-length              the number of lifted darts
--     tally-..                 what is counted of a dart, level by level
--     upto-sum                 bases on the way add up to no more than all
--     turn-look                what a turn looks at
--     turn-counted, turn-fresh a turn that counts nothing, and one that does
--     pieces_more              what it gives, by the pieces that it counts
--     countable, wide-cell, new-cell    one that finds a cell: with too many ends, or counted
use Rattle.std.proofs.Common.{◌≡◌, ℕ, suc, ◌+◌, ◌-◌, ◌*◌, ◌<◌, ◌≤◌, true, false, ◌||◌, eqb, List, length, get_or, ℤ, sym, refl, ap, ◌∙◌, subst, inl, inr, ⊎_elim, le_refl, arith, eqb-true}
use borrow.Author.Tests.{eqb-false}
use Rattle.paper.specs.Below.{sum_below, join_of}
use Rattle.paper.specs.Map.{Map, count}
use Rattle.paper.specs.Cell.{Cell}
use Rattle.paper.specs.Span.{ends_of}
use Rattle.paper.specs.Table.{row_at}
use Rattle.paper.specs.Lift.{lifted_darts}
use Rattle.theory.specs.Local.{Local}
use Rattle.theory.proofs.Bool.{decided, or_case, or_off, less-or}
use Rattle.theory.proofs.Below.{less-cases}
use Rattle.hold.specs.Hold.{Reads}
use Rattle.orbit.specs.Sparse.{queue, Sparse, In, is_in}
use Rattle.orbit.proofs.Sparse.{one_index, fits, in-yes, in-no}
use Rattle.ends.specs.Key.{ends_at}
use Rattle.ends.specs.Join.{Held}
use Rattle.ends.specs.Gather.{darts, row_ends}
use Rattle.ends.proofs.Holding.{held_fits, held-over}
use Rattle.walk.proofs.Holding.{walkable}
use Rattle.number.specs.Count.{piece_count, below}
use Rattle.number.specs.Own.{bare}
use Rattle.number.proofs.Sum.{sum_same, sum-le, sum_more, sum-zero}
use Rattle.number.proofs.Count.{lifted-length}
use Rattle.number.proofs.Own.{bare-count, count-bare}
use Rattle.base.specs.Base.{base, Bases}
use Rattle.census.specs.Cell.{pieces_of, sum_of, counted, Countable, Counted}
use Rattle.tally.specs.Level.{front, Sound, Whole, Queued, tally, Upto, Turn, Fresh, Stepped}
use Rattle.census.proofs.Cells.{counted-front, counted-out, counted-sum, counted-in}
use Rattle.tally.proofs.Found as turn

-- ---- the lifted darts of a plan
pub plan-length : {M : Map} {m n : ℕ} {ls : List ℕ} {s : List ℤ} → Reads M m n ls s → 2 * sum_below n (below M (suc m)) ≡ length (lifted_darts M)
plan-length {M} P = (λ i. 2 * sum_below (sym P.holds.darts i) (below M (suc (sym P.holds.dims i)))) ∙ sym (lifted-length M P.valid)

-- ---- what is counted of a dart
pub tally-next : (M : Map) (k e : ℕ) → tally M (suc k) e ≡ tally M k e + piece_count M e k
unfolding tally sum_below
tally-next M k e = omega arith

pub tally-all : (M : Map) (m k e : ℕ) → M.dim ≡ m → suc k ≡ m → tally M k e ≡ below M (suc m) e
unfolding tally sum_below
tally-all M m k e p q =
    let z : M.dim - 1 ≡ k = omega arith in
    (λ i. piece_count M e ((p ∙ sym q) i) + (piece_count M e (z i) + below M k e)) ∙ ap (λ (x : ℕ). below M (suc x) e) q

pub tally-le : (M : Map) (m k e : ℕ) → M.dim ≡ m → suc k ≤ m → tally M k e ≤ below M (suc m) e
unfolding tally
tally-le M m k e p h = let a = tally-all M m (m - 1) e p (omega arith) in let b = sum_more k (m - 1) (piece_count M e) (omega arith) in omega arith

tally-bare : (M : Map) (k e : ℕ) → bare M e ≡ true → tally M k e ≡ 0
unfolding tally
tally-bare M k e b = let a = bare-count M e M.dim b in let d = bare-count M e (M.dim - 1) b in let c = sum-zero k (piece_count M e) (λ j _. bare-count M e j b) in omega arith

bare-tally : (M : Map) → Local M → (k e : ℕ) → e < count M → tally M k e ≡ 0 → bare M e ≡ true
unfolding tally
bare-tally M L k e h z = count-bare M L e M.dim h (le_refl M.dim) (omega arith)

-- ---- a plan that is read from tables
module _ {M : Map} {m n : ℕ} {ls : List ℕ} {s : List ℤ} (P : Reads M m n ls s) where
  pub plan-dart : {e : ℕ} → e < n → e < count M
  plan-dart {e} h = subst (λ (x : ℕ). e < x) (sym P.holds.darts) h

  -- bases on the way have no more than all levels
  upto-sum : {k t d : ℕ} {w : List ℕ} → suc k < m → Upto M k n w t d → Sparse n n (front n w) t → 2 * sum_below n (base w n 0) ≤ length (lifted_darts M)
  upto-sum {k} {t} {d} {w} km U X =
      let a = sum-le n (base w n 0) (below M (suc m)) (λ e h. ⊎_elim
      (λ l. later e (U.done e h (inl l)))
      (λ l. ⊎_elim
      (λ y. later e (U.done e h (inr (in-yes n n (front n w) t X e y))))
      (λ y. let p = U.left e h l (in-no n n (front n w) t X e y) in let q = tally-le M m k e P.holds.dims (omega arith) in omega arith)
      (decided (is_in n (front n w) t e)))
      (less-or e d)) in
      let b = plan-length P in
      omega arith
    where
      later : (e : ℕ) → base w n 0 e ≡ tally M (suc k) e → base w n 0 e ≤ below M (suc m) e
      later e p = let q = tally-le M m (suc k) e P.holds.dims km in omega arith

-- ---- a turn
module _ {m n k d t room total : ℕ} {ls : List ℕ} {s : List ℤ} {w₀ v : List ℕ} (A : Turn m n k ls s w₀ v d t total room) where
  no : {a b : ℕ} → a ≤ b → b < a → ⊥
  no l h = omega arith

  set₀ : Sparse n n (front n w₀) t
  set₀ = A.stage.whole.set

  B₀ : Bases w₀ n
  B₀ = record { few = A.sound.ready.darts; long = A.sound.work }

  -- a dart whose base is 0 has no spans
  zero-bare : {M : Map} → Reads M m n ls s → Upto M k n w₀ t d → base w₀ n 0 d ≡ 0 → bare M d ≡ true
  zero-bare {M} P U z = ⊎_elim
      (λ y. bare-tally M P.valid (suc k) d (plan-dart P A.dart) (sym (U.done d A.dart (inr (in-yes n n (front n w₀) t set₀ d y))) ∙ z))
      (λ y. bare-tally M P.valid k d (plan-dart P A.dart) (sym (U.left d A.dart (le_refl d) (in-no n n (front n w₀) t set₀ d y)) ∙ z))
      (decided (is_in n (front n w₀) t d))

  pub turn-counted : (eqb (base w₀ n 0 d) 0 || is_in n w₀ t d) ≡ true → Stepped m n k ls s d w₀ t room w₀ t total
  turn-counted h = record {
    stage = λ l. A.stage;
    upto = λ M P U l. ⊎_elim
        (λ z. more P U (zero-bare P U (eqb-true (base w₀ n 0 d) 0 z)))
        (λ y. within U (turn.front-in n t w₀ set₀ d y))
        (or_case (eqb (base w₀ n 0 d) 0) (is_in n w₀ t d) h);
    over = λ l. absurd (no A.stage.fits l);
    much = λ M P U l. absurd (no A.stage.fits l);
  }
    where
      -- it is in the queue
      within : {M : Map} → Upto M k n w₀ t d → In n (front n w₀) t d → Upto M k n w₀ t (d + 1)
      within U i = record {
        done = λ e l x. U.done e l (⊎_elim
            (λ y. ⊎_elim (λ (p : e ≡ d). inr (subst (λ (a : ℕ). In n (front n w₀) t a) (sym p) i)) (λ z. inl z) (less-cases (let a = y in omega arith)))
            (λ y. inr y) x);
        left = λ e l x. U.left e l (omega arith);
        passed = λ e x. ⊎_elim (λ (p : e ≡ d). inl (subst (λ (a : ℕ). In n (front n w₀) t a) (sym p) i)) (λ z. U.passed e z) (less-cases (let a = x in omega arith));
      }

      -- it has no spans, and so no pieces
      more : {M : Map} → Reads M m n ls s → Upto M k n w₀ t d → bare M d ≡ true → Upto M k n w₀ t (d + 1)
      more {M} P U b = record {
        done = λ e l x. ⊎_elim
            (λ y. ⊎_elim (λ (p : e ≡ d). subst (λ (a : ℕ). base w₀ n 0 a ≡ tally M (suc k) a) (sym p) here) (λ z. U.done e l (inl z)) (less-cases (let a = y in omega arith)))
            (λ y. U.done e l (inr y)) x;
        left = λ e l x. U.left e l (omega arith);
        passed = λ e x. ⊎_elim (λ (p : e ≡ d). inr (subst (λ (a : ℕ). bare M a ≡ true) (sym p) b)) (λ z. U.passed e z) (less-cases (let a = x in omega arith));
      }
        where
          here : base w₀ n 0 d ≡ tally M (suc k) d
          here = ⊎_elim
              (λ y. U.done d A.dart (inr (in-yes n n (front n w₀) t set₀ d y)))
              (λ y. U.left d A.dart (le_refl d) (in-no n n (front n w₀) t set₀ d y) ∙ tally-bare M k d b ∙ sym (tally-bare M (suc k) d b))
              (decided (is_in n (front n w₀) t d))

  pub turn-fresh : (eqb (base w₀ n 0 d) 0 || is_in n w₀ t d) ≡ false → Fresh n w₀ d t
  turn-fresh h =
      let a = or_off (eqb (base w₀ n 0 d) 0) (is_in n w₀ t d) h in
      record { out = turn.front_out n t w₀ set₀ d a.1; spans = eqb-false (base w₀ n 0 d) 0 a.0 }

  pub turn-look : Bases w₀ n × ((d < n) × (t ≤ n))
  turn-look = (B₀, (A.dart, fits n n (front n w₀) t set₀))

  -- ---- so many pieces more: those that were counted are in w₁, whose queue ends at t₁
  module _ (more : ℕ) (w₁ : List ℕ) (t₁ : ℕ) (whole : Whole m n k ls w₁ t₁) (sum : sum_below n (base w₁ n 0) ≡ sum_below n (base w₀ n 0) + more)
      (upto : (M : Map) → Reads M m n ls s → Upto M k n w₀ t d → Upto M k n w₁ t₁ (d + 1)) where
    pieces_more : {w' : List ℕ} {r : ℕ} → (total + 2 * more ≤ room → r ≡ total + 2 * more) → (total + 2 * more ≤ room → w' ≡ w₁) → (room < total + 2 * more → r ≡ room + 1)
        → Stepped m n k ls s d w₀ t room w' t₁ r
    pieces_more {w'} {r} is made over = ⊎_elim big small (less-or room (total + 2 * more))
      where
        small : total + 2 * more ≤ room → Stepped m n k ls s d w₀ t room w' t₁ r
        small l =
            let e = is l in
            let y = made l in
            let f : r ≤ room = omega arith in
            record {
              stage = λ _. record {
                whole = turn.whole-front (ap (front n) y) whole;
                adds = let a = A.stage.adds in let b = sum in subst (λ (z : List ℕ). r ≡ 2 * sum_below n (base z n 0)) (sym y) (omega arith);
                fits = f;
              };
              upto = λ M P U _. subst (λ (z : List ℕ). Upto M k n z t₁ (d + 1)) (sym y) (upto M P U);
              over = λ g. absurd (no f g);
              much = λ M P U g. absurd (no f g);
            }

        big : room < total + 2 * more → Stepped m n k ls s d w₀ t room w' t₁ r
        big l =
            let e = over l in
            let f : room < r = omega arith in
            record {
              stage = λ g. absurd (no g f);
              upto = λ M P U g. absurd (no g f);
              over = λ _. e;
              much = λ M P U _.
                  let a = A.stage.adds in
                  let b = sum in
                  let g = upto-sum P A.level (upto M P U) whole.set in
                  omega arith;
            }

  -- ---- a flood, and then the count of what it found
  module _ (F : Fresh n w₀ d t) {w : List ℕ} {t' : ℕ} (kept : length w ≡ length w₀) (T : Queued m n k ls d w₀ t w t') where
    S₀ : Sound m n ls s w₀ v room
    S₀ = A.sound

    dn : d < n
    dn = A.dart

    km : k ≤ m
    km = let a = A.level in omega arith

    -- what the flood leaves
    S : Sound m n ls s w v room
    S = turn.S S₀ dn km kept T

    B : Bases w n
    B = record { few = S.ready.darts; long = S.work }

    bases : (e : ℕ) → base w n 0 e ≡ base w₀ n 0 e
    bases = turn.bases S₀ dn km kept T 0

    X : Sparse n n (front n w) t'
    X = turn.X S₀ dn km kept T

    few : t' ≤ n
    few = turn.few S₀ dn km kept T

    pub turn-fits : (t ≤ n) × (t' ≤ n)
    turn-fits = turn.queue-fits S₀ dn km kept T

    more : t ≤ t'
    more = turn.more S₀ dn km kept T

    at-queue : (q : ℕ) → q < t' → queue n (front n w) q ≡ queue n w q
    at-queue = turn.at-queue S₀ dn km kept T

    dart-below : (q : ℕ) → n + t ≤ q → q < n + t' → get_or w q 0 < n
    dart-below = turn.dart-below S₀ dn km kept T

    adds : total ≡ 2 * sum_below n (base w n 0)
    adds = A.stage.adds ∙ ap (λ (k : ℕ). 2 * k) (sum_same n (base w₀ n 0) (base w n 0) (λ e h. sym (bases e)))

    forth : (e : ℕ) → In n (front n w₀) t e → In n (front n w) t e
    forth e i = (i.0, i.1, T.found.grown.same i.0 i.1 ∙ i.2)

    back-old : (e : ℕ) → In n (front n w) t e → In n (front n w₀) t e
    back-old e i = (i.0, i.1, sym (T.found.grown.same i.0 i.1) ∙ i.2)

    longer : (e : ℕ) → In n (front n w) t e → In n (front n w) t' e
    longer e i = let a = more in let b = i.1 in (i.0, omega arith, i.2)

    abbrev cell_darts : List ℕ
    cell_darts = darts w (n + t) (n + t')

    -- ---- its ends are gathered
    module _ {v' : List ℕ} {half ends' : ℕ} (E : Held (row_ends s cell_darts) v' half room ends') where
      pub wide-cell : room < ends' → Stepped m n k ls s d w₀ t room w t' (room + 1)
      wide-cell h = record {
        stage = λ l. absurd (past l);
        upto = λ M P U l. absurd (past l);
        over = λ _. refl;
        much = λ M P U _. turn.wide S₀ dn km kept T M P (held-over E h);
      }
        where
          past : room + 1 ≤ room → ⊥
          past l = omega arith

      module _ (long : length v' ≡ length v) (h : ends' ≤ room) where
        pub countable : Countable v' half ends' s w n (n + t) (n + t') total room
        countable =
            let a = more in
            let b = few in
            let l = S.long in
            record {
              bases = B;
              first = omega arith;
              order = omega arith;
              last = omega arith;
              darts = dart-below;
              walks = λ q a b.
                  walkable (ends_of (join_of cell_darts (λ e. row_at s e))) s v' half room ends' (get_or w q 0) E h S.few (omega arith)
                  (S.rows (get_or w q 0) (dart-below q a b)) (S.order (get_or w q 0) (dart-below q a b));
              adds = adds;
              fits = A.stage.fits;
              few = S.few;
            }

      -- ---- its pieces are added
      module _ (h : ends' ≤ room) where
        abbrev c : ℕ → ℕ
        c = pieces_of s (ends_at v' half ends')

        abbrev size : ℕ
        size = (n + t') - (n + t)

        abbrev all : List ℕ
        all = counted c n w (n + t) size

        found : (i : ℕ) → i < size → get_or w (n + t + i) 0 ≡ queue n (front n w) (t + i)
        found i l =
            let z : n + t + i ≡ n + (t + i) = omega arith in
            ap (λ (x : ℕ). get_or w x 0) z ∙ sym (at-queue (t + i) (omega arith))

        found_below : (i : ℕ) → i < size → get_or w (n + t + i) 0 < n
        found_below i l = dart-below (n + t + i) (omega arith) (omega arith)

        all-sum : sum_below n (base all n 0) ≡ sum_below n (base w n 0) + sum_of c w (n + t) size
        all-sum = counted-sum c n w (n + t) B size found_below

        all_more : sum_below n (base all n 0) ≡ sum_below n (base w₀ n 0) + sum_of c w (n + t) size
        all_more = all-sum ∙ ap (λ (x : ℕ). x + sum_of c w (n + t) size) (sum_same n (base w n 0) (base w₀ n 0) (λ e h. bases e))

        all-front : front n all ≡ front n w
        all-front = counted-front c n w (n + t) size

        -- a dart of the queue before
        apart : (q e : ℕ) → q < t → queue n (front n w) q ≡ e → (i : ℕ) → i < size → get_or w (n + t + i) 0 ≡ e → ⊥
        apart q e l p i k r =
            let a = more in
            let z = one_index n n (front n w) t' X q (t + i) (omega arith) (omega arith) (p ∙ sym r ∙ found i k) in
            omega arith

        -- a dart that is in no cell yet
        outside : (e : ℕ) → (In n (front n w) t' e → ⊥) → base all n 0 e ≡ base w₀ n 0 e
        outside e o = counted-out c n w (n + t) size e (λ i g p. o (t + i, omega arith, sym (found i g) ∙ p)) ∙ bases e

        module _ (M : Map) (P : Reads M m n ls s) (U : Upto M k n w₀ t d) where
          -- a dart of the cell has the levels below k: of those that were passed before, a bare one has no more
          before : (e : ℕ) → e < n → (In n (front n w₀) t e → ⊥) → base w₀ n 0 e ≡ tally M k e
          before e l o = ⊎_elim
              (λ a. ⊎_elim
              (λ i. absurd (o i))
              (λ b. U.done e l (inl a) ∙ tally-bare M (suc k) e b ∙ sym (tally-bare M k e b))
              (U.passed e a))
              (λ a. U.left e l a o)
              (less-or e d)

          counted-dart : (i : ℕ) → i < size → base all n 0 (get_or w (n + t + i) 0) ≡ tally M (suc k) (get_or w (n + t + i) 0)
          counted-dart i l =
              let e = get_or w (n + t + i) 0 in
              let z : n + t + i ≡ n + (t + i) = omega arith in
              let y : Cell M k d e = subst (λ (x : ℕ). Cell M k d (get_or w x 0)) (sym z) (turn.queue-cell S₀ dn km kept T M P (t + i) (omega arith) (omega arith)) in
              let a : base all n 0 e ≡ base w n 0 e + c e =
              counted-in c n w (n + t) B size i l found_below
              (λ a b g f p. let r = one_index n n (front n w) t' X (t + a) (t + b) (omega arith) (omega arith) (sym (found a g) ∙ p ∙ found b f) in omega arith) in
              let b : base w n 0 e ≡ tally M k e = bases e ∙ before e (found_below i l) (λ j. let x = forth e j in apart x.0 e x.1 x.2 i l refl) in
              let p : c e ≡ piece_count M e k = turn.cell-pieces S₀ dn km kept T M P (ends_at v' half ends') (held_fits E h).1 e y in
              let q = tally-next M k e in
              omega arith

          there : (e : ℕ) → e < n → In n (front n w) t' e → base all n 0 e ≡ tally M (suc k) e
          there e el i = ⊎_elim
              (λ l. counted-out c n w (n + t) size e (apart i.0 e l i.2) ∙ bases e ∙ U.done e el (inr (back-old e (i.0, l, i.2))))
              (λ l.
              let b = i.1 in
              let z : t + (i.0 - t) ≡ i.0 = omega arith in
              let p : get_or w (n + t + (i.0 - t)) 0 ≡ e = found (i.0 - t) (omega arith) ∙ ap (queue n (front n w)) z ∙ i.2 in
              subst (λ (x : ℕ). base all n 0 x ≡ tally M (suc k) x) p (counted-dart (i.0 - t) (omega arith)))
              (less-or i.0 t)

          -- d is the first of its cell
          own-cell : In n (front n w) t' d
          own-cell = (t, T.found.first.0, T.found.first.1)

          upto_new : Upto M k n all t' (d + 1)
          upto_new = record {
            done = λ e l x. ⊎_elim
                (λ y. there e l (in-yes n n (front n w) t' X e y))
                (λ y.
                let o = in-no n n (front n w) t' X e y in
                outside e o ∙ U.done e l (⊎_elim
                (λ z. ⊎_elim (λ (p : e ≡ d). absurd (o (subst (λ (a : ℕ). In n (front n w) t' a) (sym p) own-cell))) (λ a. inl a) (less-cases (let a = z in omega arith)))
                (λ z. absurd (o (subst (λ (a : List ℕ). In n a t' e) all-front z))) x))
                (decided (is_in n (front n w) t' e));
            left = λ e l x o.
                let o' : In n (front n w) t' e → ⊥ = λ i. o (subst (λ (y : List ℕ). In n y t' e) (sym all-front) i) in
                outside e o' ∙ U.left e l (omega arith) (λ i. o' (longer e (forth e i)));
            passed = λ e x. ⊎_elim
                (λ (p : e ≡ d). inl (subst (λ (y : List ℕ). In n y t' e) (sym all-front) (subst (λ (a : ℕ). In n (front n w) t' a) (sym p) own-cell)))
                (λ z. ⊎_elim (λ i. inl (subst (λ (y : List ℕ). In n y t' e) (sym all-front) (longer e (forth e i)))) (λ i. inr i) (U.passed e z))
                (less-cases (let a = x in omega arith));
          }

        pub new-cell : {w' : List ℕ} {r : ℕ} → Counted c n w (n + t) (n + t') total room w' r → Stepped m n k ls s d w₀ t room w' t' r
        new-cell C = pieces_more (sum_of c w (n + t) size) all t' (turn.whole-front all-front (record { set = X; shut = T.found.shut })) all_more upto_new C.sum C.made C.over

-- past the room nothing is said of where the queue ends
pub past-room : {m n k : ℕ} {ls : List ℕ} {s : List ℤ} {d : ℕ} {w : List ℕ} {t room : ℕ} {w' : List ℕ} {t' r : ℕ}
    → Stepped m n k ls s d w t room w' t' r → room < r → Stepped m n k ls s d w t room w' 0 r
past-room S f = record {
  stage = λ l. let z : ⊥ = omega arith in absurd z;
  upto = λ M P U l. let z : ⊥ = omega arith in absurd z;
  over = S.over;
  much = S.much;
}
