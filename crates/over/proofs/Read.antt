-- What the walk over two stretches leaves, row by row and axis by axis.
--     feet-length, feet-at, feet-up     the heights of a stretch: how many, which, and that they ascend where each is below the next
--     unlike, feet-lt, feet-one     what is below is not equal; a row is below those that follow; no two have equal heights
--     Keeps, Sets              what is done for two rows leaves place n, or leaves z there
--     walk-length, walk_kept, walk-done     the walk on lists
--     Equal, equal             two rows of the stretches with equal heights
--     Written                  what was done for all rows that R relates
--     write-more, write_same, write_then     one more pair, the same pairs, and others after them
--     walked                   the reading of the walk
use Rattle.std.proofs.Common.{◌≡◌, ℕ, zero, suc, ◌+◌, ◌*◌, ◌<◌, Bool, true, false, ◌⊎◌, List, [], ◌∷◌, length, get_or, ℤ, pos, sym, refl, ap, ◌∙◌, subst, ⊎_elim, suc-le-suc, le_of_suc-le-suc, not-suc-le-zero, arith}
use lib.Signed.{lt_z}
use Rattle.paper.specs.Map.{eq_z}
use Rattle.paper.proofs.Same.{same-ℤ}
use Rattle.theory.specs.Ascending.{Ascends}
use Rattle.theory.proofs.Bool.{decided, clash, eq-T, eq-or, lt-or}
use Rattle.theory.proofs.Member.{nth_in}
use Rattle.theory.proofs.Order.{Z-order, above-mem, above-trans}
use Rattle.over.specs.Over.{height_at, feet_from, Put, walk_one, walk_all}
use Rattle.over.proofs.Cross.{eq_self, eq-above}

-- ---- the heights of a stretch
feet-length : (op : List ℤ) (m x c : ℕ) → length (feet_from op m x c) ≡ c
unfolding feet_from
feet-length op m x zero = refl
feet-length op m x (suc c) = ap suc (feet-length op m (x + 2) c)

feet-at : (op : List ℤ) (m x c j : ℕ) → j < c → get_or (feet_from op m x c) j (pos 0) ≡ height_at op m (x + j * 2)
unfolding feet_from
feet-at op m x zero j h = absurd (not-suc-le-zero h)
feet-at op m x (suc c) zero h = let e : x + 0 * 2 ≡ x = omega arith in ap (height_at op m) (sym e)
feet-at op m x (suc c) (suc j) h =
    let e : x + 2 + j * 2 ≡ x + suc j * 2 = omega arith in
    feet-at op m (x + 2) c j (le_of_suc-le-suc h) ∙ ap (height_at op m) e

pub feet-up : (op : List ℤ) (m x c : ℕ) → ((j : ℕ) → suc j < c → lt_z (height_at op m (x + j * 2)) (height_at op m (x + suc j * 2)) ≡ true)
    → Ascends lt_z (feet_from op m x c)
unfolding feet_from
feet-up op m x zero f = tt
feet-up op m x (suc zero) f = (tt, tt)
feet-up op m x (suc (suc c)) f =
    let e : x + 0 * 2 ≡ x = omega arith in
    let g : x + suc 0 * 2 ≡ x + 2 = omega arith in
    let l : lt_z (height_at op m x) (height_at op m (x + 2)) ≡ true = rw (e, g) at (f 0 (omega arith)) in
    let r = feet-up op m (x + 2) (suc c) (λ j h. later j (f (suc j) (omega arith))) in
    ((l, above-trans lt_z Z-order (height_at op m x) (height_at op m (x + 2)) (feet_from op m (x + 2 + 2) c) l r.0), r)
  where
    later : (j : ℕ) → lt_z (height_at op m (x + suc j * 2)) (height_at op m (x + suc (suc j) * 2)) ≡ true
        → lt_z (height_at op m (x + 2 + j * 2)) (height_at op m (x + 2 + suc j * 2)) ≡ true
    later j h =
        let e : x + 2 + j * 2 ≡ x + suc j * 2 = omega arith in
        let g : x + 2 + suc j * 2 ≡ x + suc (suc j) * 2 = omega arith in
        rw (e, g) h

-- of two equal heights none is below the other
pub unlike : {p q : ℤ} → p ≡ q → lt_z p q ≡ true → ⊥
unlike {p} {q} e h = clash h (ap (λ z. lt_z z q) e ∙ Z-order.irrefl q)

asc-lt : (l : List ℤ) (j i : ℕ) → Ascends lt_z l → j < i → i < length l → lt_z (get_or l j (pos 0)) (get_or l i (pos 0)) ≡ true
asc-lt [] j i s h k = absurd (not-suc-le-zero k)
asc-lt (p ∷ l) j zero s h k = absurd (not-suc-le-zero h)
asc-lt (p ∷ l) zero (suc i) s h k = above-mem lt_z p (get_or l i (pos 0)) l s.0 (nth_in l i (pos 0) (le_of_suc-le-suc k))
asc-lt (p ∷ l) (suc j) (suc i) s h k = asc-lt l j i s.1 (le_of_suc-le-suc h) (le_of_suc-le-suc k)

pub feet-lt : (op : List ℤ) (m x c j i : ℕ) → Ascends lt_z (feet_from op m x c) → j < i → i < c → lt_z (height_at op m (x + j * 2)) (height_at op m (x + i * 2)) ≡ true
feet-lt op m x c j i s h k =
    rw (← feet-at op m x c j (omega arith), ← feet-at op m x c i k) (asc-lt (feet_from op m x c) j i s h (rw (feet-length op m x c) k))

feet-one : (op : List ℤ) (m x c j i : ℕ) → Ascends lt_z (feet_from op m x c) → j < c → i < c → height_at op m (x + j * 2) ≡ height_at op m (x + i * 2) → j ≡ i
feet-one op m x c j i s h k e = ⊎_elim (λ q. q)
    (λ o. ⊎_elim (λ l. absurd (unlike e (feet-lt op m x c j i s l k))) (λ l. absurd (unlike (sym e) (feet-lt op m x c i j s l h))) (lt-or j i o)) (eq-or j i)

abbrev pub Keeps : Put → ℕ → ℕ → ℕ → Type 0
Keeps f n x y = (l : List ℕ) → get_or (f x y l) n 0 ≡ get_or l n 0

abbrev Sets : Put → ℕ → ℕ → ℕ → ℕ → ℕ → Type 0
Sets f k n z x y = (l : List ℕ) → length l ≡ k → get_or (f x y l) n 0 ≡ z

module _ (f : Put) (long : (x y : ℕ) (l : List ℕ) → length (f x y l) ≡ length l) where
  -- ---- one row
  one-length : (x : ℕ) (p : ℤ) (Q : List ℤ) (y : ℕ) (ol : List ℕ) → length (walk_one f x p Q y ol) ≡ length ol
  unfolding walk_one
  one-length x p [] y ol = refl
  one-length x p (q ∷ Q) y ol = go (eq_z p q) (one-length x p Q (y + 2) ol)
    where
      go : (b : Bool) → length (walk_one f x p Q (y + 2) ol) ≡ length ol
          → length {A = ℕ} (elim b [ true ↦ f x y ol | false ↦ walk_one f x p Q (y + 2) ol ]) ≡ length ol
      go true i = long x y ol
      go false i = i

  one_kept : (x : ℕ) (p : ℤ) (Q : List ℤ) (y : ℕ) (ol : List ℕ) (n : ℕ) → ((i : ℕ) → i < length Q → p ≡ get_or Q i (pos 0) → Keeps f n x (y + i * 2))
      → get_or (walk_one f x p Q y ol) n 0 ≡ get_or ol n 0
  unfolding walk_one
  one_kept x p [] y ol n k = refl
  one_kept x p (q ∷ Q) y ol n k = ⊎_elim
      (λ (e : eq_z p q ≡ true). let z : y + 0 * 2 ≡ y = omega arith in
      rw (e, walk_one, ← z) (k 0 (omega arith) (same-ℤ p q (eq-T e)) ol))
      (λ (e : eq_z p q ≡ false). rw (e, walk_one)
      (one_kept x p Q (y + 2) ol n (λ i h g. let z : y + 2 + i * 2 ≡ y + suc i * 2 = omega arith in rw z (k (suc i) (suc-le-suc h) g))))
      (decided (eq_z p q))

  one-done : (x : ℕ) (p : ℤ) (Q : List ℤ) (y : ℕ) (ol : List ℕ) (i n z : ℕ) → Ascends lt_z Q → i < length Q → p ≡ get_or Q i (pos 0)
      → Sets f (length ol) n z x (y + i * 2) → get_or (walk_one f x p Q y ol) n 0 ≡ z
  unfolding walk_one
  one-done x p [] y ol i n z s h e k = absurd (not-suc-le-zero h)
  one-done x p (q ∷ Q) y ol zero n z s h e k =
      let g : y + 0 * 2 ≡ y = omega arith in
      rw (ap (λ w. eq_z w q) e ∙ eq_self q, walk_one, ← g) (k ol refl)
  one-done x p (q ∷ Q) y ol (suc i) n z s h e k =
      let l = le_of_suc-le-suc h in
      let g : y + 2 + i * 2 ≡ y + suc i * 2 = omega arith in
      rw (eq-above p q (subst (λ (t : ℤ). lt_z q t ≡ true) (sym e) (above-mem lt_z q (get_or Q i (pos 0)) Q s.0 (nth_in Q i (pos 0) l))), walk_one)
      (one-done x p Q (y + 2) ol i n z s.1 l e (rw g k))

  -- ---- all rows
  walk-length : (P Q : List ℤ) (x y : ℕ) (ol : List ℕ) → length (walk_all f P Q x y ol) ≡ length ol
  unfolding walk_all
  walk-length [] Q x y ol = refl
  walk-length (p ∷ P) Q x y ol = walk-length P Q (x + 2) y (walk_one f x p Q y ol) ∙ one-length x p Q y ol

  walk_kept : (P Q : List ℤ) (x y : ℕ) (ol : List ℕ) (n : ℕ)
      → ((j i : ℕ) → j < length P → i < length Q → get_or P j (pos 0) ≡ get_or Q i (pos 0) → Keeps f n (x + j * 2) (y + i * 2))
      → get_or (walk_all f P Q x y ol) n 0 ≡ get_or ol n 0
  unfolding walk_all
  walk_kept [] Q x y ol n k = refl
  walk_kept (p ∷ P) Q x y ol n k =
      walk_kept P Q (x + 2) y (walk_one f x p Q y ol) n
      (λ j i h l e. let z : x + 2 + j * 2 ≡ x + suc j * 2 = omega arith in rw z (k (suc j) i (suc-le-suc h) l e))
      ∙ one_kept x p Q y ol n (λ i h e. let z : x + 0 * 2 ≡ x = omega arith in rw (← z) (k 0 i (omega arith) h e))

  walk-done : (P Q : List ℤ) (x y : ℕ) (ol : List ℕ) (j i n z : ℕ) → Ascends lt_z Q → j < length P → i < length Q → get_or P j (pos 0) ≡ get_or Q i (pos 0)
      → Sets f (length ol) n z (x + j * 2) (y + i * 2)
      → ((j' i' : ℕ) → j' < length P → i' < length Q → get_or P j' (pos 0) ≡ get_or Q i' (pos 0) → (j' ≡ j → ⊥) → Keeps f n (x + j' * 2) (y + i' * 2))
      → get_or (walk_all f P Q x y ol) n 0 ≡ z
  unfolding walk_all
  walk-done [] Q x y ol j i n z s h l e w k = absurd (not-suc-le-zero h)
  walk-done (p ∷ P) Q x y ol zero i n z s h l e w k =
      let g : x + 0 * 2 ≡ x = omega arith in
      walk_kept P Q (x + 2) y (walk_one f x p Q y ol) n
      (λ j i h l e. let g : x + 2 + j * 2 ≡ x + suc j * 2 = omega arith in rw g (k (suc j) i (suc-le-suc h) l e (λ o. omega arith)))
      ∙ one-done x p Q y ol i n z s l e (rw (← g) w)
  walk-done (p ∷ P) Q x y ol (suc j) i n z s h l e w k =
      let g : x + 2 + j * 2 ≡ x + suc j * 2 = omega arith in
      walk-done P Q (x + 2) y (walk_one f x p Q y ol) j i n z s (le_of_suc-le-suc h) l e (rw (one-length x p Q y ol, g) w)
      (λ j' i' h l e o. let g : x + 2 + j' * 2 ≡ x + suc j' * 2 = omega arith in rw g (k (suc j') i' (suc-le-suc h) l e (λ q. o (omega arith))))

-- ---- what is written
-- rows x and y stand in the two stretches and have equal heights
pub record Equal (op : List ℤ) (m x c y e u v : ℕ) : Type 0 where
  pub j : ℕ
  pub i : ℕ
  pub jl : j < c
  pub il : i < e
  pub own : u ≡ x + j * 2
  pub other : v ≡ y + i * 2
  pub same : height_at op m u ≡ height_at op m v

abbrev pub equal : {op : List ℤ} {m x c y e : ℕ} (j i : ℕ) → j < c → i < e → height_at op m (x + j * 2) ≡ height_at op m (y + i * 2)
    → Equal op m x c y e (x + j * 2) (y + i * 2)
equal j i h l q = record { j = j; i = i; jl = h; il = l; own = refl; other = refl; same = q }

pub record Written (f : Put) (R : ℕ → ℕ → Type 0) (ol ol' : List ℕ) : Type 0 where
  pub long : length ol' ≡ length ol
  pub kept : (n : ℕ) → ((u v : ℕ) → R u v → Keeps f n u v) → get_or ol' n 0 ≡ get_or ol n 0
  pub done : (u v n z : ℕ) → R u v → Sets f (length ol) n z u v → ((u' v' : ℕ) → R u' v' → (u' ≡ u → ⊥) → (v' ≡ v → ⊥) → Keeps f n u' v') → get_or ol' n 0 ≡ z

-- one more pair of rows
pub write-more : {f : Put} {R R' : ℕ → ℕ → Type 0} {ol ol' : List ℕ} (u v : ℕ) → Written f R ol ol' → length (f u v ol') ≡ length ol' → R' u v
    → ((p q : ℕ) → R p q → R' p q × ((u ≡ p → ⊥) × (v ≡ q → ⊥))) → ((p q : ℕ) → R' p q → R p q ⊎ ((p ≡ u) × (q ≡ v))) → Written f R' ol (f u v ol')
write-more {f} {R} {R'} {ol} {ol'} u v W l new old split = record {
  long = l ∙ W.long;
  kept = λ n k. k u v new ol' ∙ W.kept n (λ p q r. k p q (old p q r).0);
  done = λ p q n z r s k. ⊎_elim
      (λ (w : R p q). k u v new (old p q w).1.0 (old p q w).1.1 ol' ∙ W.done p q n z w s (λ p' q' r'. k p' q' (old p' q' r').0))
      (λ (w : (p ≡ u) × (q ≡ v)). rw (← w.0, ← w.1) (s ol' W.long))
      (split p q r);
}

-- the same pairs
pub write_same : {f : Put} {R R' : ℕ → ℕ → Type 0} {ol ol' : List ℕ} → Written f R ol ol' → ((u v : ℕ) → R u v → R' u v) → ((u v : ℕ) → R' u v → R u v)
    → Written f R' ol ol'
write_same W to from = record {
  long = W.long;
  kept = λ n k. W.kept n (λ u v r. k u v (to u v r));
  done = λ u v n z r s k. W.done u v n z (from u v r) s (λ p q w. k p q (to p q w));
}

-- and then others
pub write_then : {f : Put} {P Q R : ℕ → ℕ → Type 0} {ol ol₁ ol₂ : List ℕ} → ((u v : ℕ) → P u v → R u v) → ((u v : ℕ) → Q u v → R u v)
    → ((u v : ℕ) → R u v → P u v ⊎ Q u v) → ((u v p q : ℕ) → P u v → Q p q → (p ≡ u → ⊥) × (q ≡ v → ⊥)) → Written f P ol ol₁ → Written f Q ol₁ ol₂
    → Written f R ol ol₂
write_then {f} {P} {Q} first then split differ U W = record {
  long = W.long ∙ U.long;
  kept = λ n k. W.kept n (λ u v r. k u v (then u v r)) ∙ U.kept n (λ u v r. k u v (first u v r));
  done = λ u v n z r s k. ⊎_elim
      (λ (a : P u v). W.kept n (λ p q b. let o = differ u v p q a b in k p q (then p q b) o.0 o.1) ∙ U.done u v n z a s (λ p q b. k p q (first p q b)))
      (λ (a : Q u v). W.done u v n z a (λ l e. s l (e ∙ U.long)) (λ p q b. k p q (then p q b)))
      (split u v r);
}

pub walked : (f : Put) (long : (x y : ℕ) (l : List ℕ) → length (f x y l) ≡ length l) (op : List ℤ) (m x c y e : ℕ) (ol : List ℕ)
    → Ascends lt_z (feet_from op m x c) → Ascends lt_z (feet_from op m y e)
    → Written f (Equal op m x c y e) ol (walk_all f (feet_from op m x c) (feet_from op m y e) x y ol)
walked f long op m x c y e ol s t = record {
  long = walk-length f long P Q x y ol;
  kept = λ n k. walk_kept f long P Q x y ol n (λ j i h l q. let r = made j i h l q in k (x + j * 2) (y + i * 2) r);
  done = λ u v n z r w k. walk-done f long P Q x y ol r.j r.i n z t (rw lp r.jl) (rw lq r.il)
      (feet-at op m x c r.j r.jl ∙ level r ∙ sym (feet-at op m y e r.i r.il))
      (rw (← r.own, ← r.other) w)
      (λ j i h l q o. let g = made j i h l q in k (x + j * 2) (y + i * 2) g (λ b. o (omega (arith, b, r.own)))
      (λ b. o (feet-one op m x c j r.j s g.jl r.jl (g.same ∙ ap (height_at op m) b ∙ sym r.same ∙ ap (height_at op m) r.own))));
}
  where
    P : List ℤ
    P = feet_from op m x c

    Q : List ℤ
    Q = feet_from op m y e

    lp : length (feet_from op m x c) ≡ c
    lp = feet-length op m x c

    lq : length (feet_from op m y e) ≡ e
    lq = feet-length op m y e

    level : {u v : ℕ} (r : Equal op m x c y e u v) → height_at op m (x + r.j * 2) ≡ height_at op m (y + r.i * 2)
    level r = ap (height_at op m) (sym r.own) ∙ r.same ∙ ap (height_at op m) r.other

    made : (j i : ℕ) → j < length P → i < length Q → get_or P j (pos 0) ≡ get_or Q i (pos 0) → Equal op m x c y e (x + j * 2) (y + i * 2)
    made j i h l q =
        let h' : j < c = rw lp at h in
        let l' : i < e = rw lq at l in
        equal j i h' l' (sym (feet-at op m x c j h') ∙ q ∙ feet-at op m y e i l')
