-- Pieces of a block that touch.
--     Next             the head of a piece and the foot of the next have equal heights, among the first n pieces and those after them
--     Touching         how far the loop is
--     touch-start, touch-crossed     its start and its end
--     touch-joined, touch-apart      a turn: the heights are equal, or not
use Rattle.std.proofs.Common.{◌≡◌, ℕ, suc, ◌+◌, ◌-◌, ◌*◌, ◌<◌, ◌≤◌, Bool, true, false, cond, ◌⊎◌, List, length, ℤ, sym, refl, ap, ◌∙◌, inl, inr, ⊎_elim, not-suc-le-zero, arith}
use lib.Signed.{lt_z}
use Rattle.paper.specs.Width.{link_width}
use Rattle.theory.proofs.Bool.{eq-or, lt-or}
use Rattle.theory.proofs.Order.{Z-order, le_out, le-lt}
use Rattle.number.specs.First.{side}
use Rattle.over.specs.Over.{height_at, link_of, ways}
use Rattle.over.specs.Block.{Crossable, Crossed, Stacked}
use Rattle.over.proofs.Read.{Written, unlike, feet-lt, write-more, write_same}
use Rattle.over.proofs.Pair.{ways-long, row-own, row-mate, row_stays}

pub record Next (op : List ℤ) (m x n u v : ℕ) : Type 0 where
  pub k : ℕ
  pub kl : k < n
  pub own : u ≡ x + k * 2 + 1
  pub other : v ≡ x + k * 2 + 1 + 1
  pub same : height_at op m u ≡ height_at op m v

pub record Touching (op : List ℤ) (m a x c : ℕ) (ol ol' : List ℕ) (i : ℕ) : Type 0 where
  pub il : i ≤ c - 1
  pub so_far : Written (ways a) (Next op m x i) ol ol'

pub touch-start : (op : List ℤ) (m a x c : ℕ) (ol : List ℕ) → Touching op m a x c ol ol 0
touch-start op m a x c ol = record {
  il = omega arith;
  so_far = record { long = refl; kept = λ n k. refl; done = λ u v n z r. absurd (not-suc-le-zero r.kl) };
}

module _ {op : List ℤ} {m a x c i : ℕ} {ol ol₁ : List ℕ} (T : Touching op m a x c ol ol₁ i) (l : i + 1 < c) where
  abbrev head : ℕ
  head = x + i * 2 + 1

  older : (u v : ℕ) → Next op m x i u v → Next op m x (i + 1) u v
  older u v r = record { k = r.k; kl = omega (arith, r.kl); own = r.own; other = r.other; same = r.same }

  split : (u v : ℕ) → Next op m x (i + 1) u v → Next op m x i u v ⊎ ((u ≡ head) × (v ≡ head + 1))
  split u v r = ⊎_elim (λ e. inr (omega (arith, e, r.own), omega (arith, e, r.other)))
      (λ e. inl (record { k = r.k; kl = omega (arith, e, r.kl); own = r.own; other = r.other; same = r.same })) (eq-or r.k i)

  with-new : height_at op m head ≡ height_at op m (head + 1) → Written (ways a) (Next op m x (i + 1)) ol (ways a head (head + 1) ol₁)
  with-new e = write-more head (head + 1) T.so_far (ways-long a head (head + 1) ol₁)
      (record { k = i; kl = omega arith; own = refl; other = refl; same = e })
      (λ p q r. (older p q r, (λ w. omega (arith, r.own, r.kl), λ w. omega (arith, r.other, r.kl)))) split

  with_none : (height_at op m head ≡ height_at op m (head + 1) → ⊥) → Written (ways a) (Next op m x (i + 1)) ol ol₁
  with_none o = write_same T.so_far older
      (λ u v r. ⊎_elim (λ w. w) (λ w. absurd (o (ap (height_at op m) (sym w.0) ∙ r.same ∙ ap (height_at op m) w.1))) (split u v r))

  pub touch-joined : height_at op m head ≡ height_at op m (head + 1) → {ol₂ : List ℕ} → ol₂ ≡ ways a head (head + 1) ol₁ → Touching op m a x c ol ol₂ (i + 1)
  touch-joined e eq = rw eq (record { il = omega arith; so_far = with-new e })

  pub touch-apart : (height_at op m head ≡ height_at op m (head + 1) → ⊥) → Touching op m a x c ol ol₁ (i + 1)
  touch-apart o = record { il = omega arith; so_far = with_none o }

module _ {op : List ℤ} {m a x c i : ℕ} {ol ol' : List ℕ} (A : Crossable op m ol a x c (x + 1) x c) (S : Stacked op m x c)
    (T : Touching op m a x c ol ol' i) (end : c ≤ i + 1) where
  abbrev R : ℕ → ℕ → Type 0
  R = Next op m x i

  -- a foot at the height of a head is that of the next piece
  next : (j n : ℕ) → j < c → n < c → height_at op m (x + j * 2) ≡ height_at op m (x + n * 2 + 1) → j ≡ suc n
  next j n p q e = ⊎_elim (λ w. w) (λ o. ⊎_elim (λ l. absurd (unlike e (early l))) (λ l. absurd (unlike (sym e) (late l))) (lt-or j (suc n) o)) (eq-or j (suc n))
    where
      foot-head : lt_z (height_at op m (x + n * 2)) (height_at op m (x + n * 2 + 1)) ≡ true
      foot-head = S.tall n q

      early : j < suc n → lt_z (height_at op m (x + j * 2)) (height_at op m (x + n * 2 + 1)) ≡ true
      early l = ⊎_elim (λ (w : j ≡ n). rw w foot-head)
          (λ w. Z-order.trans (height_at op m (x + j * 2)) (height_at op m (x + n * 2)) (height_at op m (x + n * 2 + 1))
          (feet-lt op m x c j n A.0.up (omega arith) q) foot-head)
          (eq-or j n)

      late : suc n < j → lt_z (height_at op m (x + n * 2 + 1)) (height_at op m (x + j * 2)) ≡ true
      late l = le-lt lt_z Z-order (height_at op m (x + n * 2 + 1)) (height_at op m (x + suc n * 2)) (height_at op m (x + j * 2))
          (le_out (height_at op m (x + n * 2 + 1)) (height_at op m (x + suc n * 2)) (S.next n (omega arith))) (feet-lt op m x c (suc n) j A.0.up l p)

  fits : (u v : ℕ) → R u v → (u * link_width + link_width ≤ length ol) × (v * link_width + link_width ≤ length ol)
  fits u v r =
      let p = r.own in
      let q = r.other in
      let l = r.kl in
      let k = T.il in
      let b = A.1.own_links in
      (omega arith, omega arith)

  apart : (u v u' v' : ℕ) → R u v → R u' v' → u ≡ v' → ⊥
  apart u v u' v' r r' e = let p = r.own in let q = r'.other in omega arith

  touches : (n : ℕ) → suc n < c → height_at op m (x + n * 2 + 1) ≡ height_at op m (x + n * 2 + 1 + 1) → R (x + n * 2 + 1) (x + n * 2 + 1 + 1)
  touches n l e = record { k = n; kl = omega arith; own = refl; other = refl; same = e }

  met : (j n : ℕ) (s : Bool) → j < c → n < c → height_at op m (x + j * 2 + side s) ≡ height_at op m (cond s (x + 1) x + n * 2)
      → link_of ol' (x + j * 2 + side s) a ≡ cond s (x + 1) x + n * 2
  met j n true l k p =
      let u : x + 1 + n * 2 ≡ x + n * 2 + 1 = omega arith in
      let z : x + j * 2 + 0 ≡ x + j * 2 = omega arith in
      let e : height_at op m (x + j * 2) ≡ height_at op m (x + n * 2 + 1) = rw (u, z) at p in
      let d = next j n l k e in
      let v : x + j * 2 ≡ x + n * 2 + 1 + 1 = omega arith in
      rw (u, z, v) (row-mate a T.so_far A.0.axis fits apart (x + n * 2 + 1) (x + n * 2 + 1 + 1) (touches n (omega arith) (sym e ∙ ap (height_at op m) v)))
  met j n false l k p =
      let d = next n j k l (sym p) in
      let v : x + n * 2 ≡ x + j * 2 + 1 + 1 = omega arith in
      rw v (row-own a T.so_far A.0.axis fits apart (x + j * 2 + 1) (x + j * 2 + 1 + 1) (touches j (omega arith) (p ∙ ap (height_at op m) v)))

  missed : (j : ℕ) (s : Bool) → j < c → ((n : ℕ) → n < c → height_at op m (x + j * 2 + side s) ≡ height_at op m (cond s (x + 1) x + n * 2) → ⊥)
      → link_of ol' (x + j * 2 + side s) a ≡ link_of ol (x + j * 2 + side s) a
  missed j true l o = row_stays a T.so_far A.0.axis (x + j * 2 + 0) a A.0.axis (λ _ u v r.
      let p = r.own in
      let q = r.other in
      let b = r.kl in
      let t = T.il in
      (λ w. omega arith, λ w. let z : u ≡ x + 1 + r.k * 2 = omega arith in o r.k (omega arith) (ap (height_at op m) w ∙ sym r.same ∙ ap (height_at op m) z)))
  missed j false l o = row_stays a T.so_far A.0.axis (x + j * 2 + 1) a A.0.axis (λ _ u v r.
      let p = r.own in
      let q = r.other in
      let b = r.kl in
      let t = T.il in
      (λ w. let z : v ≡ x + suc r.k * 2 = omega arith in o (suc r.k) (omega arith) (ap (height_at op m) w ∙ r.same ∙ ap (height_at op m) z), λ w. omega arith))

  outside : (q u v : ℕ) → R u v → (q < x) ⊎ (x + c * 2 ≤ q) → (q ≡ u → ⊥) × (q ≡ v → ⊥)
  outside q u v r o =
      let p = r.own in
      let s = r.other in
      let b = r.kl in
      let t = T.il in
      (λ w. ⊎_elim (λ k. omega arith) (λ k. omega arith) o, λ w. ⊎_elim (λ k. omega arith) (λ k. omega arith) o)

  pub touch-crossed : Crossed op m a x c (x + 1) x c ol ol'
  touch-crossed = record {
    long = T.so_far.long;
    met = λ j n s. met j n s;
    missed = λ j s. missed j s;
    other = λ q b l o. row_stays a T.so_far A.0.axis q b l (λ p u v r. outside q u v r (o p));
  }
