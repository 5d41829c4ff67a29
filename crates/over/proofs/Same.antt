-- Two blocks of the same pieces, whose rows lead to each other one by one.
--     Row              rows u and v are the same of both blocks, among the first n
--     Pairing          how far the loop is
--     same_start, same_more, same_end     its start, a turn, its end
use Rattle.std.proofs.Common.{◌≡◌, ℕ, ◌+◌, ◌*◌, ◌<◌, ◌≤◌, ◌⊎◌, List, length, refl, inl, inr, ⊎_elim, not-suc-le-zero, arith}
use Rattle.paper.specs.Width.{link_width}
use Rattle.theory.proofs.Bool.{eq-or}
use Rattle.over.specs.Over.{ways}
use Rattle.over.specs.Block.{Facing, Same}
use Rattle.over.proofs.Read.{Written, write-more}
use Rattle.over.proofs.Pair.{ways-long, row-own, row-mate, row_stays}

pub record Row (x y n u v : ℕ) : Type 0 where
  pub k : ℕ
  pub kl : k < n
  pub own : u ≡ x + k
  pub other : v ≡ y + k

pub record Pairing (a x c y : ℕ) (ol ol' : List ℕ) (r : ℕ) : Type 0 where
  pub rl : r ≤ c * 2
  pub so_far : Written (ways a) (Row x y r) ol ol'

pub same_start : (a x c y : ℕ) (ol : List ℕ) → Pairing a x c y ol ol 0
same_start a x c y ol = record {
  rl = omega arith;
  so_far = record { long = refl; kept = λ n k. refl; done = λ u v n z w. absurd (not-suc-le-zero w.kl) };
}

pub same_more : {a x c y r : ℕ} {ol ol₁ ol₂ : List ℕ} → Pairing a x c y ol ol₁ r → r < c * 2 → ol₂ ≡ ways a (x + r) (y + r) ol₁ → Pairing a x c y ol ol₂ (r + 1)
same_more {a} {x} {c} {y} {r} {ol} {ol₁} P l eq = rw eq
    (record {
      rl = omega arith;
      so_far = write-more (x + r) (y + r) P.so_far (ways-long a (x + r) (y + r) ol₁)
          (record { k = r; kl = omega arith; own = refl; other = refl })
          (λ p q w. (older p q w, (λ e. omega (arith, e, w.own, w.kl), λ e. omega (arith, e, w.other, w.kl))))
          split;
    })
  where
    older : (u v : ℕ) → Row x y r u v → Row x y (r + 1) u v
    older u v w = record { k = w.k; kl = omega (arith, w.kl); own = w.own; other = w.other }

    split : (u v : ℕ) → Row x y (r + 1) u v → Row x y r u v ⊎ ((u ≡ x + r) × (v ≡ y + r))
    split u v w = ⊎_elim (λ e. inr (omega (arith, e, w.own), omega (arith, e, w.other)))
        (λ e. inl (record { k = w.k; kl = omega (arith, e, w.kl); own = w.own; other = w.other })) (eq-or w.k r)

module _ {a x c y r : ℕ} {ol ol' : List ℕ} (A : Facing a x c y (length ol)) (P : Pairing a x c y ol ol' r) (end : c * 2 ≤ r) where
  abbrev R : ℕ → ℕ → Type 0
  R = Row x y r

  fits : (u v : ℕ) → R u v → (u * link_width + link_width ≤ length ol) × (v * link_width + link_width ≤ length ol)
  fits u v w =
      let p = w.own in
      let q = w.other in
      let l = w.kl in
      let k = P.rl in
      let b = A.own_links in
      let d = A.below in
      (omega arith, omega arith)

  apart : (u v u' v' : ℕ) → R u v → R u' v' → u ≡ v' → ⊥
  apart u v u' v' w w' e =
      let p = w.own in
      let q = w'.other in
      let l = w'.kl in
      let k = P.rl in
      let d = A.below in
      omega arith

  row : (k : ℕ) → k < c * 2 → R (x + k) (y + k)
  row k l = record { k = k; kl = omega arith; own = refl; other = refl }

  outside : (q u v : ℕ) → R u v → ((q < y) ⊎ (y + c * 2 ≤ q)) × ((q < x) ⊎ (x + c * 2 ≤ q)) → (q ≡ u → ⊥) × (q ≡ v → ⊥)
  outside q u v w o =
      let p = w.own in
      let s = w.other in
      let b = w.kl in
      let t = P.rl in
      (λ e. ⊎_elim (λ k. omega arith) (λ k. omega arith) o.1, λ e. ⊎_elim (λ k. omega arith) (λ k. omega arith) o.0)

  pub same_end : Same a x c y ol ol'
  same_end = record {
    long = P.so_far.long;
    up = λ k l. row-own a P.so_far A.axis fits apart (x + k) (y + k) (row k l);
    down = λ k l. row-mate a P.so_far A.axis fits apart (x + k) (y + k) (row k l);
    other = λ q b l o. row_stays a P.so_far A.axis q b l (λ p u v w. outside q u v w (o p));
  }
