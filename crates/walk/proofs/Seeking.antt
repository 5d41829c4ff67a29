-- The search among the ends, by halving.
--     rises            the keys of ends that ascend
--     Bracket          the loop's invariant: what is sought lies from one place to another
--     whole, up, down  at the start, and by a turn
--     met              both places are one
--     at-hand          the end at hand reaches the height
use Rattle.std.proofs.Common.{◌≡◌, ℕ, zero, suc, ◌+◌, ◌-◌, ◌<◌, ◌≤◌, true, ◌⊎◌, List, ℤ, sym, subst, inl, inr, ⊎_elim, eq-or-lt_of_le, arith}
use lib.Signed.{lt_z}
use Rattle.theory.specs.Ascending.{Above, Ascends}
use Rattle.ends.specs.Key.{height_of, key_at, ends_from, ends_at}
use Rattle.ends.proofs.Keys.{height-back}
use Rattle.walk.specs.Seek.{Seekable, Sought}

-- ---- order
module _ (v : List ℕ) (p : ℕ) where
  above : (z : ℤ) (i m y : ℕ) → Above lt_z z (ends_from v p i m) → i ≤ y → y < i + m → lt_z z (height_of (key_at v p y)) ≡ true
  unfolding ends_from
  above z i zero y a h k = let f : ⊥ = omega arith in absurd f
  above z i (suc m) y a h k =
      ⊎_elim (λ (e : i ≡ y). subst (λ q. lt_z z (height_of (key_at v p q)) ≡ true) e a.0)
      (λ l. above z (suc i) m y a.1 l (omega arith)) (eq-or-lt_of_le h)

  heights : (i m x y : ℕ) → Ascends lt_z (ends_from v p i m) → i ≤ x → x < y → y < i + m → lt_z (height_of (key_at v p x)) (height_of (key_at v p y)) ≡ true
  unfolding ends_from
  heights i zero x y a h l k = let f : ⊥ = omega arith in absurd f
  heights i (suc m) x y a h l k =
      ⊎_elim (λ (e : i ≡ x). subst (λ q. lt_z (height_of (key_at v p q)) (height_of (key_at v p y)) ≡ true) e (above (height_of (key_at v p i)) (suc i) m y a.0 (omega arith) (omega arith)))
      (λ g. heights (suc i) m x y a.1 g l (omega arith)) (eq-or-lt_of_le h)

  pub rises : (n x y : ℕ) → Ascends lt_z (ends_at v p n) → x < y → y < n → key_at v p x < key_at v p y
  rises n x y a l k = height-back (key_at v p x) (key_at v p y) (heights 0 n x y a (omega arith) l (omega arith))

-- ---- the loop
pub record Bracket (v : List ℕ) (p n i lo from to : ℕ) : Type 0 where
  pub first : i ≤ from
  pub between : from ≤ to
  pub last : to < n
  pub below : (x : ℕ) → i ≤ x → x < from → key_at v p x < lo
  pub found : (lo ≤ key_at v p to) ⊎ (to + 1 ≡ n)

module _ {v : List ℕ} {p n i : ℕ} (S : Seekable v p n i) (lo : ℕ) where
  pub whole : Bracket v p n i lo i (n - 1)
  whole = let h = S.within in record { first = omega arith; between = omega arith; last = omega arith; below = λ x a b. let f : ⊥ = omega arith in absurd f; found = inr (omega arith) }

  module _ {from to : ℕ} (B : Bracket v p n i lo from to) (m : ℕ) where
    pub up : m < to → from ≤ m → key_at v p m < lo → Bracket v p n i lo (m + 1) to
    up k h l =
        let a = B.first in
        let b = B.last in
        record { first = omega arith; between = omega arith; last = B.last; below = low; found = B.found }
      where
        low : (x : ℕ) → i ≤ x → x < m + 1 → key_at v p x < lo
        low x g q = let b = B.last in ⊎_elim (λ (e : x ≡ m). subst (λ z. key_at v p z < lo) (sym e) l)
            (λ (u : x < m). let k = rises v p n x m S.ascend u (omega arith) in omega arith) (eq-or-lt_of_le (omega arith))

    pub down : m < to → from ≤ m → lo ≤ key_at v p m → Bracket v p n i lo from m
    down k h l = let b = B.last in record { first = B.first; between = h; last = omega arith; below = B.below; found = inl l }

  pub met : {from to : ℕ} → Bracket v p n i lo from to → to ≤ from → Sought v p n i lo from
  met {from} {to} B h =
      let a = B.between in
      let b = B.last in
      let e : to ≡ from = omega arith in
      record { from = B.first; within = omega arith; below = B.below; found = subst (λ q. (lo ≤ key_at v p q) ⊎ (q + 1 ≡ n)) e B.found }

-- ---- the end at hand
pub at-hand : {v : List ℕ} {p n i lo : ℕ} → Seekable v p n i → lo ≤ key_at v p i → Sought v p n i lo i
at-hand S h = record { from = omega arith; within = S.within; below = λ x a b. let f : ⊥ = omega arith in absurd f; found = inl h }
