-- The heights of a stretch of keys.
--     ends_next, ends-none, ends_more      the next height, none, one more at the end
--     ends-length, ends_same               how many they are; tables with the same keys have the same heights
use Rattle.std.proofs.Common.{◌≡◌, ℕ, zero, suc, ◌+◌, ◌-◌, ◌<◌, ◌≤◌, List, [], ◌∷◌, ◌++◌, length, ℤ, refl, ap, add-zero, add-one, arith}
use Rattle.ends.specs.Key.{height_of, key_at, ends_from}

pub ends_next : (v : List ℕ) (p i n : ℕ) → i < n → ends_from v p i (n - i) ≡ height_of (key_at v p i) ∷ ends_from v p (i + 1) (n - (i + 1))
unfolding ends_from
ends_next v p i n h = let e : n - i ≡ suc (n - (i + 1)) = omega arith in rw (e, add-one i)

pub ends-none : (v : List ℕ) (p i n : ℕ) → n ≤ i → ends_from v p i (n - i) ≡ []
unfolding ends_from
ends-none v p i n h = let e : n - i ≡ 0 = omega arith in rw e

pub ends_more : (v : List ℕ) (p i n : ℕ) → ends_from v p i (suc n) ≡ ends_from v p i n ++ (height_of (key_at v p (i + n)) ∷ [])
unfolding ends_from
ends_more v p i zero = rw (add-zero i)
ends_more v p i (suc n) = let e : i + suc n ≡ suc i + n = omega arith in rw e (ap (λ (l : List ℤ). height_of (key_at v p i) ∷ l) (ends_more v p (suc i) n))

pub ends-length : (v : List ℕ) (p i n : ℕ) → length (ends_from v p i n) ≡ n
unfolding ends_from
ends-length v p i zero = refl
ends-length v p i (suc n) = ap suc (ends-length v p (suc i) n)

pub ends_same : (v v' : List ℕ) (p i n : ℕ) → ((k : ℕ) → k < i + n → key_at v' p k ≡ key_at v p k) → ends_from v' p i n ≡ ends_from v p i n
unfolding ends_from
ends_same v v' p i zero h = refl
ends_same v v' p i (suc n) h = rw (h i (omega arith), ends_same v v' p (suc i) n (λ k l. h k (omega arith)))
