-- Keys and heights: back and forth, their order, and what a store changes.
--     key_of, key-height, key-small     the key of a height
--     height-lt, height-le, height-back        keys compare as their heights do
--     wide_fits, sum_fits, through, through-fits       what `key` computes
--     diff-fits, narrow-fits, height-is                what `height` computes
--     key-put-same, key-put-other, length-put          a key put into the table
use Rattle.std.proofs.Common.{◌≡◌, ℕ, zero, suc, ◌+◌, ◌-◌, ◌*◌, ◌/◌, ◌%◌, ◌<◌, ◌≤◌, Bool, true, false, T, ltb, ◌≢◌, ◌⊎◌, List, length, set, ℤ, pos, negsuc, ◌+ℤ◌, ◌-ℤ◌, nat_abs, refl, ap, ⊎_elim, eq-or-lt_of_le, div-add-mod', arith, length-set, get_or-set_other, get_or-set_same, w32, w64, Fits, SFits, to_z, of_z, ltb-false, ltb-true, le-ltb, lt-ltb}
use lib.Signed.{lt_z, mag, non_neg}
use mir.ValLaws.{to_z-of_z, to_z_pos}
use Rattle.paper.specs.Width.{work_width}
use Rattle.theory.proofs.Bool.{clash}
use Rattle.theory.proofs.Order.{Z-order, asym}
use Rattle.ends.specs.Key.{key_zero, key_limit, key_base, height_of, slot, key_at, put_key}

-- a height plus a number that is at least 2^31
abbrev raised : ℕ → ℤ → ℕ
raised k (pos n) = n + k
raised k (negsuc n) = k - suc n

abbrev pub key_of : ℤ → ℕ
key_of z = raised key_zero z

add_is : (z : ℤ) (k : ℕ) → mag z < key_zero → key_zero ≤ k → z +ℤ pos k ≡ pos (raised k z)
add_is (pos n) k h l = refl
add_is (negsuc n) k h l = rw (le-ltb k (suc n) (omega arith))

pub key-height : (z : ℤ) → mag z < key_zero → height_of (key_of z) ≡ z
unfolding height_of
key-height (pos n) h = rw (le-ltb (n + 2147483648) 2147483648 (omega arith)) (ap pos (omega arith))
key-height (negsuc n) h = rw (lt-ltb (2147483648 - suc n) 2147483648 (omega arith)) (ap negsuc (omega arith))

raised-small : (z : ℤ) (k : ℕ) → mag z < key_zero → k ≤ key_limit → raised k z < key_limit + key_zero
raised-small (pos n) k h l = omega arith
raised-small (negsuc n) k h l = omega arith

pub key-small : (z : ℤ) → mag z < key_zero → key_of z < key_limit
key-small (pos n) h = omega arith
key-small (negsuc n) h = omega arith

-- ---- order, whatever the size of the keys
pub height-lt : (a b : ℕ) → a < b → lt_z (height_of a) (height_of b) ≡ true
unfolding height_of
height-lt a b h = go (ltb a key_zero) (ltb b key_zero) refl refl
  where
    go : (p q : Bool) → ltb a key_zero ≡ p → ltb b key_zero ≡ q → lt_z (height_of a) (height_of b) ≡ true
    go true true p q =
        let k = ltb-true a 2147483648 p in
        let l = ltb-true b 2147483648 q in
        rw (p, q) (lt-ltb (2147483648 - suc b) (2147483648 - suc a) (omega arith))
    go true false p q = rw (p, q)
    go false true p q = let k = ltb-false a 2147483648 p in let l = ltb-true b 2147483648 q in let z : ⊥ = omega arith in absurd z
    go false false p q =
        let k = ltb-false a 2147483648 p in
        let l = ltb-false b 2147483648 q in
        rw (p, q) (lt-ltb (a - 2147483648) (b - 2147483648) (omega arith))

pub height-le : (a b : ℕ) → a ≤ b → lt_z (height_of b) (height_of a) ≡ false
height-le a b h = ⊎_elim (λ e. rw e (Z-order.irrefl (height_of b))) (λ l. asym lt_z Z-order (height_of a) (height_of b) (height-lt a b l)) (eq-or-lt_of_le h)

pub height-back : (a b : ℕ) → lt_z (height_of a) (height_of b) ≡ true → a < b
height-back a b h = go (ltb a b) refl
  where
    go : (p : Bool) → ltb a b ≡ p → a < b
    go true p = ltb-true a b p
    go false p = absurd (clash h (height-le b a (ltb-false a b p)))

-- ---- a height to its key
fits64 : (z : ℤ) → mag z < key_limit + key_zero → SFits w64 z
fits64 z h = record { sfits = omega arith }

pub wide_fits : (z : ℤ) → SFits w32 z → SFits w64 (to_z w32 (of_z w32 z))
wide_fits z f = let h = f.sfits in rw (to_z-of_z w32 z f) (fits64 z (omega arith))

back64 : (z : ℤ) → SFits w32 z → to_z w64 (of_z w64 (to_z w32 (of_z w32 z))) ≡ z
back64 z f = let h = f.sfits in rw (to_z-of_z w32 z f) (to_z-of_z w64 z (fits64 z (omega arith)))

-- the sum as the code has it, with any number from 2^31 to 2^32
abbrev sum : ℤ → ℕ → ℤ
sum z k = to_z w64 (of_z w64 (to_z w32 (of_z w32 z))) +ℤ pos k

module _ (z : ℤ) (f : SFits w32 z) (k : ℕ) (low : key_zero ≤ k) (high : k ≤ key_limit) where
  pub sum_fits : SFits w64 (sum z k)
  sum_fits = let h = f.sfits in rw (back64 z f, add_is z k h low) (fits64 (pos (raised k z)) (raised-small z k h high))

  whole : to_z w64 (of_z w64 (sum z k)) ≡ pos (raised k z)
  whole = let h = f.sfits in rw (back64 z f, add_is z k h low) (to_z-of_z w64 (pos (raised k z)) (fits64 (pos (raised k z)) (raised-small z k h high)))

  pub through-fits : T (non_neg (to_z w64 (of_z w64 (sum z k)))) × Fits w64 (nat_abs (to_z w64 (of_z w64 (sum z k))))
  through-fits = let h = raised-small z k f.sfits high in rw whole (tt, omega arith)

pub through : (z : ℤ) → SFits w32 z → nat_abs (to_z w64 (of_z w64 (sum z key_zero))) ≡ key_of z
through z f = ap nat_abs (whole z f key_zero (omega arith) (omega arith))

-- ---- a key to its height
height-fits : (u : ℕ) → u < key_limit → mag (height_of u) < key_zero
unfolding height_of
height-fits u h = go (ltb u key_zero) refl
  where
    go : (p : Bool) → ltb u key_zero ≡ p → mag (height_of u) < key_zero
    go true p = let k = ltb-true u 2147483648 p in rw p (omega arith)
    go false p = let k = ltb-false u 2147483648 p in rw p (omega arith)

fits32 : (u : ℕ) → u < key_limit → SFits w32 (height_of u)
fits32 u h = let k = height-fits u h in record { sfits = omega arith }

seen64 : (u : ℕ) → u < key_limit → to_z w64 u ≡ pos u
seen64 u h = to_z_pos w64 u (omega arith)

pub diff-fits : (u : ℕ) → u < key_limit → SFits w64 (to_z w64 u -ℤ pos key_zero)
unfolding height_of
diff-fits u h = let k = height-fits u h in rw (seen64 u h) (fits64 (height_of u) (omega arith))

diff_is : (u : ℕ) → u < key_limit → to_z w64 (of_z w64 (to_z w64 u -ℤ pos key_zero)) ≡ height_of u
unfolding height_of
diff_is u h = let k = height-fits u h in rw (seen64 u h) (to_z-of_z w64 (height_of u) (fits64 (height_of u) (omega arith)))

pub narrow-fits : (u : ℕ) → u < key_limit → SFits w32 (to_z w64 (of_z w64 (to_z w64 u -ℤ pos key_zero)))
narrow-fits u h = rw (diff_is u h) (fits32 u h)

pub height-is : (u : ℕ) → u < key_limit → to_z w32 (of_z w32 (to_z w64 (of_z w64 (to_z w64 u -ℤ pos key_zero)))) ≡ height_of u
height-is u h = rw (diff_is u h) (to_z-of_z w32 (height_of u) (fits32 u h))

-- ---- stores
pub key-put-same : (v : List ℕ) (p i u : ℕ) → p ≤ 1 → i * work_width + work_width ≤ length v → key_at (put_key v p i u) p i ≡ u
unfolding put_key
key-put-same v p i u hp hi =
    let a = get_or-set_same (set v (slot p i) (u / key_base)) (slot p i + 1) (u % key_base) 0 (simp length-set (omega arith)) in
    let b = get_or-set_other (set v (slot p i) (u / key_base)) (slot p i + 1) (slot p i) (u % key_base) 0 (λ e. omega arith) in
    let d = get_or-set_same v (slot p i) (u / key_base) 0 (omega arith) in
    rw (a, b, d) (div-add-mod' u 65536)

same-slot : (p i q j : ℕ) → p ≤ 1 → q ≤ 1 → slot p i ≡ slot q j → (p ≡ q) × (i ≡ j)
same-slot zero i zero j hp hq e = (refl, omega arith)
same-slot zero i (suc zero) j hp hq e = let z : ⊥ = omega arith in absurd z
same-slot zero i (suc (suc q)) j hp hq e = let z : ⊥ = omega arith in absurd z
same-slot (suc zero) i zero j hp hq e = let z : ⊥ = omega arith in absurd z
same-slot (suc zero) i (suc zero) j hp hq e = (refl, omega arith)
same-slot (suc zero) i (suc (suc q)) j hp hq e = let z : ⊥ = omega arith in absurd z
same-slot (suc (suc p)) i q j hp hq e = let z : ⊥ = omega arith in absurd z

-- a key of the other half, or at another place
pub key-put-other : (v : List ℕ) (p i u q j : ℕ) → p ≤ 1 → q ≤ 1 → (p ≢ q) ⊎ (i ≢ j) → key_at (put_key v p i u) q j ≡ key_at v q j
unfolding put_key
key-put-other v p i u q j hp hq ne =
    let k : (slot p i ≢ slot q j) = (λ e. let s = same-slot p i q j hp hq e in ⊎_elim (λ f. f s.0) (λ f. f s.1) ne) in
    let v1 = set v (slot p i) (u / key_base) in
    let a = get_or-set_other v1 (slot p i + 1) (slot q j + 1) (u % key_base) 0 (λ e. k (omega arith)) in
    let b = get_or-set_other v1 (slot p i + 1) (slot q j) (u % key_base) 0 (λ e. omega arith) in
    let d = get_or-set_other v (slot p i) (slot q j + 1) (u / key_base) 0 (λ e. omega arith) in
    let f = get_or-set_other v (slot p i) (slot q j) (u / key_base) 0 (λ e. k (omega arith)) in
    rw (a, b, d, f)

pub length-put : (v : List ℕ) (p i u : ℕ) → length (put_key v p i u) ≡ length v
unfolding put_key
length-put v p i u = simp length-set
