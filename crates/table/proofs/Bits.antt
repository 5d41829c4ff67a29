-- The byte with bit i set for each i below n that passes.
--     byte             the byte
--     byte-lt          it is below 2 ^ n
--     ones-count       as many bits are set as numbers pass
--     bit-set, bit-clear     one bit more, set or not
--     weight-le, shifted     the weight of a bit, as a shift has it
use Rattle.std.proofs.Common.{◌%◌, ◌≡◌, ℕ, zero, suc, ◌+◌, ◌*◌, ◌^◌, ◌<◌, ◌≤◌, Bool, true, false, cond, sym, refl, ap, ◌∙◌, one-mul, pow-suc, zero-add, add-one, arith, lit<, pow_mono}
use Rattle.std.proofs.Math.Nat.{mod-eq_of_lt}
use lib.Count.{ones, ones_cat}
use Rattle.paper.specs.Below.{count_below, sum_below}

abbrev pub byte : (ℕ → Bool) → ℕ → ℕ
byte f n = sum_below n (λ i. cond (f i) (2 ^ i) 0)

within : (b : Bool) (n r : ℕ) → r < 2 ^ n → cond b (2 ^ n) 0 + r < 2 ^ suc n
within true n r h = omega (arith, pow-suc 2 n)
within false n r h = omega (arith, pow-suc 2 n)

pub byte-lt : (f : ℕ → Bool) (n : ℕ) → byte f n < 2 ^ n
unfolding sum_below
byte-lt f zero = lit< tt
byte-lt f (suc n) = within (f n) n (byte f n) (byte-lt f n)

one_more : (b : Bool) (n r : ℕ) → r < 2 ^ n → ones (cond b (2 ^ n) 0 + r) ≡ cond b 1 0 + ones r
unfolding ones
one_more true n r h = ap (λ (x : ℕ). ones (x + r)) (sym (one-mul (2 ^ n))) ∙ ones_cat n 1 r h
one_more false n r h = ap ones (zero-add r) ∙ sym (zero-add (ones r))

pub ones-count : (f : ℕ → Bool) (n : ℕ) → ones (byte f n) ≡ count_below n f
unfolding sum_below count_below ones
ones-count f zero = refl
ones-count f (suc n) = one_more (f n) n (byte f n) (byte-lt f n) ∙ ap (λ (x : ℕ). cond (f n) 1 0 + x) (ones-count f n)

byte_more : (f : ℕ → Bool) (n : ℕ) → byte f (n + 1) ≡ cond (f n) (2 ^ n) 0 + byte f n
unfolding sum_below
byte_more f n = rw add-one

pub bit-set : (f : ℕ → Bool) (n b w : ℕ) → f n ≡ true → w ≡ 2 ^ n → b ≡ byte f n → b + w ≡ byte f (n + 1)
bit-set f n b w t v e = sym (byte_more f n ∙ rw t (omega arith))

pub bit-clear : (f : ℕ → Bool) (n b : ℕ) → f n ≡ false → b ≡ byte f n → b ≡ byte f (n + 1)
bit-clear f n b t e = e ∙ sym (byte_more f n ∙ rw t (zero-add (byte f n)))

-- six axes at most: the weight of the last is 32
pub weight-le : (n : ℕ) → n < 6 → 2 ^ n ≤ 32
weight-le n h = pow_mono {i = n} {j = 5} (omega arith)

pub shifted : (n : ℕ) → n < 6 → 1 * 2 ^ n % 256 ≡ 2 ^ n
shifted n h =
    let p = weight-le n h in
    ap (λ (x : ℕ). x % 256) (one-mul (2 ^ n)) ∙ mod-eq_of_lt (omega arith)
