-- Where the columns of a block start.
--     start-low        below the level
--     start-high       from two above it, up to the plan's dimension
--     start-own        elsewhere: at the block itself
use Rattle.std.proofs.Common.{◌≡◌, ℕ, ◌+◌, ◌-◌, ◌<◌, ◌≤◌, Bool, true, false, ◌&&◌, leb, ◌⊎◌, List, refl, ⊎_elim, arith, le-ltb, lt-ltb, le-leb}
use borrow.Author.Tests.{lt-leb}
use Rattle.kernel.specs.Link.{alpha}
use Rattle.base.specs.Base.{base}
use Rattle.follow.specs.Fill.{start_of}

and_no : (b : Bool) → (b && false) ≡ false
and_no true = refl
and_no false = refl

module _ (ls w : List ℕ) (m n k h d x i : ℕ) where
  pub start-low : i < k → start_of ls w m n k h d x i ≡ base w n h (alpha ls i d)
  unfolding start_of
  start-low l = rw (lt-ltb i k l) refl

  pub start-high : k + 2 ≤ i → i ≤ m → start_of ls w m n k h d x i ≡ base w n h (alpha ls (i - 1) d)
  unfolding start_of
  start-high l g = rw (le-ltb i k (omega arith), le-leb (k + 2) i l, le-leb i m g) refl

  pub start-own : k ≤ i → (i < k + 2) ⊎ (m < i) → start_of ls w m n k h d x i ≡ x
  unfolding start_of
  start-own l o = ⊎_elim
      (λ g. rw (le-ltb i k l, lt-leb (k + 2) i g) refl)
      (λ g. rw (le-ltb i k l, lt-leb i m g, and_no (leb (k + 2) i)) refl)
      o
