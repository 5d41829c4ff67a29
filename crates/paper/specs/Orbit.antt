-- The darts that are reached from a dart by links of some axes.
--     Reach            a path of links from d to e
--     orbit            the same for links that undo themselves, as a computed list of marks: entry e is true where e is reached
--     marked           a dart is in a set that is given by its marks
--     size             how many darts below n are in it
-- Over any link function α (axis, then dart), the axes j ≤ m that pass the test S, and the darts below n.
use Rattle.std.specs.Prelude.{◌≡◌, ℕ, zero, suc, ◌≤◌, Bool, true, false, ◌&&◌, ◌||◌, List, replicate, slice_index_or, slice_set}
use Rattle.std.specs.Bool.{beq}
use Rattle.paper.specs.Below.{any_below, count_below, list_below, same_list}

-- A dart reaches itself, and what a link of one of the axes leads to from a dart that is reached.
pub data Reach (α : ℕ → ℕ → ℕ) (m : ℕ) (S : ℕ → Bool) (d : ℕ) : ℕ → Type 0 where
  here : Reach α m S d d
  step : {e g : ℕ} → Reach α m S d e → (j : ℕ) → j ≤ m → S j ≡ true → α j e ≡ g → Reach α m S d g

abbrev pub marked : List Bool → ℕ → Bool
marked ms e = slice_index_or ms e false

unfoldable pub size : ℕ → List Bool → ℕ
size n ms = count_below n (marked ms)

-- e is marked, or a link of one of the axes leads from it to a marked dart
unfoldable pub near : (ℕ → ℕ → ℕ) → ℕ → (ℕ → Bool) → List Bool → ℕ → Bool
near α m S ms e = let r = any_below (suc m) (λ j. S j && marked ms (α j e)) in marked ms e || r

unfoldable pub round : (ℕ → ℕ → ℕ) → ℕ → (ℕ → Bool) → ℕ → List Bool → List Bool
round α m S n ms = list_below n (near α m S ms)

-- at most c rounds, fewer where one marks nothing new
unfoldable pub settle : (ℕ → ℕ → ℕ) → ℕ → (ℕ → Bool) → ℕ → ℕ → List Bool → List Bool
settle α m S n zero ms = ms
settle α m S n (suc c) ms = let ms' = round α m S n ms in elim (same_list beq ms ms') [ true ↦ ms | false ↦ settle α m S n c ms' ]

unfoldable pub orbit : (ℕ → ℕ → ℕ) → ℕ → (ℕ → Bool) → ℕ → ℕ → List Bool
orbit α m S n d = settle α m S n n (slice_set (replicate n false) d true)
