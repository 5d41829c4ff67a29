-- Links of a block of rows that follow the plan's links: each row leads to the row as far into another block as it is into its own.
--     start_of          the first row of the block that axis i leads to from the block of d, which starts at row x: that of a neighbour, or its own
--     firsts, seconds  where the axes of the first row of a pair lead, and those of the second: to the rows after, but axis 0 to z
--     put_links         the first axes of row x lead to what a list has for them, each s rows further
--     Pairs            c pairs of rows from x on: the first rows count up from the list Y, the second ones from the list Z
--     Paired           what that asks: rows in their table, numbers that fit
--     Startable        tables from which starts can be read
--     Fillable         what filling asks
--     Filled           what filling leaves: every axis counts up from its start; at level 0, axis 0 joins the rows of each pair
use Rattle.std.specs.Prelude.{◌≡◌, ℕ, zero, suc, ◌+◌, ◌-◌, ◌*◌, ◌<◌, ◌≤◌, Bool, cond, not, ◌&&◌, ◌⊎◌, List, [], ◌∷◌, length, ◌≢◌, nat_le, nat_lt, slice_index, slice_set}
use Rattle.paper.specs.Width.{link_width, dart_limit, dim_limit}
use Rattle.number.specs.First.{side}
use Rattle.kernel.specs.Link.{alpha}
use Rattle.base.specs.Base.{base, Bases}
use Rattle.over.specs.Over.{link_of}

-- Below the level axis i of the lifted map follows the plan's axis i, from two above it the plan's axis i - 1. Half h has the first row of each dart's block.
unfoldable pub start_of : List ℕ → List ℕ → ℕ → ℕ → ℕ → ℕ → ℕ → ℕ → ℕ → ℕ
start_of ls w m n k h d x i =
    cond (nat_lt i k) (base w n h (alpha ls i d)) (cond (nat_le (k + 2) i && nat_le i m) (base w n h (alpha ls (i - 1) d)) x)

abbrev pub firsts : ℕ → ℕ → ℕ → ℕ → ℕ → ℕ → List ℕ
firsts y0 y1 y2 y3 y4 y5 = y0 ∷ y1 ∷ y2 ∷ y3 ∷ y4 ∷ y5 ∷ []

abbrev pub seconds : ℕ → ℕ → ℕ → ℕ → ℕ → ℕ → List ℕ
seconds z y1 y2 y3 y4 y5 = z ∷ (y1 + 1) ∷ (y2 + 1) ∷ (y3 + 1) ∷ (y4 + 1) ∷ (y5 + 1) ∷ []

unfoldable pub put_links : ℕ → List ℕ → ℕ → ℕ → List ℕ → List ℕ
put_links zero Y s x ol = ol
put_links (suc i) Y s x ol = slice_set (put_links i Y s x ol) (x * link_width + i) (slice_index Y i + s)

pub record Pairs (x c : ℕ) (Y Z : List ℕ) (ol ol' : List ℕ) : Type 0 where
  pub long : length ol' ≡ length ol
  pub at : (i j : ℕ) (s : Bool) → i < link_width → j < c → link_of ol' (x + j * 2 + side s) i ≡ slice_index (cond s Y Z) i + j * 2
  pub other : (q b : ℕ) → b < link_width → (q < x) ⊎ (x + c * 2 ≤ q) → link_of ol' q b ≡ link_of ol q b

pub record Paired (ol : List ℕ) (x c z y0 y1 y2 y3 y4 y5 : ℕ) : Type 0 where
  pub rows : (x + c * 2) * link_width ≤ length ol
  pub own : x + c * 2 ≤ dart_limit
  pub second : z + c * 2 ≤ dart_limit + 1
  pub first0 : y0 + c * 2 ≤ dart_limit + 1
  pub first1 : y1 + c * 2 ≤ dart_limit
  pub first2 : y2 + c * 2 ≤ dart_limit
  pub first3 : y3 + c * 2 ≤ dart_limit
  pub first4 : y4 + c * 2 ≤ dart_limit
  pub first5 : y5 + c * 2 ≤ dart_limit

pub record Startable (ls w : List ℕ) (m n k h d : ℕ) : Type 0 where
  pub dart : d < n
  pub half : h ≤ 1
  pub level : k ≤ m
  pub dims : m ≤ dim_limit
  pub links : n * link_width ≤ length ls
  pub bases : Bases w n
  pub near : (i : ℕ) → i ≤ m → alpha ls i d < n

pub record Fillable (ls w : List ℕ) (m n k h d : ℕ) (ol : List ℕ) (x c : ℕ) : Type 0 where
  pub start : Startable ls w m n k h d
  pub rows : (x + c * 2) * link_width ≤ length ol
  pub own : x + c * 2 ≤ dart_limit
  pub starts : (i : ℕ) → i < link_width → start_of ls w m n k h d x i + c * 2 ≤ dart_limit

pub record Filled (ls w : List ℕ) (m n k h d x c : ℕ) (ol ol' : List ℕ) : Type 0 where
  pub long : length ol' ≡ length ol
  pub at : (i j : ℕ) (s : Bool) → i < link_width → j < c → (i ≡ 0 → k ≢ 0) → link_of ol' (x + j * 2 + side s) i ≡ start_of ls w m n k h d x i + j * 2 + side s
  pub pair : (j : ℕ) (s : Bool) → j < c → k ≡ 0 → link_of ol' (x + j * 2 + side s) 0 ≡ x + j * 2 + side (not s)
  pub other : (q b : ℕ) → b < link_width → (q < x) ⊎ (x + c * 2 ≤ q) → link_of ol' q b ≡ link_of ol q b
