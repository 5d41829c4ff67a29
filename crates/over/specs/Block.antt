-- The rows of a block, feet and heads: row x + 2 j is the foot of piece j, row x + 2 j + 1 its head.
--     Crossable        what walks for feet and heads ask
--     Aside            a row that is none of the c pieces from x on
--     Crossed          what they leave: feet are matched with the rows from y on, heads with those from z on
--     Alike            two blocks whose pieces have equal heads where they have equal feet, and the other way round
--     Stacked          a block of pieces one above the other
--     Joinable         what walks ask that join two blocks: they share no row
--     Joined           what they leave: feet of equal heights in the two blocks lead to each other, and so do heads
--     Facing           two blocks of c pieces in a table of links of that length, that from y on below that from x on
--     Same             each row of the one and that of the other lead to each other
use Rattle.std.specs.Prelude.{◌≡◌, ℕ, suc, ◌+◌, ◌*◌, ◌<◌, ◌≤◌, Bool, true, cond, ◌⊎◌, List, length, ℤ, ◌≢◌, int_le, int_lt}
use Rattle.paper.specs.Width.{link_width, dart_limit}
use Rattle.number.specs.First.{side}
use Rattle.over.specs.Over.{height_at, link_of, Overable}

abbrev pub Crossable : List ℤ → ℕ → List ℕ → ℕ → ℕ → ℕ → ℕ → ℕ → ℕ → Type 0
Crossable op m ol a x c y z e = Overable op m ol a x c y e × Overable op m ol a (x + 1) c z e

abbrev pub Aside : ℕ → ℕ → ℕ → Type 0
Aside x c q = (q < x) ⊎ (x + c * 2 ≤ q)

pub record Crossed (op : List ℤ) (m a x c y z e : ℕ) (ol ol' : List ℕ) : Type 0 where
  pub long : length ol' ≡ length ol
  pub met : (j i : ℕ) (s : Bool) → j < c → i < e → height_at op m (x + j * 2 + side s) ≡ height_at op m (cond s y z + i * 2)
      → link_of ol' (x + j * 2 + side s) a ≡ cond s y z + i * 2
  pub missed : (j : ℕ) (s : Bool) → j < c → ((i : ℕ) → i < e → height_at op m (x + j * 2 + side s) ≢ height_at op m (cond s y z + i * 2))
      → link_of ol' (x + j * 2 + side s) a ≡ link_of ol (x + j * 2 + side s) a
  pub other : (q b : ℕ) → b < link_width → (b ≡ a → Aside x c q) → link_of ol' q b ≡ link_of ol q b

pub record Alike (op : List ℤ) (m x c y e : ℕ) : Type 0 where
  pub heads : (j i : ℕ) → j < c → i < e → height_at op m (x + j * 2) ≡ height_at op m (y + i * 2) → height_at op m (x + j * 2 + 1) ≡ height_at op m (y + i * 2 + 1)
  pub feet : (j i : ℕ) → j < c → i < e → height_at op m (x + j * 2 + 1) ≡ height_at op m (y + i * 2 + 1) → height_at op m (x + j * 2) ≡ height_at op m (y + i * 2)

pub record Stacked (op : List ℤ) (m x c : ℕ) : Type 0 where
  pub tall : (j : ℕ) → j < c → int_lt (height_at op m (x + j * 2)) (height_at op m (x + j * 2 + 1)) ≡ true
  pub next : (j : ℕ) → suc j < c → int_le (height_at op m (x + j * 2 + 1)) (height_at op m (x + suc j * 2)) ≡ true

pub record Joinable (op : List ℤ) (m : ℕ) (ol : List ℕ) (a x c y e : ℕ) : Type 0 where
  pub apart : (x + c * 2 ≤ y) ⊎ (y + e * 2 ≤ x)
  pub links : (y + e * 2) * link_width ≤ length ol
  pub walks : Crossable op m ol a x c y (y + 1) e

pub record Joined (op : List ℤ) (m a x c y e : ℕ) (ol ol' : List ℕ) : Type 0 where
  pub long : length ol' ≡ length ol
  pub met : (j i : ℕ) (s : Bool) → j < c → i < e → height_at op m (x + j * 2 + side s) ≡ height_at op m (y + i * 2 + side s)
      → (link_of ol' (x + j * 2 + side s) a ≡ y + i * 2 + side s) × (link_of ol' (y + i * 2 + side s) a ≡ x + j * 2 + side s)
  pub own_missed : (j : ℕ) (s : Bool) → j < c → ((i : ℕ) → i < e → height_at op m (x + j * 2 + side s) ≢ height_at op m (y + i * 2 + side s))
      → link_of ol' (x + j * 2 + side s) a ≡ link_of ol (x + j * 2 + side s) a
  pub other_missed : (i : ℕ) (s : Bool) → i < e → ((j : ℕ) → j < c → height_at op m (x + j * 2 + side s) ≢ height_at op m (y + i * 2 + side s))
      → link_of ol' (y + i * 2 + side s) a ≡ link_of ol (y + i * 2 + side s) a
  pub rest : (q b : ℕ) → b < link_width → (b ≡ a → Aside x c q × Aside y e q) → link_of ol' q b ≡ link_of ol q b

pub record Facing (a x c y len : ℕ) : Type 0 where
  pub axis : a < link_width
  pub below : y + c * 2 ≤ x
  pub own : x + c * 2 ≤ dart_limit + 1
  pub own_links : (x + c * 2) * link_width ≤ len

pub record Same (a x c y : ℕ) (ol ol' : List ℕ) : Type 0 where
  pub long : length ol' ≡ length ol
  pub up : (r : ℕ) → r < c * 2 → link_of ol' (x + r) a ≡ y + r
  pub down : (r : ℕ) → r < c * 2 → link_of ol' (y + r) a ≡ x + r
  pub other : (q b : ℕ) → b < link_width → (b ≡ a → ((q < y) ⊎ (y + c * 2 ≤ q)) × ((q < x) ⊎ (x + c * 2 ≤ q))) → link_of ol' q b ≡ link_of ol q b
