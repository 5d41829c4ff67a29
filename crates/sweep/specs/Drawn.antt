-- How far the lifted side's tables are written.
--     Drawn            the blocks of D are written; those of O have their links over the boundary too
--     Paired           d is the higher one of a dart and its neighbour over the boundary
--     OverAt           what the links over the boundary change of the blocks of such two darts
--     Complete         the whole lifted map is written
use Rattle.std.specs.Prelude.{◌≡◌, ℕ, suc, ◌<◌, ◌≤◌, ◌⊎◌, List, length, ℤ}
use Rattle.paper.specs.Width.{link_width, place_width}
use Rattle.paper.specs.Map.{Map, count, link}
use Rattle.paper.specs.Table.{link_at, place_at}
use Rattle.paper.specs.Lift.{lifted_darts, lift}
use Rattle.places.specs.Write.{coord_at}
use Rattle.over.specs.Over.{link_of}
use Rattle.visit.specs.Block.{Outside, PlacedAt, Linked, Own, Inner, Touched}

-- D d k: the block of d at level k is written. A level's link to the next one is made when that one is written.
pub record Drawn (M : Map) (D O : ℕ → ℕ → Type 0) (op : List ℤ) (ol : List ℕ) : Type 0 where
  pub within : (d k : ℕ) → D d k → (d < count M) × (k ≤ M.dim)
  pub sub : (d k : ℕ) → O d k → D d k
  pub placed : (d k : ℕ) → D d k → PlacedAt M op d k
  pub inner : (d k : ℕ) → D d k → Inner M ol d k
  pub touched : (d k : ℕ) → D d k → (D d (suc k) → ⊥) → Touched M ol d k
  pub joined : (d k : ℕ) → D d (suc k) → Linked M ol d k (suc k)
  pub own : (d k : ℕ) → D d k → (O d k → ⊥) → k < M.dim → Own M ol d k (suc M.dim)
  pub over : (d k : ℕ) → O d k → k < M.dim → Linked M ol d k (suc M.dim)

abbrev pub Paired : Map → ℕ → ℕ → Type 0
Paired M d e = ((e ≤ d) × (link M M.dim e ≤ d)) × ((e ≡ d) ⊎ (link M M.dim e ≡ d))

pub record OverAt (M : Map) (d k : ℕ) (ol ol' : List ℕ) : Type 0 where
  pub right : (e : ℕ) → Paired M d e → k < M.dim → Linked M ol' e k (suc M.dim)
  pub same : (q b : ℕ) → b < link_width → (b ≡ suc M.dim → (e : ℕ) → Paired M d e → Outside M e k q) → link_of ol' q b ≡ link_of ol q b

-- Every row of the lifted map is there.
pub record Complete (M : Map) (op : List ℤ) (ol : List ℕ) : Type 0 where
  pub links : (q i : ℕ) → q < length (lifted_darts M) → i < link_width → link_of ol q i ≡ link_at (lift M) q i
  pub places : (q a : ℕ) → q < length (lifted_darts M) → a < place_width → coord_at op q a ≡ place_at (lift M) q a
