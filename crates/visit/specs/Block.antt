-- The rows of a plan dart at a level, its block, in the lifted side's tables.
--     Outside          a row that is none of the block
--     PlacedAt         the block has its places
--     Linked           axis i of each of its rows leads where document 01 says
--     Inner            so does each axis up to m but the one to the next level; an axis past m + 1 has the row's own number
--     Touched          the axis after the level joins pieces that touch; elsewhere it has the row's own number
--     Own              axis m + 1 has the row's own number
--     Cross            a walk by height from a block to itself, read piece by piece
--     Ways             walks by height that join two blocks, read so
--     Laid             the block has its places, and its first row tells how many pieces it has, for its links to be written
--     Lays             what laying a block leaves
--     Wired            the links that writing a block leaves
--     Written          a block with its places and links
--     Connected          what linking the block of a dart leaves
use Rattle.std.specs.Prelude.{◌≡◌, ℕ, suc, ◌+◌, ◌-◌, ◌*◌, ◌<◌, ◌≤◌, Bool, not, ◌⊎◌, List, [], ◌∷◌, ◌++◌, ℤ, pos, ◌≢◌, slice_index_or, slice_set}
use Rattle.paper.specs.Width.{link_width, place_width}
use Rattle.paper.specs.Map.{Map, place}
use Rattle.number.specs.Count.{piece_count}
use Rattle.number.specs.First.{end_of, first, number_of}
use Rattle.number.specs.Targets.{target_of, Missing}
use Rattle.base.specs.Base.{slot}
use Rattle.places.specs.Write.{coord_at}
use Rattle.over.specs.Over.{link_of}

abbrev pub Outside : Map → ℕ → ℕ → ℕ → Type 0
Outside M d k q = (q < first M d k) ⊎ (first M d k + piece_count M d k * 2 ≤ q)

abbrev pub PlacedAt : Map → List ℤ → ℕ → ℕ → Type 0
PlacedAt M op d k =
    (j : ℕ) (s : Bool) (a : ℕ) → j < piece_count M d k → a < place_width
    → coord_at op (number_of M d k j s) a ≡ slice_index_or (place M d ++ (end_of M d k j s ∷ [])) a (pos 0)

abbrev pub Linked : Map → List ℕ → ℕ → ℕ → ℕ → Type 0
Linked M ol d k i = (j : ℕ) (s : Bool) → j < piece_count M d k → link_of ol (number_of M d k j s) i ≡ target_of M d k i j s

abbrev pub Own : Map → List ℕ → ℕ → ℕ → ℕ → Type 0
Own M ol d k i = (j : ℕ) (s : Bool) → j < piece_count M d k → link_of ol (number_of M d k j s) i ≡ number_of M d k j s

pub record Inner (M : Map) (ol : List ℕ) (d k : ℕ) : Type 0 where
  pub right : (i : ℕ) → i ≤ M.dim → (i ≢ suc k) → Linked M ol d k i
  pub free : (i : ℕ) → suc M.dim < i → i < link_width → Own M ol d k i

pub record Touched (M : Map) (ol : List ℕ) (d k : ℕ) : Type 0 where
  pub met : (j j' : ℕ) (s : Bool) → j < piece_count M d k → j' < piece_count M d k → end_of M d k j s ≡ end_of M d k j' (not s)
      → link_of ol (number_of M d k j s) (suc k) ≡ number_of M d k j' (not s)
  pub missed : (j : ℕ) (s : Bool) → j < piece_count M d k → Missing M d k j s d k (not s) → link_of ol (number_of M d k j s) (suc k) ≡ number_of M d k j s

-- The block of dart d at level k, written.
pub record Written (M : Map) (d k : ℕ) (op : List ℤ) (ol : List ℕ) (op' : List ℤ) (ol' : List ℕ) : Type 0 where
  pub placed : PlacedAt M op' d k
  pub inner : Inner M ol' d k
  pub touched : Touched M ol' d k
  pub own : k < M.dim → Own M ol' d k (suc M.dim)
  -- the level below is joined to this one
  pub joined : (l : ℕ) → suc l ≡ k → Linked M ol' d l k
  -- nothing else is written
  pub places_same : (q a : ℕ) → a < place_width → Outside M d k q → coord_at op' q a ≡ coord_at op q a
  pub links_same : (q b : ℕ) → b < link_width → Outside M d k q → ((l : ℕ) → suc l ≡ k → b ≡ k → Outside M d l q) → link_of ol' q b ≡ link_of ol q b

-- Where the block has rows: the links are not written yet, so that there is room for a number.
pub record Laid (M : Map) (op : List ℤ) (ol : List ℕ) (d k : ℕ) : Type 0 where
  pub placed : PlacedAt M op d k
  pub told : 0 < piece_count M d k → link_of ol (first M d k) 0 ≡ piece_count M d k

pub record Lays (M : Map) (d k : ℕ) (op : List ℤ) (ol : List ℕ) (op' : List ℤ) (ol' : List ℕ) : Type 0 where
  pub laid : Laid M op' ol' d k
  -- nothing else is written: of the links one number, where there are rows
  pub places_same : (q a : ℕ) → a < place_width → Outside M d k q → coord_at op' q a ≡ coord_at op q a
  pub links_same : (q b : ℕ) → b < link_width → ((0 < piece_count M d k) × ((q ≡ first M d k) × (b ≡ 0)) → ⊥) → link_of ol' q b ≡ link_of ol q b

-- The block of dart d at level k is linked, whose bases stand in half h: that of the next level goes to the other half.
pub record Connected (M : Map) (n d k h : ℕ) (op : List ℤ) (ol w : List ℕ) (ol' w' : List ℕ) : Type 0 where
  pub written : Written M d k op ol op ol'
  pub base : w' ≡ slice_set w (slot n (1 - h) d) (first M d (suc k))

-- Axis a of the block of d at level k was matched by height with the block itself, each side with the other.
pub record Cross (M : Map) (a d k : ℕ) (ol ol' : List ℕ) : Type 0 where
  pub met : (j j' : ℕ) (s : Bool) → j < piece_count M d k → j' < piece_count M d k → end_of M d k j s ≡ end_of M d k j' (not s)
      → link_of ol' (number_of M d k j s) a ≡ number_of M d k j' (not s)
  pub missed : (j : ℕ) (s : Bool) → j < piece_count M d k → Missing M d k j s d k (not s) → link_of ol' (number_of M d k j s) a ≡ link_of ol (number_of M d k j s) a
  pub other : (q b : ℕ) → b < link_width → (b ≡ a → Outside M d k q) → link_of ol' q b ≡ link_of ol q b

-- Axis a of the block of d at level k and of that of e at level l was matched by height, like side with like side: equal ends lead to each other.
pub record Ways (M : Map) (a d k e l : ℕ) (ol ol' : List ℕ) : Type 0 where
  pub met : (j i : ℕ) (s : Bool) → j < piece_count M d k → i < piece_count M e l → end_of M d k j s ≡ end_of M e l i s
      → (link_of ol' (number_of M d k j s) a ≡ number_of M e l i s) × (link_of ol' (number_of M e l i s) a ≡ number_of M d k j s)
  pub own_missed : (j : ℕ) (s : Bool) → j < piece_count M d k → Missing M d k j s e l s → link_of ol' (number_of M d k j s) a ≡ link_of ol (number_of M d k j s) a
  pub other_missed : (i : ℕ) (s : Bool) → i < piece_count M e l → Missing M e l i s d k s → link_of ol' (number_of M e l i s) a ≡ link_of ol (number_of M e l i s) a
  pub rest : (q b : ℕ) → b < link_width → (b ≡ a → Outside M d k q × Outside M e l q) → link_of ol' q b ≡ link_of ol q b

-- The links that writing the block of dart d at level k leaves: what `Written` says of them.
pub record Wired (M : Map) (d k : ℕ) (ol ol' : List ℕ) : Type 0 where
  pub inner : Inner M ol' d k
  pub touched : Touched M ol' d k
  pub own : k < M.dim → Own M ol' d k (suc M.dim)
  pub joined : (l : ℕ) → suc l ≡ k → Linked M ol' d l k
  pub links_same : (q b : ℕ) → b < link_width → Outside M d k q → ((l : ℕ) → suc l ≡ k → b ≡ k → Outside M d l q) → link_of ol' q b ≡ link_of ol q b
