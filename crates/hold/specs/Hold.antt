-- Tables that hold a map.
--     HoldsMap         a side's links and places are those of the map, row for row with 0 past them, as far as the tables reach: that they have a row for each dart is `HasRoom`
--     HoldsPlan        and the plan's spans are
--     HoldsLifted      a map in the lifted side's tables, with the objects that its darts carry
--     HasLinks         the links of the map can be read in the table; what stands past the last dart, or past axis m, is not looked at
--     Reads            so can the links and rows of a valid map, from raw tables
use Rattle.std.specs.Prelude.{◌≡◌, ℕ, ◌<◌, ◌≤◌, List, length, ℤ}
use Rattle.paper.specs.Width.{dart_limit}
use Rattle.paper.specs.Map.{Map, count, link, owned}
use Rattle.paper.specs.Table.{LiftedTables, links_table, places_table, spans_table, objects_table, owned_at}
use Rattle.theory.specs.Local.{Local}
use Rattle.kernel.specs.Link.{alpha}
use Rattle.span.specs.Row.{RowIn}

pub record HoldsMap (M : Map) (m n : ℕ) (ls : List ℕ) (ps : List ℤ) : Type 0 where
  pub dims : M.dim ≡ m
  pub darts : count M ≡ n
  pub links : ls ≡ links_table M (length ls)
  pub places : ps ≡ places_table M (length ps)

pub record HoldsPlan (M : Map) (m n : ℕ) (ls : List ℕ) (ps ss : List ℤ) : Type 0 where
  pub map : HoldsMap M m n ls ps
  pub spans : ss ≡ spans_table M (length ss)

-- a map in the lifted side's tables, which have no spans, and what its darts carry
pub record HoldsLifted (M : Map) (l : List ℕ) (m n : ℕ) (O : LiftedTables) : Type 0 where
  pub map : HoldsMap M m n O.links O.places
  pub objects : O.objects ≡ objects_table l (length O.objects)

pub record HasLinks (M : Map) (m n : ℕ) (ls : List ℕ) : Type 0 where
  pub dims : M.dim ≡ m
  pub darts : count M ≡ n
  -- each link
  pub links : (j d : ℕ) → d < n → j ≤ m → link M j d ≡ alpha ls j d

pub record Reads (M : Map) (m n : ℕ) (ls : List ℕ) (ss : List ℤ) : Type 0 where
  pub holds : HasLinks M m n ls
  pub valid : Local M
  -- each row with its objects, which is in the table and has a count from 0 to 8
  pub same : (e : ℕ) → e < n → owned M e ≡ owned_at ss e
  pub rows : (e : ℕ) → e < n → RowIn ss e
  pub few : n ≤ dart_limit
