-- The lift of a plan that tables hold. T are the plan's tables, O the lifted side's.
--     links_put, places_put     a table whose first rows are those of a map; past them it is as it was
--     objects_put       a table of objects whose first ones are those of a list
--     lift_put          the lifted side's tables with the rows of a map, and what its darts carry
--     Liftable         what the lift of known tables asks: they hold a valid plan whose objects fit, and the tables are long enough for n darts and for room lifted ones
--     Raised           what the write leaves: the rows of the lifted map, what its darts carry, and how many they are; or, where there is no room for it, nothing and room + 1
--     BlankPast        the lifted side's tables are 0 behind so many rows
--     Lifted           what is left where rows up to row old were in use: the lifted map and what its darts carry, with 0 past them, if there was 0 behind row old
use Rattle.std.specs.Prelude.{◌≡◌, ℕ, ◌+◌, ◌*◌, ◌<◌, ◌≤◌, List, length, ℤ, pos, slice_index, slice_index_or}
use Rattle.paper.specs.Width.{link_width, place_width, object_width}
use Rattle.paper.specs.Map.{Map, count}
use Rattle.paper.specs.Table.{Tables, LiftedTables, lent_lifted, lengths, lifted_lengths, links_table, places_table, lifted_tables}
use Rattle.paper.specs.Lift.{lifted_darts, lift, carried_objects}
use Rattle.paper.specs.Call.{held}
use Rattle.theory.specs.Fit.{ObjectsFit}
use Rattle.kernel.specs.Copy.{copied}
use Rattle.hold.specs.Hold.{Reads}
use Rattle.hold.specs.Room.{HasRoom, LiftedHasRoom}

abbrev pub links_put : Map → List ℕ → List ℕ
links_put L l = copied (count L * link_width) (links_table L (count L * link_width)) l

abbrev pub places_put : Map → List ℤ → List ℤ
places_put L l = copied (count L * place_width) (places_table L (count L * place_width)) l

abbrev pub objects_put : List ℕ → List ℕ → List ℕ
objects_put objects l = copied (length objects) objects l

abbrev pub lift_put : Map → List ℕ → LiftedTables → LiftedTables
lift_put L objects O = lent_lifted (links_put L O.links) (places_put L O.places) (objects_put objects O.objects) O.work

pub record Liftable (T : Tables) (m n : ℕ) (O : LiftedTables) (room : ℕ) : Type 0 where
  pub plan : Reads (held T m n) m n T.links T.spans
  pub objects : ObjectsFit (held T m n)
  pub own : HasRoom (lengths T) n
  pub lifted : LiftedHasRoom (lifted_lengths O) room

pub record Raised (M : Map) (room : ℕ) (O : LiftedTables) (r : ℕ) (O' : LiftedTables) : Type 0 where
  pub count : length (lifted_darts M) ≤ room → r ≡ length (lifted_darts M)
  pub tables : length (lifted_darts M) ≤ room → O' ≡ lift_put (lift M) (carried_objects M) O
  -- no room
  pub over : room < length (lifted_darts M) → r ≡ room + 1
  pub stay : room < length (lifted_darts M) → O' ≡ O

pub record BlankPast (rows : ℕ) (O : LiftedTables) : Type 0 where
  pub links : (i : ℕ) → rows * link_width ≤ i → slice_index O.links i ≡ 0
  pub places : (i : ℕ) → rows * place_width ≤ i → slice_index_or O.places i (pos 0) ≡ pos 0
  pub objects : (i : ℕ) → rows * object_width ≤ i → slice_index O.objects i ≡ 0

pub record Lifted (M : Map) (room old : ℕ) (O : LiftedTables) (r : ℕ) (O' : LiftedTables) : Type 0 where
  pub count : length (lifted_darts M) ≤ room → r ≡ length (lifted_darts M)
  pub tables : length (lifted_darts M) ≤ room → BlankPast old O → O' ≡ lifted_tables (lift M) (carried_objects M) (lifted_lengths O)
  -- no room
  pub over : room < length (lifted_darts M) → r ≡ room + 1
  pub stay : room < length (lifted_darts M) → O' ≡ O
