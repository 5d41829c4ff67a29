-- What a run leaves, and demand 3 of it.
--     lent_to_run        what was lent: the tables by their lengths, and the reply memory as it was
--     room_in           the room of a run in it
--     Ran              the contract of a run
use Rattle.std.specs.Prelude.{◌≡◌, ℕ, List, length}
use Rattle.paper.specs.Table.{Tables, LiftedTables, lengths, lifted_lengths, plan_capacity, lifted_capacity}
use Rattle.paper.specs.Step.{Room}
use Rattle.paper.specs.Run.{room_of, Lent, run_in, left}
use Rattle.paper.specs.declared.Ended.{Ended}
use Rattle.theory.specs.Fit.{ObjectsFit}
use Rattle.theory.specs.Found.{Found}

abbrev pub lent_to_run : Tables → LiftedTables → List ℕ → Lent
lent_to_run T O memory = record { plan = lengths T; lifted = lifted_lengths O; memory = memory }

-- the room of a run in what is lent
abbrev pub room_in : Lent → Room
room_in L = room_of (plan_capacity L.plan) (lifted_capacity L.lifted) (length L.memory)

pub record Ran (bytes : List ℕ) (L : Lent) (r : Ended) (T : Tables) (O : LiftedTables) (memory : List ℕ) : Type 0 where
  -- What was done. The four numbers are those of the run on paper over the same bytes: the one it ended by, and commands taken, accepted and refused.
  pub ended : r ≡ (left bytes L).ended
  -- The plan's tables hold its plan row for row, and 0 past it to the end of each.
  pub plan : T ≡ (left bytes L).plan
  -- The lifted side's tables hold its lifted map and the objects that its darts carry, one a dart, and 0 past them.
  pub lifted : O ≡ (left bytes L).lifted
  -- The reply memory holds its replies in order, and past them what it held.
  pub replies : memory ≡ (left bytes L).memory
  -- The objects of its plan's rows fit 16 bits: what the code reads are bytes.
  pub fit : ObjectsFit (run_in bytes L).plan
  -- Demand 3, of that run on paper: what is found after it, and what was done.
  pub found : Found bytes (plan_capacity L.plan) (lifted_capacity L.lifted) (length L.memory)
