-- Both sides' tables as a run leaves them, and one command on them. T are the plan's tables, O the lifted side's.
--     Stands           the tables hold the two maps of s and what its lifted darts carry, with these sizes and capacities
--     Standing         there are such maps
--     Taken            what a command leaves: its reply, and tables that hold the two maps after it, and what lifted darts carry, with the sizes that it answers;
--                      the plan's objects fit as before
use Rattle.std.specs.Prelude.{◌≡◌, ℕ}
use Rattle.paper.specs.Table.{Tables, LiftedTables}
use Rattle.paper.specs.Step.{Maps, Room, reply, after}
use Rattle.paper.specs.declared.Command.{Command}
use Rattle.theory.specs.Fit.{ObjectsFit}
use Rattle.hold.specs.Hold.{HoldsPlan, HoldsLifted}
use Rattle.hold.specs.Stand.{PlanStands, LiftedStands}
use Rattle.sizes.specs.declared.Sizes.{Sizes}
use Rattle.sizes.specs.declared.Stepped.{Stepped}

pub record Stands (R : Room) (s : Maps) (z : Sizes) (room lroom : ℕ) (T : Tables) (O : LiftedTables) : Type 0 where
  pub plan : PlanStands R s z.m z.n T.links T.places T.spans T.work
  pub lifted : LiftedStands R s z.lm z.ln O
  pub room_is : R.plan ≡ room
  pub lroom_is : R.lifted ≡ lroom

pub record Standing (z : Sizes) (room lroom : ℕ) (T : Tables) (O : LiftedTables) : Type 0 where
  pub R : Room
  pub maps : Maps
  pub stands : Stands R maps z room lroom T O

pub record Taken (R : Room) (s : Maps) (c : Command) (r : Stepped) (T : Tables) (O : LiftedTables) : Type 0 where
  pub answer : r.answer ≡ reply R s c
  pub plan : HoldsPlan (after R s c).plan r.sizes.m r.sizes.n T.links T.places T.spans
  pub lifted : HoldsLifted (after R s c).lifted (after R s c).objects r.sizes.lm r.sizes.ln O
  pub fit : ObjectsFit (after R s c).plan
