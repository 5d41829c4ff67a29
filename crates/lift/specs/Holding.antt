-- The theorem beside the lift call: what it leaves where it accepts.
--     map              the tables hold the lift of the plan, and what its darts carry
--     valid            which is a valid map
use Rattle.std.specs.Prelude.{◌≡◌, ℕ, suc}
use Rattle.paper.specs.Valid.{Valid}
use Rattle.paper.specs.Lift.{lift, carried_objects}
use Rattle.paper.specs.Table.{Tables, LiftedTables}
use Rattle.paper.specs.Call.{held}
use Rattle.hold.specs.Hold.{HoldsLifted}

pub record LeavesLift (T : Tables) (m n number value : ℕ) (O : LiftedTables) : Type 0 where
  pub map : number ≡ 0 → HoldsLifted (lift (held T m n)) (carried_objects (held T m n)) (suc m) value O
  pub valid : number ≡ 0 → Valid (lift (held T m n))
