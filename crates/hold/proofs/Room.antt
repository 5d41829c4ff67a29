-- A count within a capacity has room.
--     plan-room        in the plan's tables
--     lifted-room      in the lifted side's
use Rattle.std.proofs.Common.{ℕ, ◌≤◌, arith}
use Rattle.paper.specs.Table.{Lengths, LiftedLengths, plan_capacity, lifted_capacity}
use Rattle.hold.specs.Room.{HasRoom, LiftedHasRoom}

pub plan-room : (l : Lengths) (n : ℕ) → n ≤ plan_capacity l → HasRoom l n
unfolding plan_capacity
plan-room l n h = record { few = omega arith; links = omega arith; places = omega arith; spans = omega arith; work = omega arith }

pub lifted-room : (l : LiftedLengths) (n : ℕ) → n ≤ lifted_capacity l → LiftedHasRoom l n
unfolding lifted_capacity
lifted-room l n h = record { few = omega arith; links = omega arith; places = omega arith; objects = omega arith; work = omega arith }
