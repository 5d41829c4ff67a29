-- Lent tables as a run leaves them, and what a command makes of them. ls, ps, ss are the plan's tables and w the length of its work, O the lifted side's.
--     PlanStands       the plan's tables hold the plan of s: both maps are good, its objects fit, and the room R is their capacity
--     LiftedStands     the lifted side's tables hold the lifted map of s and what its darts carry: both maps are good, and the room R is their capacity
--     Edited           what a command on the plan leaves: its reply, and tables that hold the plan after it, of dimension m with n darts
--     Replaced         what a command on the lifted side leaves: its reply, and tables that hold the lifted map after it and what its darts carry
use Rattle.std.specs.Prelude.{◌≡◌, ℕ, List, ℤ}
use Rattle.paper.specs.Table.{LiftedTables, lent, lengths, lifted_lengths, plan_capacity, lifted_capacity}
use Rattle.paper.specs.Step.{Maps, Room, reply, after}
use Rattle.paper.specs.declared.Command.{Command}
use Rattle.paper.specs.declared.Answer.{Answer}
use Rattle.theory.specs.Good.{Good}
use Rattle.theory.specs.Fit.{ObjectsFit}
use Rattle.hold.specs.Hold.{HoldsPlan, HoldsLifted}

pub record PlanStands (R : Room) (s : Maps) (m n : ℕ) (ls : List ℕ) (ps ss : List ℤ) (w : ℕ) : Type 0 where
  pub good : Good R s
  pub fit : ObjectsFit s.plan
  pub held : HoldsPlan s.plan m n ls ps ss
  pub room : R.plan ≡ plan_capacity (lengths (lent ls ps ss w))

pub record LiftedStands (R : Room) (s : Maps) (m n : ℕ) (O : LiftedTables) : Type 0 where
  pub good : Good R s
  pub held : HoldsLifted s.lifted s.objects m n O
  pub room : R.lifted ≡ lifted_capacity (lifted_lengths O)

pub record Edited (R : Room) (s : Maps) (c : Command) (r : Answer) (m n : ℕ) (ls : List ℕ) (ps ss : List ℤ) : Type 0 where
  pub answer : r ≡ reply R s c
  pub plan : HoldsPlan (after R s c).plan m n ls ps ss

pub record Replaced (R : Room) (s : Maps) (c : Command) (r : Answer) (m n : ℕ) (O : LiftedTables) : Type 0 where
  pub answer : r ≡ reply R s c
  pub lifted : HoldsLifted (after R s c).lifted (after R s c).objects m n O
