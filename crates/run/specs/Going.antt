-- A run on its way. T are the plan's tables, O the lifted side's, before is the reply memory as it was at the start, o what the run on paper comes to.
--     Ahead            from a place and a state the rules lead to o; or the command that was taken last ended the run, and o is what it came to
--     Going            the tables and the reply memory are those of a state of the run on paper, from which it goes on to o
--     Turning          so they are, and one more command can be taken
--     Begun            the tables are blank, and have these capacities
use Rattle.std.specs.Prelude.{◌≡◌, ℕ, suc, ◌+◌, ◌*◌, ◌<◌, ◌≤◌, List, [], length, ◌≢◌, Option, Some, None}
use Rattle.paper.specs.Width.{reply_width}
use Rattle.paper.specs.Map.{blank}
use Rattle.paper.specs.Table.{Tables, LiftedTables, lengths, lifted_lengths, plan_capacity, lifted_capacity}
use Rattle.paper.specs.Step.{Room}
use Rattle.paper.specs.Run.{State, Outcome, outcome, reply_memory}
use Rattle.paper.specs.declared.Command.{Command}
use Rattle.theory.specs.Over.{Over}
use Rattle.hold.specs.Hold.{HoldsPlan, HoldsLifted}
use Rattle.step.specs.Standing.{Stands}
use Rattle.progress.specs.declared.Progress.{Progress}

-- The number is the one by which an unreadable command ended the run, if one did.
pub data Ahead (R : Room) (bytes : List ℕ) : ℕ → State → Option ℕ → Outcome → Type 0 where
  on : {p : ℕ} {s : State} {cs : List Command} {o : Outcome} → Over R bytes p s cs o → Ahead R bytes p s None o
  over : {p k : ℕ} {s : State} → (k ≢ 0) → length bytes ≤ p → Ahead R bytes p s (Some k) (outcome k s)

pub record Going (bytes : List ℕ) (R : Room) (o : Outcome) (before : List ℕ) (p : Progress) (room lroom : ℕ) (T : Tables) (O : LiftedTables) (memory : List ℕ) : Type 0 where
  pub state : State
  -- both sides' tables hold its maps, the lifted side's also what its darts carry
  pub stands : Stands R state.maps p.sizes room lroom T O
  -- the counts are its counts
  pub taken : state.taken ≡ p.taken
  pub accepts : state.accepts ≡ p.accepted
  pub refuses : state.refuses ≡ p.refused
  -- the reply memory begins with its replies
  pub listed : length state.replies ≡ p.taken
  pub sum : p.taken ≡ p.accepted + p.refused
  pub memory_is : memory ≡ reply_memory state.replies before
  pub fits : reply_width * p.taken ≤ length before
  pub room_is : R.reply ≡ length before
  -- and it goes on from here
  pub ahead : Ahead R bytes p.at state p.stopped o

pub record Turning (bytes : List ℕ) (p : Progress) (room lroom : ℕ) (T : Tables) (O : LiftedTables) (memory : List ℕ) : Type 0 where
  pub R : Room
  pub outcome : Outcome
  pub before : List ℕ
  pub going : Going bytes R outcome before p room lroom T O memory
  pub byte : p.at < length bytes
  pub more : reply_width * suc p.taken ≤ length memory

pub record Begun (room lroom : ℕ) (T : Tables) (O : LiftedTables) : Type 0 where
  pub plan : HoldsPlan blank 0 0 T.links T.places T.spans
  pub lifted : HoldsLifted blank [] 0 0 O
  pub room_is : plan_capacity (lengths T) ≡ room
  pub lroom_is : lifted_capacity (lifted_lengths O) ≡ lroom
