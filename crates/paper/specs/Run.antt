-- The run on paper: fed the bytes, both capacities and the length of the reply memory.
--     State            what it keeps: the two maps, the replies so far, commands taken, accepted and refused
--     blanks           both maps blank, and no object
--     start            both maps blank, no reply, counts 0
--     took             the state after one command
--     Outcome          what it gives: the number it ended by and the three counts, the replies, the two maps and the lifted darts' objects
--     run_from          what is left of the run, from a place of the bytes on
--     room_of           the room of a run: each capacity cut to 16,384
--     run              the whole run
--     reply_bytes       the replies as bytes, three each
--     reply_memory      what a run leaves in the reply memory: its replies overwrite the first bytes, what lies past them stays
--     Lent, run_in      lent tables by their lengths, and the run in their room
--     Left, left       what a run leaves in them
use Rattle.std.specs.Prelude.{ℕ, zero, suc, ◌+◌, ◌*◌, ◌/◌, ◌%◌, min, Bool, true, false, cond, List, [], ◌∷◌, ◌++◌, length, nat_le, nat_lt}
use Rattle.paper.specs.Width.{dart_limit, reply_width, byte_limit}
use Rattle.paper.specs.Below.{onto}
use Rattle.paper.specs.Map.{Map, blank}
use Rattle.paper.specs.Table.{Tables, LiftedTables, Lengths, LiftedLengths, plan_capacity, lifted_capacity, plan_tables, lifted_tables}
use Rattle.paper.specs.Refusal.{number, accepted}
use Rattle.paper.specs.declared.refusal.Refusal.TheVariants.{RepliesFull}
use Rattle.paper.specs.Command.{read_at}
use Rattle.paper.specs.Step.{Maps, Room, reply, after, is_run_end}
use Rattle.paper.specs.declared.Command.{Command}
use Rattle.paper.specs.declared.Answer.{Answer}
use Rattle.paper.specs.declared.Ended.{Ended}

pub record State : Type 0 where
  pub maps : Maps
  pub replies : List Answer
  pub taken : ℕ
  pub accepts : ℕ
  pub refuses : ℕ

abbrev pub blanks : Maps
blanks = record { plan = blank; lifted = blank; objects = [] }

abbrev pub start : State
start = record { maps = blanks; replies = []; taken = 0; accepts = 0; refuses = 0 }

-- A command is replied to and taken; it is accepted where its reply has number 0, and refused otherwise.
unfoldable pub took : Room → State → Command → State
took R s c =
    let a = reply R s.maps c in
    record {
      maps = after R s.maps c;
      replies = s.replies ++ (a ∷ []);
      taken = suc s.taken;
      accepts = cond (accepted a) 1 0 + s.accepts;
      refuses = cond (accepted a) 0 1 + s.refuses;
    }

pub record Outcome : Type 0 where
  pub ended : Ended
  pub replies : List Answer
  pub plan : Map
  pub lifted : Map
  pub objects : List ℕ

unfoldable pub outcome : ℕ → State → Outcome
outcome n s = record {
  ended = record { number = n; taken = s.taken; accepted = s.accepts; refused = s.refuses };
  replies = s.replies;
  plan = s.maps.plan;
  lifted = s.maps.lifted;
  objects = s.maps.objects;
}

-- the reply memory has no room for one more reply
abbrev pub full : Room → State → Bool
full R s = nat_lt R.reply (reply_width * suc s.taken)

-- How a run goes on: it is over by 0 where no byte is left, by 23 where a reply would not fit, and takes a command otherwise.
-- Every command has a byte, so that as many steps as there are bytes are enough: `run-over` of theory's Over proves it.
unfoldable pub run_from : ℕ → Room → List ℕ → ℕ → State → Outcome
run_from zero R bytes p s = outcome 0 s
run_from (suc fuel) R bytes p s =
    elim (nat_le (length bytes) p) [
      | true ↦ outcome 0 s
      | false ↦ elim (full R s) [
        | true ↦ outcome (number RepliesFull) s
        | false ↦
            let r = read_at bytes p in
            let s' = took R s r.command in
            elim (is_run_end r.command) [ true ↦ outcome (reply R s.maps r.command).number s' | false ↦ run_from fuel R bytes r.next s' ]
      ]
    ]

-- A capacity above 16,384 counts as 16,384.
abbrev pub room_of : ℕ → ℕ → ℕ → Room
room_of plan lifted reply = record { plan = min plan dart_limit; lifted = min lifted dart_limit; reply = reply }

unfoldable pub run : List ℕ → ℕ → ℕ → ℕ → Outcome
run bytes plan lifted reply = run_from (length bytes) (room_of plan lifted reply) bytes 0 start

unfoldable pub reply_bytes : List Answer → List ℕ
reply_bytes [] = []
reply_bytes (a ∷ l) = a.number ∷ (a.value / byte_limit ∷ (a.value % byte_limit ∷ reply_bytes l))

unfoldable pub reply_memory : List Answer → List ℕ → List ℕ
reply_memory l before = onto (reply_bytes l) before

-- the lengths of the lent tables, and the reply memory as it was
pub record Lent : Type 0 where
  pub plan : Lengths
  pub lifted : LiftedLengths
  pub memory : List ℕ

-- the run in the room that is lent
unfoldable pub run_in : List ℕ → Lent → Outcome
run_in bytes L = run bytes (plan_capacity L.plan) (lifted_capacity L.lifted) (length L.memory)

-- what a run leaves: its four numbers, the two maps row for row and the lifted darts' objects with 0 past them, and the reply memory
pub record Left : Type 0 where
  pub ended : Ended
  pub plan : Tables
  pub lifted : LiftedTables
  pub memory : List ℕ

unfoldable pub left : List ℕ → Lent → Left
left bytes L =
    let o = run_in bytes L in
    record {
      ended = o.ended;
      plan = plan_tables o.plan L.plan;
      lifted = lifted_tables o.lifted o.objects L.lifted;
      memory = reply_memory o.replies L.memory;
    }
