-- What a list of commands does, told command by command: the words in which the theorem on runs speaks.
--     commands_from     the commands that a run takes, from a place of the bytes on
--     commands         those of the whole run
--     maps_from         the two maps after a list of commands
--     replies_from      the replies to it
--     accepted_of, refused_of      how many replies have number 0, and how many another
--     Entry            an accepted edit, with the lifted map of its moment
--     edits_from        the accepted edits of a list of commands, in order
--     applied          a plan after edits: each does what stands at its command
--     NoLift           no LIFT is accepted in a list of commands
--     LastLift         a map is the lift of the plan as it stood at the last accepted LIFT, with the objects that its darts carry; blank before one
use Rattle.std.specs.Prelude.{◌≡◌, ℕ, zero, suc, ◌+◌, ◌*◌, true, false, cond, ◌&&◌, List, [], ◌∷◌, ◌++◌, length, nat_le, nat_lt}
use Rattle.paper.specs.Width.{reply_width}
use Rattle.paper.specs.Below.{only}
use Rattle.paper.specs.Map.{Map}
use Rattle.paper.specs.Lift.{lift, carried_objects}
use Rattle.paper.specs.Refusal.{accepted}
use Rattle.paper.specs.Command.{read_at}
use Rattle.paper.specs.Step.{Maps, Room, reply, edited, after, is_edit, is_lift, is_run_end}
use Rattle.paper.specs.declared.Command.{Command}
use Rattle.paper.specs.declared.Command.TheVariants as command
use Rattle.paper.specs.declared.Answer.{Answer}

-- k commands were taken before; room is the length of the reply memory
unfoldable pub commands_from : ℕ → ℕ → List ℕ → ℕ → ℕ → List Command
commands_from zero room bytes p k = []
commands_from (suc fuel) room bytes p k =
    elim (nat_le (length bytes) p) [
      | true ↦ []
      | false ↦ elim (nat_lt room (reply_width * suc k)) [
        | true ↦ []
        | false ↦
            let r = read_at bytes p in
            elim (is_run_end r.command) [ true ↦ r.command ∷ [] | false ↦ r.command ∷ commands_from fuel room bytes r.next (suc k) ]
      ]
    ]

abbrev pub commands : List ℕ → ℕ → List Command
commands bytes room = commands_from (length bytes) room bytes 0 0

unfoldable pub maps_from : Room → Maps → List Command → Maps
maps_from R s [] = s
maps_from R s (c ∷ cs) = maps_from R (after R s c) cs

unfoldable pub replies_from : Room → Maps → List Command → List Answer
replies_from R s [] = []
replies_from R s (c ∷ cs) = reply R s c ∷ replies_from R (after R s c) cs

unfoldable pub accepted_of : List Answer → ℕ
accepted_of [] = 0
accepted_of (a ∷ l) = cond (accepted a) 1 0 + accepted_of l

unfoldable pub refused_of : List Answer → ℕ
refused_of [] = 0
refused_of (a ∷ l) = cond (accepted a) 0 1 + refused_of l

pub record Entry : Type 0 where
  pub edit : Command
  pub lifted : Map

-- the commands that write the plan and whose reply has number 0
unfoldable pub edits_from : Room → Maps → List Command → List Entry
edits_from R s [] = []
edits_from R s (c ∷ cs) =
    only (is_edit c && accepted (reply R s c)) (record { edit = c; lifted = s.lifted }) ++ edits_from R (after R s c) cs

unfoldable pub applied : Map → List Entry → Map
applied P [] = P
applied P (e ∷ l) = applied (edited P e.lifted e.edit) l

abbrev pub NoLift : Room → Maps → List Command → Type 0
NoLift R s [] = Unit {0}
NoLift R s (c ∷ cs) = ((is_lift c && accepted (reply R s c)) ≡ false) × NoLift R (after R s c) cs

-- The list of commands starts from the maps s, whose lifted map, with its objects O, is the one before the first accepted LIFT.
pub data LastLift (R : Room) (s : Maps) (cs : List Command) (L : Map) (O : List ℕ) : Type 0 where
  never : NoLift R s cs → L ≡ s.lifted → O ≡ s.objects → LastLift R s cs L O
  last : (before rest : List Command) → cs ≡ before ++ (command.Lift ∷ rest) → accepted (reply R (maps_from R s before) command.Lift) ≡ true
      → NoLift R (after R (maps_from R s before) command.Lift) rest → L ≡ lift (maps_from R s before).plan
      → O ≡ carried_objects (maps_from R s before).plan → LastLift R s cs L O
