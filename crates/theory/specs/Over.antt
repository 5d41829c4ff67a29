-- The run by document 01's rules alone, with no number of steps.
--     Over             from place p with state s the run takes the commands cs and comes to the outcome o
use Rattle.std.specs.Prelude.{◌≡◌, ℕ, ◌<◌, ◌≤◌, true, false, List, [], ◌∷◌, length}
use Rattle.paper.specs.Refusal.{number}
use Rattle.paper.specs.declared.refusal.Refusal.TheVariants.{RepliesFull}
use Rattle.paper.specs.Command.{read_at}
use Rattle.paper.specs.Step.{Room, reply, is_run_end}
use Rattle.paper.specs.Run.{State, took, Outcome, outcome, full}
use Rattle.paper.specs.declared.Command.{Command}

pub data Over (R : Room) (bytes : List ℕ) : ℕ → State → List Command → Outcome → Type 0 where
  -- No byte is left: it ends by 0.
  no_byte : {p : ℕ} {s : State} → length bytes ≤ p → Over R bytes p s [] (outcome 0 s)
  -- Fewer than three reply bytes are left: it ends by 23, and the command is not taken.
  no_room : {p : ℕ} {s : State} → p < length bytes → full R s ≡ true → Over R bytes p s [] (outcome (number RepliesFull) s)
  -- An unreadable command is taken, and ends it by its number.
  unread : {p : ℕ} {s : State} → p < length bytes → full R s ≡ false → is_run_end (read_at bytes p).command ≡ true
      → Over R bytes p s ((read_at bytes p).command ∷ []) (outcome (reply R s.maps (read_at bytes p).command).number (took R s (read_at bytes p).command))
  -- Any other command is taken, and the run goes on behind it.
  more : {p : ℕ} {s : State} {cs : List Command} {o : Outcome} → p < length bytes → full R s ≡ false → is_run_end (read_at bytes p).command ≡ false
      → Over R bytes (read_at bytes p).next (took R s (read_at bytes p).command) cs o → Over R bytes p s ((read_at bytes p).command ∷ cs) o
