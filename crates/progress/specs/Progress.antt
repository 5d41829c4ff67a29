-- How far a run has come, as the code has it.
--     count_limit       the largest number that a count can be
--     start            both maps blank, nothing taken
--     stops            an unreadable command ends the run by its reply's number; 0 ends nothing
--     goes_on           a byte is left, and room for a reply
--     after            a command more is taken
--     ended            the four numbers of a run that does not go on
use Rattle.std.specs.Prelude.{ℕ, suc, ◌+◌, ◌*◌, Bool, cond, not, ◌&&◌, ◌==◌, nat_le, nat_lt, Option, Some, None}
use Rattle.std.specs.Option.{unwrap_or}
use Rattle.paper.specs.Width.{reply_width}
use Rattle.paper.specs.Refusal.{number, accepted}
use Rattle.paper.specs.declared.refusal.Refusal.TheVariants.{RepliesFull}
use Rattle.paper.specs.Step.{is_run_end}
use Rattle.paper.specs.declared.Command.{Command}
use Rattle.paper.specs.declared.Ended.{Ended}
use Rattle.sizes.specs.Sizes.{sizes}
use Rattle.sizes.specs.declared.Stepped.{Stepped}
use Rattle.progress.specs.declared.Progress.{Progress}

-- below it a count can rise by one
abbrev pub count_limit : ℕ
count_limit = 18446744073709551615

abbrev pub start : Progress
start = record { at = 0; sizes = sizes 0 0 0 0; taken = 0; accepted = 0; refused = 0; stopped = None }

abbrev pub stops : Command → ℕ → Option ℕ
stops c n = cond (is_run_end c && not (n == 0)) (Some n) None

unfoldable pub goes_on : ℕ → ℕ → Progress → Bool
goes_on bytes memory p = nat_lt p.at bytes && nat_le (reply_width * suc p.taken) memory

unfoldable pub after : Progress → Command → ℕ → Stepped → Progress
after p c next r = record {
  at = next;
  sizes = r.sizes;
  taken = suc p.taken;
  accepted = cond (accepted r.answer) 1 0 + p.accepted;
  refused = cond (accepted r.answer) 0 1 + p.refused;
  stopped = stops c r.answer.number;
}

unfoldable pub ended : ℕ → Progress → Ended
ended bytes p = record {
  number = unwrap_or p.stopped (cond (nat_lt p.at bytes) (number RepliesFull) 0);
  taken = p.taken;
  accepted = p.accepted;
  refused = p.refused;
}
