-- What a turn gives, where it gives anything.
--     tail_of          where the queue ends; 0 where more than room was counted
--     total_of         what is counted
use Rattle.std.specs.Prelude.{ℕ, Option, Some, None}
use Rattle.tally.specs.declared.turn.Tally.{Tally}

abbrev pub tail_of : Option Tally → ℕ
tail_of (Some r) = r.tail
tail_of None = 0

abbrev pub total_of : Option Tally → Option ℕ
total_of (Some r) = Some r.total
total_of None = None
