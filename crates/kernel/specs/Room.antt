-- How many there are, told only where a room holds them.
--     or_past room r    how many that is; one more than the room where none is told
--     InRoom room r     what is told is within the room
use Rattle.std.specs.Prelude.{ℕ, ◌+◌, ◌≤◌, Option, Some, None}

abbrev pub or_past : ℕ → Option ℕ → ℕ
or_past room (Some n) = n
or_past room None = room + 1

abbrev pub InRoom : ℕ → Option ℕ → Type 0
InRoom room (Some n) = n ≤ room
InRoom room None = Unit
