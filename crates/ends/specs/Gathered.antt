-- What gathering gives, where it gives anything.
--     half_of          the half in which the ends stand; 0 where they were more than room
--     ends_in          how many they are
use Rattle.std.specs.Prelude.{ℕ, Option, Some, None}
use Rattle.ends.specs.declared.gather.Gathered.{Gathered}

abbrev pub half_of : Option Gathered → ℕ
half_of (Some g) = g.half
half_of None = 0

abbrev pub ends_in : Option Gathered → Option ℕ
ends_in (Some g) = Some g.ends
ends_in None = None
