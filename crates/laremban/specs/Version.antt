-- What callers and the library have to agree on, by a number.
--     version         it is raised by a change of a width or a limit, of a call's parameters or result, or of what a call, a byte or a number means;
--                     a call that comes beside the others leaves it
use Rattle.std.specs.Prelude.{ℕ}

abbrev pub version : ℕ
version = 3
