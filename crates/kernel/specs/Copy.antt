-- A list whose first numbers are another's.
--     copied n s l     the first n of l are those of s
use Rattle.std.specs.Prelude.{ℕ, List, ◌++◌, take, drop}

unfoldable pub copied : {A : Type 0} → ℕ → List A → List A → List A
copied n s l = take n s ++ drop n l
