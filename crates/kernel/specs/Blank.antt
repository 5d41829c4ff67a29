-- A list with one value at some places.
--     filled z from to l     z from a place up to another
--     blanked z from l       z from a place to the list's end
use Rattle.std.specs.Prelude.{ℕ, ◌-◌, List, ◌++◌, length, take, drop, replicate}

unfoldable pub filled : {A : Type 0} → A → ℕ → ℕ → List A → List A
filled z from to l = take from l ++ (replicate (to - from) z ++ drop to l)

abbrev pub blanked : {A : Type 0} → A → ℕ → List A → List A
blanked z from l = take from l ++ replicate (length l - from) z
