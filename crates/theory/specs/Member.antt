-- x is a member of a list, at some position.
use Rattle.std.specs.Prelude.{List}
use mathlib.Core.List.{Memᴰ}

infix 50 ◌∈◌
abbrev pub ◌∈◌ : {A : Type 0} → A → List A → Type 0
x ∈ l = Memᴰ x l
