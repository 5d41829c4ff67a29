-- Parts of a list.
--     part z l i n     the n members of l from place i on; z past its end
use Rattle.std.specs.Prelude.{ℕ, zero, suc, List, [], ◌∷◌, slice_index_or}

unfoldable pub part : {A : Type 0} → A → List A → ℕ → ℕ → List A
part z l i zero = []
part z l i (suc n) = slice_index_or l i z ∷ part z l (suc i) n
