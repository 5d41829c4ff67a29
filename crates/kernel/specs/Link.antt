-- Links as they stand in a table of links.
--     alpha ls j e     α_j(e) as the table of links ls has it
use Rattle.std.specs.Prelude.{ℕ, ◌+◌, ◌*◌, List, slice_index}
use Rattle.paper.specs.Width.{link_width}

abbrev pub alpha : List ℕ → ℕ → ℕ → ℕ
alpha ls = λ j e. slice_index ls (e * link_width + j)
