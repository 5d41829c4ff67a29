-- A reply in the reply memory.
--     replied          the memory with a reply's three bytes from a place on
use Rattle.std.specs.Prelude.{ℕ, ◌+◌, ◌/◌, ◌%◌, List, slice_set}
use Rattle.paper.specs.Width.{byte_limit}
use Rattle.paper.specs.declared.Answer.{Answer}

-- its number, then its value, big-endian
unfoldable pub replied : List ℕ → ℕ → Answer → List ℕ
replied l p a = slice_set (slice_set (slice_set l p a.number) (p + 1) (a.value / byte_limit)) (p + 2) (a.value % byte_limit)
