-- The lengths of what is lent while a run goes on.
--     Kept             they are as they were
use Rattle.std.proofs.Common.{◌≡◌, ℕ, List, length}
use Rattle.paper.specs.Table.{Tables, LiftedTables, lengths, lifted_lengths}

pub record Kept (T₀ : Tables) (O₀ : LiftedTables) (memory₀ : List ℕ) (T : Tables) (O : LiftedTables) (memory : List ℕ) : Type 0 where
  pub plan : lengths T ≡ lengths T₀
  pub lifted : lifted_lengths O ≡ lifted_lengths O₀
  pub replies : length memory ≡ length memory₀
