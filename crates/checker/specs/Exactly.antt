-- Demand 2, as the check promises it: number 0 is given exactly where the tables hold a valid map.
--     sound            what is given number 0 is a valid map, within range and capacity
--     whole            such a map is given number 0
use Rattle.std.specs.Prelude.{◌≡◌, ℕ}
use Rattle.paper.specs.Table.{Tables}
use Rattle.theory.specs.Accepted.{Accepted}

pub record Exactly (T : Tables) (m n number : ℕ) : Type 0 where
  pub sound : number ≡ 0 → Accepted T m n
  pub whole : Accepted T m n → number ≡ 0
