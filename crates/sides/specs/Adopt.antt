-- What ADOPT asks of the tables: the plan's have n rows and room for as many as there may be, the lifted side's have k.
use Rattle.std.specs.Prelude.{ℕ, ◌*◌, ◌≤◌, List, length, ℤ}
use Rattle.paper.specs.Width.{link_width, place_width, span_width, dart_limit}

pub record Adoptable (ls : List ℕ) (ps ss : List ℤ) (n : ℕ) (ol : List ℕ) (op : List ℤ) (k room : ℕ) : Type 0 where
  pub few : n ≤ dart_limit
  pub roomy : room ≤ dart_limit
  pub spans : n * span_width ≤ length ss
  pub links_room : room * link_width ≤ length ls
  pub places_room : room * place_width ≤ length ps
  pub lifted_links : k * link_width ≤ length ol
  pub lifted_places : k * place_width ≤ length op
