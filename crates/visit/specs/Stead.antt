-- What stays as it is all through the write.
--     Stead            the plan's tables hold the valid plan M, and the lifted side has room for its lift
--     Known            the same of the map that the tables hold, and room for exactly its lift
use Rattle.std.specs.Prelude.{◌≡◌, ℕ, ◌*◌, ◌<◌, ◌≤◌, List, length, ℤ}
use Rattle.paper.specs.Width.{link_width, place_width, work_width, dart_limit, dim_limit}
use Rattle.paper.specs.Map.{Map, place}
use Rattle.paper.specs.Table.{map_of}
use Rattle.paper.specs.Lift.{lifted_darts}
use Rattle.hold.specs.Hold.{Reads}
use Rattle.places.specs.Write.{place_of}

pub record Stead (M : Map) (m n : ℕ) (links : List ℕ) (places spans : List ℤ) (w : List ℕ) (op : List ℤ) (ol : List ℕ) (room : ℕ) : Type 0 where
  pub plan : Reads M m n links spans
  pub dims : m < dim_limit
  pub links_long : n * link_width ≤ length links
  pub places_long : n * place_width ≤ length places
  pub places_same : (d : ℕ) → d < n → place M d ≡ place_of places d m
  -- room for the work, and for the lift
  pub work : n * work_width ≤ length w
  pub fits : length (lifted_darts M) ≤ room
  pub few : room ≤ dart_limit
  pub lifted_places : room * place_width ≤ length op
  pub lifted_links : room * link_width ≤ length ol

abbrev pub Known : List ℕ → List ℤ → List ℤ → ℕ → ℕ → List ℕ → List ℤ → List ℕ → Type 0
Known links places spans m n w op ol =
    Stead (map_of links places spans m n) m n links places spans w op ol (length (lifted_darts (map_of links places spans m n)))
