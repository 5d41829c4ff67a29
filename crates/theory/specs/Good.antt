-- What holds of the two maps after every command.
--     Shared           along an axis below the top one, a dart and its link carry the same object
--     Good             all of it
use Rattle.std.specs.Prelude.{◌≡◌, ℕ, ◌<◌, ◌≤◌, List, [], length, slice_index}
use Rattle.paper.specs.Width.{dim_limit}
use Rattle.paper.specs.Map.{Map, count, link, owned}
use Rattle.paper.specs.Step.{Maps, Room}
use Rattle.theory.specs.Local.{Local}

abbrev pub Shared : Map → List ℕ → Type 0
Shared M objects = (i d : ℕ) → d < count M → i < M.dim → slice_index objects (link M i d) ≡ slice_index objects d

pub record Good (R : Room) (s : Maps) : Type 0 where
  pub plan : Local s.plan
  pub lifted : Local s.lifted
  -- the lifted map has no spans
  pub bare : (d : ℕ) → d < count s.lifted → owned s.lifted d ≡ []
  -- each of its darts carries an object, the same along every axis below the top one
  pub objects : length s.objects ≡ count s.lifted
  pub shared : Shared s.lifted s.objects
  -- both maps are within their capacities and dimensions
  pub plan_fits : count s.plan ≤ R.plan
  pub lifted_fits : count s.lifted ≤ R.lifted
  pub plan_dim : s.plan.dim ≤ dim_limit
  pub lifted_dim : s.lifted.dim ≤ dim_limit
