-- The room that a side's tables have.
--     HasRoom          the plan's tables, of these lengths, have a row for each of n darts
--     LiftedHasRoom    the lifted side's tables, of these lengths, have a row for each of n darts
use Rattle.std.specs.Prelude.{ℕ, ◌*◌, ◌≤◌}
use Rattle.paper.specs.Width.{link_width, place_width, span_width, object_width, work_width, dart_limit}
use Rattle.paper.specs.Table.{Lengths, LiftedLengths}

pub record HasRoom (l : Lengths) (n : ℕ) : Type 0 where
  pub few : n ≤ dart_limit
  pub links : n * link_width ≤ l.links
  pub places : n * place_width ≤ l.places
  pub spans : n * span_width ≤ l.spans
  pub work : n * work_width ≤ l.work

pub record LiftedHasRoom (l : LiftedLengths) (n : ℕ) : Type 0 where
  pub few : n ≤ dart_limit
  pub links : n * link_width ≤ l.links
  pub places : n * place_width ≤ l.places
  pub objects : n * object_width ≤ l.objects
  pub work : n * work_width ≤ l.work
