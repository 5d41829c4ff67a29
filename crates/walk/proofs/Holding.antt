-- Ends that are held may be walked.
--     walkable         ends that stand in the half may be walked beside a row
use Rattle.std.proofs.Common.{◌≡◌, ℕ, ◌*◌, ◌≤◌, true, List, length, ℤ, arith}
use Rattle.paper.specs.Width.{work_width, dart_limit}
use Rattle.paper.specs.Span.{ordered}
use Rattle.paper.specs.Ends.{ascending}
use Rattle.paper.specs.Table.{row_at}
use Rattle.theory.proofs.Ascending.{ascending-ascends}
use Rattle.span.specs.Row.{RowIn}
use Rattle.ends.specs.Join.{Held}
use Rattle.ends.proofs.Holding.{held_fits}
use Rattle.walk.specs.Walk.{Walkable}

pub walkable : (l s : List ℤ) (v : List ℕ) (p room ends d : ℕ) → Held (ascending l) v p room ends → ends ≤ room → room ≤ dart_limit → room * work_width ≤ length v
    → RowIn s d → ordered (row_at s d) ≡ true → Walkable v p ends s d
walkable l s v p room ends d H fits few long r o = record {
  half = H.half;
  few = omega arith;
  long = omega arith;
  ascend = rw (held_fits H fits).1 (ascending-ascends l);
  row = r;
  order = o;
}
