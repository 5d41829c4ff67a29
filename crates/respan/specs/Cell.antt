-- The rows of a top cell in lent tables.
--     Rows             the rows of the first n darts are in the table of spans
--     Respanned        what is left where the rows of d's top cell are replaced: the number of its darts, and tables that hold the map
--     Spliced          what a splice of d's row leaves, written to the whole cell, whatever plan the tables hold
--     dart_refusal      the refusals that SPAN, 1A and CLEAR begin with, as a number: that of the first that is met, or 0
--     row_refusal       those that SPAN and 1A go on with: 5, and 18 and 19 by the dart's row, of which the new span overlaps b spans from span a on
--     is_other          a span is of another object
use Rattle.std.specs.Prelude.{◌≡◌, ℕ, ◌-◌, ◌*◌, ◌<◌, ◌≤◌, Bool, cond, not, List, length, take, drop, ℤ, ◌==◌, int_le, nat_le}
use Rattle.paper.specs.Width.{span_limit, span_width}
use Rattle.paper.specs.Below.{any_of}
use Rattle.paper.specs.Map.{Owned, Map, count, owned, eq_z}
use Rattle.paper.specs.Orbit.{size}
use Rattle.paper.specs.Cell.{top}
use Rattle.paper.specs.Edit.{respanned}
use Rattle.paper.specs.Refusal.{number}
use Rattle.paper.specs.declared.refusal.Refusal.TheVariants.{NoPlan, NoSuchDart, EmptySpan, SpanOverlaps, RowFull}
use Rattle.paper.specs.Step.{Maps, Room}
use Rattle.span.specs.Row.{RowIn}
use Rattle.hold.specs.Hold.{HoldsPlan}
use Rattle.hold.specs.Stand.{PlanStands}
use Rattle.respan.specs.Splice.{respliced}
use Rattle.respan.specs.declared.splice.Splice.{Splice}

pub record Rows (n : ℕ) (ss : List ℤ) : Type 0 where
  pub long : n * span_width ≤ length ss
  pub each : (d : ℕ) → d < n → RowIn ss d

pub record Respanned (M : Map) (d : ℕ) (f : List Owned → List Owned) (k m n : ℕ) (ls : List ℕ) (ps ss : List ℤ) : Type 0 where
  pub value : k ≡ size (count M) (top M d)
  pub plan : HoldsPlan (respanned M d f) m n ls ps ss

-- f is what it makes of the row
abbrev pub Spliced : Splice → ℕ → ℕ → ℕ → List ℕ → List ℤ → ℕ → ℕ → List ℤ → Type 0
Spliced x d m n ls ss w k ss' = (R : Room) (s : Maps) (ps : List ℤ) (f : List Owned → List Owned) → PlanStands R s m n ls ps ss w
    → f (owned s.plan d) ≡ respliced x (owned s.plan d) → Respanned s.plan d f k m n ls ps ss'

-- in a plan of dimension m with n darts
abbrev pub dart_refusal : ℕ → ℕ → ℕ → ℕ
dart_refusal m n d = cond (m == 0) (number NoPlan) (cond (nat_le n d) (number NoSuchDart) 0)

abbrev pub is_other : ℤ → Owned → Bool
is_other object y = not (eq_z object y.object)

-- What is overlapped becomes one with the new span, so that the row is longer by one and shorter by b.
abbrev pub row_refusal : Owned → ℕ → ℕ → List Owned → ℕ
row_refusal x a b r =
    cond (int_le x.span.hi x.span.lo) (number EmptySpan)
    (cond (any_of (is_other x.object) (take b (drop a r))) (number SpanOverlaps) (cond (nat_le span_limit (length r - b)) (number RowFull) 0))
