-- What an example says, and the test that computes it.
--     Example          a run with its lines; what `liftrun` prints; facts about a plan and its lift; a row of a plan; what lifted darts carry; a lifted side's capacity; a check of raw tables
--     states           what an example says
--     right            the same, as a test
--     passes           all of a list pass it
use Rattle.std.specs.Prelude.{◌≡◌, ℕ, suc, ◌<◌, Bool, true, false, ◌&&◌, List, [], ◌∷◌, length, ◌==◌, nat_eq, nat_lt}
use Rattle.paper.specs.Width.{plan_room, lifted_room, reply_room}
use Rattle.paper.specs.Below.{any_below, all_below, count_below, first_below, sum_below, list_onto, join_below, any_of, join_of, only, same_list}
use Rattle.paper.specs.Map.{Owned, Map, link, owned, eq_row}
use Rattle.paper.specs.Orbit.{size, near, round, settle, orbit}
use Rattle.paper.specs.Cell.{cell, lowest, cells}
use Rattle.paper.specs.Span.{ordered, covering_from, ends_of}
use Rattle.paper.specs.Ends.{around, insert, ascending, ends, next, stretches_from, covered_by, pieces, first_of_top, spans_over}
use Rattle.paper.specs.Lift.{Lifted, eq_lifted, lifted_at, lifted_darts, number_in, target, lift_dart, lift, carried, carried_objects}
use Rattle.paper.specs.Table.{Tables, LiftedLengths, fewest, lifted_capacity, plan_capacity, numbers_of, link_at, place_at, span_at, table_of, objects_table, owned_at, map_of}
use Rattle.paper.specs.Command.{signed_of, read_by, read_after, read_at}
use Rattle.paper.specs.Refusal.{judge, accept, answer}
use Rattle.paper.specs.Sew.{wing, told, partners_after, partners, sewable, agreeing, mate}
use Rattle.paper.specs.Edit.{remade, grown, relinked, sewn, freed, unsewn, placed, respanned, adopted}
use Rattle.paper.specs.Join.{joined, unmet, in_place, with_span}
use Rattle.paper.specs.Step.{refusals, edited, effect, value, reply, after}
use Rattle.paper.specs.Run.{took, outcome, run_from, run, reply_bytes, reply_memory, run_in, left}
use Rattle.paper.specs.Call.{has_bad_row, faults, check, lift_call, lift_leaves, pieces_call, pieces_memory, row_in, row_call, row_place, looseness}
use Rattle.paper.specs.Print.{Line, lines, liftrun, digits, line_text, text}
use Rattle.paper.specs.Print as print

-- along axis i the lifted dart x is linked to the lifted dart y
pub record LinkRow : Type 0 where
  pub i : ℕ
  pub x : Lifted
  pub y : Lifted

-- around the k-cell of dart d there are so many pieces
pub record PieceRow : Type 0 where
  pub k : ℕ
  pub d : ℕ
  pub pieces : ℕ

-- the plan that commands make, in the room of `liftrun`
abbrev pub plan_of : List ℕ → Map
plan_of bytes = (run bytes plan_room lifted_room reply_room).plan

pub data Example : Type 0 where
  -- a run from bytes with two capacities and the length of the reply memory: its lines
  prints : List ℕ → ℕ → ℕ → ℕ → List Line → Example
  -- what `liftrun` prints for bytes, itself as bytes
  writes : List ℕ → List ℕ → Example
  -- the plan that the bytes make: how many darts its lift has, how many cells of axis 0, 1, .., links of the lift, pieces of cells
  lifts : List ℕ → ℕ → List ℕ → List LinkRow → List PieceRow → Example
  -- the plan that the bytes make: the row of a dart
  leaves_row : List ℕ → ℕ → List Owned → Example
  -- a run in the room of `liftrun`: the objects that the lifted darts carry at its end
  carries : List ℕ → List ℕ → Example
  -- a lifted side's tables by their lengths: its capacity
  has_room : LiftedLengths → ℕ → Example
  -- a check of raw tables with a dimension and a count: its number and value
  checks : Tables → ℕ → ℕ → ℕ → ℕ → Example

-- each member of a list has what is said of it
abbrev pub Each : {A : Type 0} → (A → Type 0) → List A → Type 0
Each P [] = Unit {0}
Each P (x ∷ l) = P x × Each P l

-- the cells of the axes from i on are so many
abbrev pub CellsAre : Map → ℕ → List ℕ → Type 0
CellsAre M i [] = Unit {0}
CellsAre M i (c ∷ l) = (cells M i ≡ c) × CellsAre M (suc i) l

-- x and y are lifted darts, and α_i of x is y: the six cases say so, and the lifted map has it under their numbers
abbrev pub LinkIs : Map → LinkRow → Type 0
LinkIs P l =
    let all = lifted_darts P in
    (number_in all l.x < length all)
    × ((number_in all l.y < length all) × ((target P l.i l.x ≡ l.y) × (link (lift P) l.i (number_in all l.x) ≡ number_in all l.y)))

abbrev pub PiecesAre : Map → PieceRow → Type 0
PiecesAre P c = length (pieces P c.k c.d) ≡ c.pieces

abbrev pub states : Example → Type 0
states (prints bytes plan lifted reply l) = lines (run bytes plan lifted reply) ≡ l
states (writes bytes t) = text (liftrun bytes) ≡ t
states (lifts bytes n cs ls ps) =
    (length (lifted_darts (plan_of bytes)) ≡ n) × (CellsAre (lift (plan_of bytes)) 0 cs × (Each (LinkIs (plan_of bytes)) ls × Each (PiecesAre (plan_of bytes)) ps))
states (leaves_row bytes d r) = owned (plan_of bytes) d ≡ r
states (carries bytes l) = (run bytes plan_room lifted_room reply_room).objects ≡ l
states (has_room l n) = lifted_capacity l ≡ n
states (checks t m n x v) = check t m n ≡ answer x v

abbrev pub eq_line : Line → Line → Bool
eq_line print.long print.long = true
eq_line print.long (print.reply n v) = false
eq_line print.long (print.end n t a r) = false
eq_line (print.reply n v) print.long = false
eq_line (print.reply n v) (print.reply k w) = n == k && v == w
eq_line (print.reply n v) (print.end k t a r) = false
eq_line (print.end n t a r) print.long = false
eq_line (print.end n t a r) (print.reply k w) = false
eq_line (print.end n t a r) (print.end k u b s) = n == k && (t == u && (a == b && r == s))

unfoldable pub every : {A : Type 0} → (A → Bool) → List A → Bool
every p [] = true
every p (x ∷ l) = p x && every p l

unfoldable pub cells_are : Map → ℕ → List ℕ → Bool
cells_are M i [] = true
cells_are M i (c ∷ l) = cells M i == c && cells_are M (suc i) l

unfoldable pub link_is : Map → LinkRow → Bool
link_is P l =
    let all = lifted_darts P in
    let x = number_in all l.x in
    let y = number_in all l.y in
    nat_lt x (length all) && (nat_lt y (length all) && (eq_lifted (target P l.i l.x) l.y && link (lift P) l.i x == y))

abbrev pub pieces_are : Map → PieceRow → Bool
pieces_are P c = length (pieces P c.k c.d) == c.pieces

unfoldable pub right : Example → Bool
right (prints bytes plan lifted reply l) = same_list eq_line (lines (run bytes plan lifted reply)) l
right (writes bytes t) = same_list nat_eq (text (liftrun bytes)) t
right (lifts bytes n cs ls ps) =
    let P = plan_of bytes in
    (length (lifted_darts P) == n) && (cells_are (lift P) 0 cs && (every (link_is P) ls && every (pieces_are P) ps))
right (leaves_row bytes d r) = eq_row (owned (plan_of bytes) d) r
right (carries bytes l) = same_list nat_eq (run bytes plan_room lifted_room reply_room).objects l
right (has_room l n) = lifted_capacity l == n
right (checks t m n x v) = let a = check t m n in (a.number == x) && a.value == v

-- Every example of a list passes. All that the test computes with is named here, so that a theorem has to unfold this one name.
unfoldable pub passes : List Example → Bool
unfolding any_below all_below count_below first_below sum_below list_onto join_below any_of join_of only same_list size near round settle orbit cell lowest cells ordered covering_from ends_of around insert ascending ends next stretches_from covered_by pieces first_of_top spans_over lifted_at lifted_darts number_in target lift_dart lift carried carried_objects fewest lifted_capacity plan_capacity link_at place_at numbers_of span_at table_of objects_table owned_at map_of signed_of read_by read_after read_at judge accept wing told partners_after partners sewable agreeing mate remade grown relinked sewn freed unsewn placed respanned joined unmet in_place with_span adopted refusals edited effect value reply after took outcome run_from run has_bad_row faults check lift_call lift_leaves pieces_call pieces_memory row_in row_call row_place looseness reply_bytes reply_memory run_in left lines liftrun digits line_text text every cells_are link_is right
passes l = every right l
