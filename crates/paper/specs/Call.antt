-- The calls on tables.
--     faults           6 to 11, each with the darts that are at fault
--     check_tests       the tests of the check: the pieces call begins with them, the lift has 22 behind the first
--     check            the check of raw tables
--     lift_call         the lift call's answer; lift_leaves: what it leaves in the lifted side's tables
--     pieces_call       the pieces call's answer; pieces_memory: what it leaves in the lent memory
--     row_call          six links of a dart, as a part of one of two link tables; row_place: where that part lies
--     looseness        the axes along which a dart is free
use Rattle.std.specs.Prelude.{ℕ, suc, ◌+◌, ◌*◌, ◌/◌, ◌^◌, Bool, cond, not, ◌&&◌, ◌||◌, leb, List, [], ◌∷◌, ◌++◌, length, take, drop, ℤ, pos, ◌==◌, nat_le, nat_lt, slice_index, slice_index_or}
use Rattle.paper.specs.Width.{link_width, span_width, pair_width, dim_limit}
use Rattle.paper.specs.Below.{any_below, count_below, sum_below, any_of, onto}
use Rattle.paper.specs.Map.{Map, link, place, owned, eq_place, eq_row}
use Rattle.paper.specs.Span.{ordered, ends_of}
use Rattle.paper.specs.Ends.{pieces}
use Rattle.paper.specs.Lift.{lifted_darts, lift, carried_objects}
use Rattle.paper.specs.Table.{Tables, LiftedTables, lengths, lifted_lengths, plan_capacity, count_fits, object_fits, row_at, owned_at, map_of, lifted_tables}
use Rattle.paper.specs.Refusal.{Test, ◌if◌, ◌among◌, judge, accepted, accept}
use Rattle.paper.specs.declared.refusal.Refusal.TheVariants.{OutOfRange, NoSuchDart, LinkBeyond, LinkNotUndone, PairNotUndone, PlacesDiffer, BadRow, RowsDiffer, TooLarge, TopDimension}
use Rattle.paper.specs.Step.{outside}
use Rattle.paper.specs.declared.Answer.{Answer}
use Rattle.paper.specs.declared.Pairs.{Pairs}
use Rattle.paper.specs.declared.Looseness.{Looseness}

-- the map that the tables hold
abbrev pub held : Tables → ℕ → ℕ → Map
held T m n = map_of T.links T.places T.spans m n

abbrev pub capacity : Tables → ℕ
capacity T = plan_capacity (lengths T)

-- a row that can't be one: its count is none from 0 to 8, its spans are not in order, or one of them has an object that is none from 0 to 65535
unfoldable pub has_bad_row : List ℤ → ℕ → Bool
has_bad_row spans d =
    not (count_fits (slice_index_or spans (d * span_width) (pos 0))) || (not (ordered (row_at spans d)) || any_of (λ x. not (object_fits x.object)) (owned_at spans d))

unfoldable pub faults : Tables → ℕ → ℕ → List Test
faults T m n =
    let M = held T m n in
    LinkBeyond among (λ d. any_below (suc m) (λ i. leb n (link M i d)))
    ∷ LinkNotUndone among (λ d. any_below (suc m) (λ i. not (link M i (link M i d) == d)))
    ∷ PairNotUndone
    among (λ d. any_below (suc m) (λ j. any_below (suc m) (λ i. nat_le (i + 2) j && not (link M i (link M j (link M i (link M j d))) == d))))
    ∷ PlacesDiffer among (λ d. any_below (suc m) (λ j. nat_le 1 j && not (eq_place (place M d) (place M (link M j d)))))
    ∷ BadRow among (has_bad_row T.spans)
    ∷ RowsDiffer among (λ d. any_below m (λ j. not (eq_row (owned M d) (owned M (link M j d)))))
    ∷ []

-- refused: a dimension that is none from 1 to 5, and then a count above capacity
abbrev pub bad_dimension : ℕ → Test
bad_dimension m = OutOfRange if outside 1 dim_limit m

abbrev pub bad_count : Tables → ℕ → Test
bad_count T n = NoSuchDart if nat_lt (capacity T) n

abbrev pub check_tests : Tables → ℕ → ℕ → List Test
check_tests T m n = bad_dimension m ∷ (bad_count T n ∷ faults T m n)

-- The check's value is a dart at fault, or 0.
unfoldable pub check : Tables → ℕ → ℕ → Answer
check T m n = judge n (check_tests T m n)

-- 3, 22, 4, 6 to 11, 20, the value as in the check; accepted, it is the number of lifted darts. room is the lifted side's capacity.
unfoldable pub lift_call : Tables → ℕ → ℕ → ℕ → Answer
lift_call T m n room =
    let N = length (lifted_darts (held T m n)) in
    accept
    (judge n (bad_dimension m ∷ (TopDimension if (m == dim_limit) ∷ (bad_count T n ∷ (faults T m n ++ (TooLarge if nat_lt room N ∷ []))))))
    N

-- The lift and the objects that its darts carry are written to the lifted side's tables O, 0 past them; refused, they stay.
unfoldable pub lift_leaves : Tables → ℕ → ℕ → ℕ → LiftedTables → LiftedTables
lift_leaves T m n room O =
    let P = held T m n in
    let L = lifted_tables (lift P) (carried_objects P) (lifted_lengths O) in
    cond (accepted (lift_call T m n room)) L O

-- 3, 4, 6 to 11, then the axis, the dart, and 20 where the pairs of ends don't fit into a memory of so many numbers.
-- Refused, the number is given and zeros.
unfoldable pub pieces_call : Tables → ℕ → ℕ → ℕ → ℕ → ℕ → Pairs
pieces_call T m n d k room =
    let c = length (pieces (held T m n) k d) in
    let a = judge n (check_tests T m n ++ (OutOfRange if nat_lt m k ∷ (NoSuchDart if nat_le n d ∷ (TooLarge if nat_lt room (pair_width * c) ∷ [])))) in
    record { number = a.number; pairs = cond (accepted a) c 0 }

-- The pairs of ends ascend from the start of the memory; the rest is untouched.
unfoldable pub pieces_memory : Tables → ℕ → ℕ → ℕ → ℕ → List ℤ → List ℤ
pieces_memory T m n d k before =
    let after : List ℤ = onto (ends_of (pieces (held T m n) k d)) before in
    cond ((pieces_call T m n d k (length before)).number == 0) after before

-- the row of a dart in a link table: none beyond its whole rows
unfoldable pub row_in : List ℕ → ℕ → List ℕ
row_in links d = cond (nat_lt d (length links / link_width)) (take link_width (drop (d * link_width) links)) []

-- Side 0 is the plan, 1 the lifted map; another side has the empty part.
unfoldable pub row_call : List ℕ → List ℕ → ℕ → ℕ → List ℕ
row_call plan lifted side d = cond (side == 0) (row_in plan d) (cond (side == 1) (row_in lifted d) [])

-- A place in memory is a block and an offset in bytes; so many numbers of 16 bits further on in the same table.
abbrev pub onward : ℕ × ℕ → ℕ → ℕ × ℕ
onward p k = (p.0, p.1 + k * 2)

-- The part lies in the table of its side, from the dart's row on. An empty part is one of the plan's table, at its start.
-- plan and lifted are the tables, p and l where they lie.
unfoldable pub row_place : List ℕ → List ℕ → ℕ × ℕ → ℕ × ℕ → ℕ → ℕ → ℕ × ℕ
row_place plan lifted p l side d =
    let there = onward l (d * link_width) in
    let here = onward p (cond (side == 0 && nat_lt d (length plan / link_width)) (d * link_width) 0) in
    cond (side == 1 && nat_lt d (length lifted / link_width)) there here

abbrev pub free_in : List ℕ → ℕ → ℕ → Bool
free_in links d i = slice_index links (d * link_width + i) == d

-- `bits` is the byte with a bit for each free axis up to m, `ones` how many bits of it are set. A refusal, 3 before 4, has zeros beside its number.
unfoldable pub looseness : List ℕ → ℕ → ℕ → Looseness
looseness links m d =
    let a = judge 0 (bad_dimension m ∷ (NoSuchDart if nat_le (length links / link_width) d ∷ [])) in
    record {
      number = a.number;
      bits = cond (accepted a) (sum_below (suc m) (λ i. cond (free_in links d i) (2 ^ i) 0)) 0;
      ones = cond (accepted a) (count_below (suc m) (free_in links d)) 0;
    }
