-- Lent tables: flat lists of numbers, one row a dart.
--     Tables, LiftedTables       a side's tables as they are handed in, the plan's and the lifted side's; of work only the length matters
--     lent, lent_lifted           tables handed in
--     Lengths, LiftedLengths     the lengths of a side's tables; lengths, lifted_lengths: those of tables handed in
--     fewest                     the fewest whole rows in any of some tables
--     plan_capacity, lifted_capacity   how many darts a side's tables have room for
--     link_at, place_at, span_at        the numbers in a dart's row
--     numbers_of        the numbers of a row of spans, behind their count
--     links_table, places_table, spans_table    a map's rows, and 0 past them to the table's end
--     objects_table     the objects that lifted darts carry, one a dart, and 0 past them
--     plan_tables, lifted_tables   a side's tables, of given lengths, that hold a map; the lifted side's hold objects too
--     span_in, owned_in  a span of a row in a table, without its object and with it
--     row_at, owned_at   the row of a dart, likewise; unused numbers are not looked at
--     count_fits, object_fits      a number of spans that a row may have, and a number that an object may have
--     map_of            the map that tables hold; rows past the count are not looked at
use Rattle.std.specs.Prelude.{ℕ, suc, ◌+◌, ◌*◌, ◌/◌, ◌%◌, min, Bool, cond, ◌&&◌, List, [], ◌∷◌, length, get_or, ℤ, pos, int_le, int_lt, nat_le, nat_lt, slice_index, slice_index_or, unsigned_abs}
use Rattle.paper.specs.Width.{link_width, place_width, span_limit, per_span, span_width, object_width, work_width, dart_limit, object_limit}
use Rattle.paper.specs.Below.{list_below}
use Rattle.paper.specs.Map.{Span, Owned, Map, spans_of, made, count, link, place, owned}

pub record Tables : Type 0 where
  pub links : List ℕ
  pub places : List ℤ
  pub spans : List ℤ
  pub work : ℕ

-- The lifted side has no spans, and has the object of each dart.
pub record LiftedTables : Type 0 where
  pub links : List ℕ
  pub places : List ℤ
  pub objects : List ℕ
  pub work : ℕ

abbrev pub lent : List ℕ → List ℤ → List ℤ → ℕ → Tables
lent links places spans work = record { links = links; places = places; spans = spans; work = work }

abbrev pub lent_lifted : List ℕ → List ℤ → List ℕ → ℕ → LiftedTables
lent_lifted links places objects work = record { links = links; places = places; objects = objects; work = work }

pub record Lengths : Type 0 where
  pub links : ℕ
  pub places : ℕ
  pub spans : ℕ
  pub work : ℕ

pub record LiftedLengths : Type 0 where
  pub links : ℕ
  pub places : ℕ
  pub objects : ℕ
  pub work : ℕ

abbrev pub lengths : Tables → Lengths
lengths T = record { links = length T.links; places = length T.places; spans = length T.spans; work = T.work }

abbrev pub lifted_lengths : LiftedTables → LiftedLengths
lifted_lengths O = record { links = length O.links; places = length O.places; objects = length O.objects; work = O.work }

-- Each table is told by its length and the width of its rows. More than 16,384 rows count as 16,384.
unfoldable pub fewest : List (ℕ × ℕ) → ℕ
fewest [] = dart_limit
fewest (t ∷ l) = min (t.0 / t.1) (fewest l)

-- The table with the fewest whole rows sets a side's capacity.
unfoldable pub plan_capacity : Lengths → ℕ
unfolding fewest
plan_capacity l = fewest ((l.links, link_width) ∷ ((l.places, place_width) ∷ ((l.spans, span_width) ∷ ((l.work, work_width) ∷ []))))

unfoldable pub lifted_capacity : LiftedLengths → ℕ
unfolding fewest
lifted_capacity l = fewest ((l.links, link_width) ∷ ((l.places, place_width) ∷ ((l.objects, object_width) ∷ ((l.work, work_width) ∷ []))))

-- Past the map's axes a dart is written as free: its own number stands there.
unfoldable pub link_at : Map → ℕ → ℕ → ℕ
link_at M d i = cond (nat_le i M.dim) (link M i d) d

-- Unused coordinates are 0.
unfoldable pub place_at : Map → ℕ → ℕ → ℤ
place_at M d x = slice_index_or (place M d) x (pos 0)

-- The numbers of each span, lo, hi and object, in the row's order.
unfoldable pub numbers_of : List Owned → List ℤ
numbers_of [] = []
numbers_of (x ∷ r) = x.span.lo ∷ (x.span.hi ∷ (x.object ∷ numbers_of r))

-- How many spans, then their numbers; unused numbers are 0.
unfoldable pub span_at : Map → ℕ → ℕ → ℤ
span_at M d q = slice_index_or (pos (length (owned M d)) ∷ numbers_of (owned M d)) q (pos 0)

-- A table of rows of width w: f d q stands at place q of dart d's row, z past the last dart.
unfoldable pub table_of : {A : Type 0} → ℕ → ℕ → (ℕ → ℕ → A) → A → ℕ → List A
table_of w n f z len = list_below len (λ p. let v = f (p / w) (p % w) in cond (nat_lt (p / w) n) v z)

abbrev pub links_table : Map → ℕ → List ℕ
links_table M len = table_of link_width (count M) (link_at M) 0 len

abbrev pub places_table : Map → ℕ → List ℤ
places_table M len = table_of place_width (count M) (place_at M) (pos 0) len

abbrev pub spans_table : Map → ℕ → List ℤ
spans_table M len = table_of span_width (count M) (span_at M) (pos 0) len

-- The object of each lifted dart, one number a dart, and 0 past the last one.
unfoldable pub objects_table : List ℕ → ℕ → List ℕ
objects_table objects len = list_below len (λ p. slice_index objects p)

-- the plan's tables, of these lengths, that hold a map
abbrev pub plan_tables : Map → Lengths → Tables
plan_tables M l = lent (links_table M l.links) (places_table M l.places) (spans_table M l.spans) l.work

-- the lifted side's tables, of these lengths, that hold a map and the objects that its darts carry
abbrev pub lifted_tables : Map → List ℕ → LiftedLengths → LiftedTables
lifted_tables M objects l = lent_lifted (links_table M l.links) (places_table M l.places) (objects_table objects l.objects) l.work

-- span q of dart d's row in a table of spans
abbrev pub span_in : List ℤ → ℕ → ℕ → Span
span_in spans d = λ q. record { lo = slice_index_or spans (d * span_width + (1 + per_span * q)) (pos 0); hi = slice_index_or spans (d * span_width + (2 + per_span * q)) (pos 0) }

abbrev pub owned_in : List ℤ → ℕ → ℕ → Owned
owned_in spans d = λ q. record { span = span_in spans d q; object = slice_index_or spans (d * span_width + (3 + per_span * q)) (pos 0) }

-- a number of spans that a row may have
abbrev pub count_fits : ℤ → Bool
count_fits z = int_le (pos 0) z && int_le z (pos span_limit)

-- a number that an object may have
abbrev pub object_fits : ℤ → Bool
object_fits z = int_le (pos 0) z && int_lt z (pos object_limit)

-- The row of dart d in a table of spans; none where the number of spans can't be one.
unfoldable pub owned_at : List ℤ → ℕ → List Owned
owned_at spans d =
    let z = get_or spans (d * span_width) (pos 0) in
    let c : ℕ = cond (count_fits z) (unsigned_abs z) 0 in
    list_below c (owned_in spans d)

abbrev pub row_at : List ℤ → ℕ → List Span
row_at spans d = spans_of (owned_at spans d)

-- The map of dimension m with n darts that tables hold.
unfoldable pub map_of : List ℕ → List ℤ → List ℤ → ℕ → ℕ → Map
map_of links places spans m n = record {
  dim = m;
  darts =
      list_below n
      (λ d. made (list_below (suc m) (λ i. slice_index links (d * link_width + i))) (list_below m (λ x. get_or places (d * place_width + x) (pos 0))) (owned_at spans d));
}
