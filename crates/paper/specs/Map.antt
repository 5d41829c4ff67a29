-- The map: a dimension and darts, each with its links, its place and its row of spans.
--     Span            a stretch of heights, from lo up to hi
--     Owned           a span of a row: a stretch of heights with the object that it belongs to
--     Dart            what a dart has: a link for each axis 0 to m, m coordinates, a row of owned spans
--     Map             a dimension m and the darts, numbered by their position from 0
--     count           how many darts a map has
--     link M i d      α_i(d), the dart that d is linked to along axis i
--     place           the place of a dart
--     owned, row      its row, each span with its object; and the spans alone, which is all that ends, pieces and the lift's darts depend on
--     made            a dart with these links, place and row: every dart is made by it
--     with_links, with_place, with_row     a dart with one of them replaced
--     fresh_dart       a new dart: linked to itself along each axis, at 0, with no spans
--     free M i d      d is free along i: α_i(d) = d
--     blank           the map of a side with nothing on it: dimension 0, no darts
--     eq_z, eq_span, eq_owned, eq_place, eq_row     tests of equality
use Rattle.std.specs.Prelude.{ℕ, suc, Bool, false, ◌&&◌, List, [], ◌∷◌, length, replicate, ℤ, pos, negsuc, ◌==◌, slice_index, slice_index_or}
use Rattle.paper.specs.Below.{same_list}

-- Coordinates, ends and objects are whole numbers here; that they fit 32 signed bits, and objects 16 bits from 0 on, is due to the commands and tables that
-- bring them.
pub record Span : Type 0 where
  pub lo : ℤ
  pub hi : ℤ

pub record Owned : Type 0 where
  pub span : Span
  pub object : ℤ

-- A dart has a link for each axis, a place of m coordinates and a row of owned spans.
pub record Dart : Type 0 where
  pub links : List ℕ
  pub place : List ℤ
  pub owned : List Owned

-- A map has a dimension, and darts numbered from 0. No dart at all is allowed.
pub record Map : Type 0 where
  pub dim : ℕ
  pub darts : List Dart

abbrev pub made : List ℕ → List ℤ → List Owned → Dart
made links place owned = record { links = links; place = place; owned = owned }

-- the spans of a row, without their objects
abbrev pub spans_of : List Owned → List Span
spans_of [] = []
spans_of (x ∷ r) = x.span ∷ spans_of r

-- the row of a dart, with and without objects
abbrev pub owned_of : Dart → List Owned
owned_of x = x.owned

abbrev pub row_of : Dart → List Span
row_of x = spans_of (owned_of x)

abbrev pub with_links : List ℕ → Dart → Dart
with_links l x = made l x.place (owned_of x)

abbrev pub with_place : List ℤ → Dart → Dart
with_place p x = made x.links p (owned_of x)

abbrev pub with_row : List Owned → Dart → Dart
with_row r x = made x.links x.place r

-- of dimension m, with number d
abbrev pub fresh_dart : ℕ → ℕ → Dart
fresh_dart m d = made (replicate (suc m) d) (replicate m (pos 0)) []

-- what is read past the last span of a row
abbrev pub no_span : Owned
no_span = record { span = record { lo = pos 0; hi = pos 0 }; object = pos 0 }

-- what is read past the last dart
abbrev pub no_dart : Dart
no_dart = made [] [] []

abbrev pub count : Map → ℕ
count M = length M.darts

abbrev pub dart : Map → ℕ → Dart
dart M d = slice_index_or M.darts d no_dart

-- α_i(d)
abbrev pub link : Map → ℕ → ℕ → ℕ
link M = λ i d. slice_index (dart M d).links i

abbrev pub place : Map → ℕ → List ℤ
place M d = (dart M d).place

abbrev pub owned : Map → ℕ → List Owned
owned M d = owned_of (dart M d)

abbrev pub row : Map → ℕ → List Span
row M d = row_of (dart M d)

-- A dart is free along an axis where its link is the dart itself.
abbrev pub free : Map → ℕ → ℕ → Bool
free M i d = link M i d == d

-- A run starts with both maps blank.
abbrev pub blank : Map
blank = record { dim = 0; darts = [] }

abbrev pub eq_z : ℤ → ℤ → Bool
eq_z (pos a) (pos b) = a == b
eq_z (pos a) (negsuc b) = false
eq_z (negsuc a) (pos b) = false
eq_z (negsuc a) (negsuc b) = a == b

abbrev pub eq_span : Span → Span → Bool
eq_span x y = eq_z x.lo y.lo && eq_z x.hi y.hi

abbrev pub eq_owned : Owned → Owned → Bool
eq_owned x y = eq_span x.span y.span && eq_z x.object y.object

abbrev pub eq_place : List ℤ → List ℤ → Bool
eq_place p q = same_list eq_z p q

-- Rows are equal where they have the same spans of the same objects in the same order: 0..2, 2..5 is not 0..5.
abbrev pub eq_row : List Owned → List Owned → Bool
eq_row r s = same_list eq_owned r s
