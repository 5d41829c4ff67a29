-- The faults of a dart, over the numbers of raw tables: what refusals 6 to 11 try, one dart at a time.
--     coordinate_in     a coordinate of a dart, and place_in: all m of them
--     count_in          how many spans a dart's row says it has
--     ordered_at        a span is no empty one, and the next starts at its end or above
--     sound            a row is in order, and each of its objects is a number that one may have
--     sound_at          what a span of it has to be for that
--     beyond, unlinked         a link is no dart; it doesn't undo itself
--     unpaired_by, unpaired     two links, taken together twice, don't lead back; some pair of axis j doesn't
--     places_agree      what a link along axis j asks of two darts' places: to be the same, from axis 1 up
--     displaced, respanned     a link along an axis from 1 up leads to another place; along one below m to another row
--     fault_along       a dart is at fault along an axis, by a refusal's number: 6 to 9 and 11
--     fault_of          a dart is at fault by a refusal's number: 6 to 11
--     LinksIn          every link is a dart: what 7 to 11 may take for granted, being tried after 6
--     CountsIn         every row has a count from 0 to 8: what 11 may take for granted, being tried after 10
--     LinksFit, PlacesFit, SpansFit     a table has n whole rows; Fits: the three tables have, for dimension m
--     LinksWithin           the table of links has n whole rows, and every link is a dart
--     Tried            the refusals from 6 to below k are met by no dart
--     lowest           the first of so many darts that passes a test, if one does
--     first_from        the first refusal that is met, of so many from number k on, with the first dart at fault
use Rattle.std.specs.Prelude.{◌≡◌, ℕ, zero, suc, ◌+◌, ◌*◌, ◌<◌, ◌≤◌, Bool, true, false, cond, not, ◌&&◌, ◌||◌, List, length, ℤ, pos, ◌==◌, int_le, int_lt, nat_le, nat_lt, slice_index_or, Option, Some, None}
use Rattle.paper.specs.Width.{link_width, place_width, span_width, dart_limit, dim_limit}
use Rattle.paper.specs.Below.{any_below, first_below, list_below, any_of}
use Rattle.paper.specs.Map.{Owned, spans_of, eq_place, eq_row}
use Rattle.paper.specs.Span.{ordered}
use Rattle.paper.specs.Table.{count_fits, object_fits, owned_at, span_in, owned_in}
use Rattle.paper.specs.Sew.{implies}
use Rattle.paper.specs.Refusal.{number, answer}
use Rattle.paper.specs.declared.refusal.Refusal.TheVariants.{LinkBeyond, LinkNotUndone, PairNotUndone, PlacesDiffer, BadRow, RowsDiffer}
use Rattle.paper.specs.Call.{has_bad_row}
use Rattle.paper.specs.declared.Answer.{Answer}
use Rattle.kernel.specs.Link.{alpha}

-- ---- the numbers of a row
abbrev pub coordinate_in : List ℤ → ℕ → ℕ → ℤ
coordinate_in ps d = λ x. slice_index_or ps (d * place_width + x) (pos 0)

abbrev pub place_in : List ℤ → ℕ → ℕ → List ℤ
place_in ps m d = list_below m (coordinate_in ps d)

abbrev pub count_in : List ℤ → ℕ → ℤ
count_in ss d = slice_index_or ss (d * span_width) (pos 0)

-- span q of a row of c spans
abbrev pub ordered_at : List ℤ → ℕ → ℕ → ℕ → Bool
ordered_at ss d c q = int_lt (span_in ss d q).lo (span_in ss d q).hi && (nat_le c (q + 1) || int_le (span_in ss d q).hi (span_in ss d (q + 1)).lo)

abbrev pub misfit : Owned → Bool
misfit x = not (object_fits x.object)

unfoldable pub sound : List Owned → Bool
sound r = ordered (spans_of r) && not (any_of misfit r)

abbrev pub sound_at : List ℤ → ℕ → ℕ → ℕ → Bool
sound_at ss d c q = ordered_at ss d c q && object_fits (owned_in ss d q).object

-- ---- faults
abbrev pub beyond : List ℕ → ℕ → ℕ → ℕ → Bool
beyond ls n d i = nat_le n (alpha ls i d)

abbrev pub unlinked : List ℕ → ℕ → ℕ → Bool
unlinked ls d i = not (alpha ls i (alpha ls i d) == d)

abbrev pub unpaired_by : List ℕ → ℕ → ℕ → ℕ → Bool
unpaired_by ls d j = λ i. not (alpha ls i (alpha ls j (alpha ls i (alpha ls j d))) == d)

unfoldable pub unpaired : List ℕ → ℕ → ℕ → ℕ → Bool
unpaired ls m d j = any_below (suc m) (λ i. nat_le (i + 2) j && unpaired_by ls d j i)

abbrev pub places_agree : List ℤ → ℕ → ℕ → ℕ → ℕ → Bool
places_agree ps m j d e = implies (nat_le 1 j) (eq_place (place_in ps m d) (place_in ps m e))

abbrev pub displaced : List ℕ → List ℤ → ℕ → ℕ → ℕ → Bool
displaced ls ps m d j = nat_le 1 j && not (eq_place (place_in ps m d) (place_in ps m (alpha ls j d)))

abbrev pub respanned : List ℕ → List ℤ → ℕ → ℕ → ℕ → Bool
respanned ls ss m d j = nat_lt j m && not (eq_row (owned_at ss d) (owned_at ss (alpha ls j d)))

unfoldable pub fault_along : ℕ → List ℕ → List ℤ → List ℤ → ℕ → ℕ → ℕ → ℕ → Bool
fault_along k ls ps ss m n d i =
    cond (k == number LinkBeyond) (beyond ls n d i)
    (cond (k == number LinkNotUndone) (unlinked ls d i)
    (cond (k == number PairNotUndone) (unpaired ls m d i)
    (cond (k == number PlacesDiffer) (displaced ls ps m d i) (cond (k == number RowsDiffer) (respanned ls ss m d i) false))))

unfoldable pub fault_of : ℕ → List ℕ → List ℤ → List ℤ → ℕ → ℕ → ℕ → Bool
fault_of k ls ps ss m n d = cond (k == number BadRow) (has_bad_row ss d) (any_below (suc m) (fault_along k ls ps ss m n d))

unfoldable pub lowest : ℕ → (ℕ → Bool) → Option ℕ
lowest n p = let d = first_below n p in cond (nat_lt d n) (Some d) None

unfoldable pub first_from : ℕ → ℕ → (ℕ → ℕ → Bool) → ℕ → Answer
first_from zero k fault n = answer 0 0
first_from (suc left) k fault n = let d = first_below n (fault k) in let rest = first_from left (suc k) fault n in cond (nat_lt d n) (answer k d) rest

-- ---- what is known of the tables
abbrev pub LinksIn : List ℕ → ℕ → ℕ → Type 0
LinksIn ls m n = (d : ℕ) → d < n → (i : ℕ) → i ≤ m → alpha ls i d < n

abbrev pub CountsIn : List ℤ → ℕ → Type 0
CountsIn ss n = (d : ℕ) → d < n → count_fits (count_in ss d) ≡ true

pub record LinksFit (links : List ℕ) (m n : ℕ) : Type 0 where
  pub dim : m ≤ dim_limit
  pub few : n ≤ dart_limit
  pub rows : n * link_width ≤ length links

pub record PlacesFit (places : List ℤ) (m n : ℕ) : Type 0 where
  pub dim : m ≤ place_width
  pub few : n ≤ dart_limit
  pub rows : n * place_width ≤ length places

pub record SpansFit (spans : List ℤ) (n : ℕ) : Type 0 where
  pub few : n ≤ dart_limit
  pub rows : n * span_width ≤ length spans

pub record Fits (links : List ℕ) (places spans : List ℤ) (m n : ℕ) : Type 0 where
  pub links_fit : LinksFit links m n
  pub places_fit : PlacesFit places m n
  pub spans_fit : SpansFit spans n

pub record LinksWithin (links : List ℕ) (m n : ℕ) : Type 0 where
  pub fit : LinksFit links m n
  pub within : LinksIn links m n

abbrev pub Tried : ℕ → List ℕ → List ℤ → List ℤ → ℕ → ℕ → Type 0
Tried k ls ps ss m n = (j : ℕ) → number LinkBeyond ≤ j → j < k → (d : ℕ) → d < n → fault_of j ls ps ss m n d ≡ false
