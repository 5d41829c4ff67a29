-- All is well at a dart, as one look at it tells: where it is at every dart, none is at fault by any of 6 to 11.
--     commutes         axes j and i lead from a dart to the same one, whichever is taken first
--     rows_agree        what a link along axis j asks of two darts' rows: to be the same, below m
--     linked_to, linked_along      e, or the link along axis j, is a dart, leads back, and where it is no lower one commutes with the axes two or more below
--     agrees_to, agrees_along      a dart agrees with e, or with its link along axis j
--     has_lower         axis 0 leads to a lower dart, or axis 1 does and is below m: that dart has the same row
--     good_row          the row is one, or there is such a dart
--     well_at           the row's count is one, the row is good, and along the axes up to m the dart is linked and agrees
--     LinksBefore      the links along the axes before j are darts
use Rattle.std.specs.Prelude.{ℕ, suc, ◌-◌, ◌<◌, Bool, not, ◌&&◌, ◌||◌, List, ℤ, ◌==◌, nat_le, nat_lt}
use Rattle.paper.specs.Below.{all_below}
use Rattle.paper.specs.Map.{eq_z, eq_row}
use Rattle.paper.specs.Table.{count_fits, owned_at}
use Rattle.paper.specs.Sew.{implies}
use Rattle.paper.specs.Call.{has_bad_row}
use Rattle.kernel.specs.Link.{alpha}
use Rattle.fault.specs.Fault.{count_in, places_agree}

abbrev pub LinksBefore : List ℕ → ℕ → ℕ → ℕ → Type 0
LinksBefore ls n d j = (i : ℕ) → i < j → alpha ls i d < n

abbrev pub commutes : List ℕ → ℕ → ℕ → ℕ → Bool
commutes ls d j = λ i. (alpha ls j (alpha ls i d) == alpha ls i (alpha ls j d))

-- Only where both rows say that they have as many spans are the spans looked at.
abbrev pub rows_agree : List ℤ → ℕ → ℕ → ℕ → ℕ → Bool
rows_agree ss m j d e = implies (nat_lt j m) (eq_z (count_in ss d) (count_in ss e) && eq_row (owned_at ss d) (owned_at ss e))

-- Where axis j commutes at a dart, it does at the other one too: the lower of the two is asked.
abbrev pub linked_to : List ℕ → ℕ → ℕ → ℕ → ℕ → Bool
linked_to ls n d j e = nat_lt e n && (alpha ls j e == d && (nat_lt e d || all_below (j - 1) (commutes ls d j)))

abbrev pub linked_along : List ℕ → ℕ → ℕ → ℕ → Bool
linked_along ls n d = λ j. linked_to ls n d j (alpha ls j d)

-- Of two linked darts the lower one is asked.
abbrev pub agrees_to : List ℤ → List ℤ → ℕ → ℕ → ℕ → ℕ → Bool
agrees_to ps ss m d j e = nat_le e d || (places_agree ps m j d e && rows_agree ss m j d e)

abbrev pub agrees_along : List ℕ → List ℤ → List ℤ → ℕ → ℕ → ℕ → Bool
agrees_along ls ps ss m d = λ j. agrees_to ps ss m d j (alpha ls j d)

abbrev pub has_lower : List ℕ → ℕ → ℕ → Bool
has_lower ls m d = nat_lt (alpha ls 0 d) d || (nat_le 2 m && nat_lt (alpha ls 1 d) d)

abbrev pub good_row : List ℕ → List ℤ → ℕ → ℕ → Bool
good_row ls ss m d = has_lower ls m d || not (has_bad_row ss d)

unfoldable pub well_at : List ℕ → List ℤ → List ℤ → ℕ → ℕ → ℕ → Bool
well_at ls ps ss m n d =
    count_fits (count_in ss d) && (good_row ls ss m d && (all_below (suc m) (linked_along ls n d) && all_below (suc m) (agrees_along ls ps ss m d)))
