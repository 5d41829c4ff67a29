-- The row of a dart in a table of spans: its spans, and whether each is sound, from the front.
--     row_in           a row of those that fit is in the table, if its count is from 0 to 8
--     row_of           the row as a list of so many spans
--     sound-below      it is sound where each of its spans is
use Rattle.std.proofs.Common.{◌≡◌, ℕ, suc, le_refl, ◌+◌, ◌<◌, Bool, true, false, cond, not, ◌&&◌, ◌||◌, leb, List, drop, ℤ, nat_abs, sym, refl, ap, ◌∙◌, ⊎_elim, add-one, arith, leb-false, leb-true}
use lib.Signed.{lt_z, le_z}
use Rattle.paper.specs.Below.{all_below, list_below, any_of}
use Rattle.paper.specs.Map.{Owned, spans_of}
use Rattle.paper.specs.Span.{starts_from, ordered}
use Rattle.paper.specs.Table.{count_fits, object_fits, owned_at, owned_in}
use Rattle.theory.proofs.Bool.{decided}
use Rattle.span.specs.Row.{RowIn}
use Rattle.fault.specs.Fault.{count_in, misfit, sound, SpansFit}
use Rattle.fault.proofs.Same.{list-drop, list_done, from_front}

pub row_in : (ss : List ℤ) (n d : ℕ) → SpansFit ss n → d < n → count_fits (count_in ss d) ≡ true → RowIn ss d
row_in ss n d F h e = let a = F.few in let b = F.rows in record { few = omega arith; fits = omega arith; counted = e }

pub row_of : (ss : List ℤ) (d c : ℕ) → count_fits (count_in ss d) ≡ true → c ≡ nat_abs (count_in ss d) → owned_at ss d ≡ list_below c (owned_in ss d)
unfolding owned_at
row_of ss d c e q = ap (λ t. list_below (cond t (nat_abs (count_in ss d)) 0) (owned_in ss d)) e ∙ ap (λ k. list_below k (owned_in ss d)) (sym q)

module _ (c : ℕ) (f : ℕ → Owned) where
  -- span i is no empty one, the next starts at its end or above, and its object is one
  abbrev pub good_at : ℕ → Bool
  good_at i = (lt_z (f i).span.lo (f i).span.hi && (leb c (i + 1) || le_z (f i).span.hi (f (i + 1)).span.lo)) && object_fits (f i).object

  next : (h : ℤ) (i : ℕ) → starts_from h (spans_of (drop (suc i) (list_below c f))) ≡ (leb c (suc i) || le_z h (f (suc i)).span.lo)
  next h i =
      ⊎_elim
      (λ e. ap (λ l. starts_from h (spans_of l)) (list_done c f (suc i) (leb-true c (suc i) e)) ∙ sym (ap (λ t. t || le_z h (f (suc i)).span.lo) e))
      (λ e. ap (λ l. starts_from h (spans_of l)) (list-drop c f (suc i) (leb-false c (suc i) e)) ∙ sym (ap (λ t. t || le_z h (f (suc i)).span.lo) e))
      (decided (leb c (suc i)))

  -- the first span's part of the test, and what is left
  part : (a b o x n : Bool) → ((a && (b && o)) && not (not x || n)) ≡ (((a && b) && x) && (o && not n))
  part false b o x n = refl
  part true false o x n = refl
  part true true o true n = refl
  part true true true false n = refl
  part true true false false n = refl

  here : (i : ℕ) → i < c → sound (drop i (list_below c f)) ≡ (good_at i && sound (drop (suc i) (list_below c f)))
  unfolding sound ordered any_of
  here i h =
      ap sound (list-drop c f i h)
      ∙ ap (λ t. (lt_z (f i).span.lo (f i).span.hi && (t && ordered (spans_of (drop (suc i) (list_below c f))))) && not (misfit (f i) || any_of misfit (drop (suc i) (list_below c f)))) (next (f i).span.hi i)
      ∙ part (lt_z (f i).span.lo (f i).span.hi) (leb c (suc i) || le_z (f i).span.hi (f (suc i)).span.lo) (ordered (spans_of (drop (suc i) (list_below c f))))
      (object_fits (f i).object) (any_of misfit (drop (suc i) (list_below c f)))
      ∙ ap (λ (k : ℕ). ((lt_z (f i).span.lo (f i).span.hi && (leb c k || le_z (f i).span.hi (f k).span.lo)) && object_fits (f i).object) && sound (drop (suc i) (list_below c f))) (sym (add-one i))

  pub sound-below : all_below c good_at ≡ sound (list_below c f)
  unfolding sound ordered any_of
  sound-below = from_front good_at (λ i. sound (drop i (list_below c f))) c here (ap sound (list_done c f c (le_refl c)))
