-- Rows in a table, span by span.
--     owned-from, row_from       the row of a dart is so many spans from the number behind its count on, with their objects and without
--     spans-of         spans without their objects
--     spans-next       the next of the spans that are left
--     row_count        the number before them is how many they are
--     row-few          they are at most eight
--     row-ahead        a row without its first spans stands further on in the table
--     row-ends, row-ends-few   a row has two ends for each span
--     ends-append      the ends of two rows, one after the other
--     row-end          where end j of a row stands: behind the ends before it, and the numbers of the spans below it that are no ends
--     count-within     a count from 0 to 8 is a number that fits
use Rattle.std.proofs.Common.{◌≡◌, ℕ, zero, suc, ◌+◌, ◌-◌, ◌*◌, ◌/◌, ◌<◌, ◌≤◌, true, cond, T, leb, List, [], ◌∷◌, ◌++◌, length, get_or, drop, ℤ, pos, negsuc, nat_abs, sym, refl, ap, ◌∙◌, subst, le_of_suc-le-suc, not-suc-le-zero, arith, leb-true}
use lib.Signed.{non_neg}
use Rattle.paper.specs.Width.{span_limit, per_span, span_width, pair_width}
use Rattle.paper.specs.Below.{list_onto, list_below}
use Rattle.paper.specs.Map.{Span, spans_of}
use Rattle.paper.specs.Span.{ends_of}
use Rattle.paper.specs.Table.{count_fits, owned_in, owned_at, row_at}
use Rattle.theory.proofs.Bool.{clash, and_both}
use Rattle.span.specs.Row.{span_from, owned_from, spans_from, owneds_from, RowIn}

-- a list of n + 1 has the first in front
list-front : {A : Type 0} (n : ℕ) (f : ℕ → A) (l : List A) → list_onto (suc n) f l ≡ f 0 ∷ list_onto n (λ i. f (suc i)) l
unfolding list_onto
list-front zero f l = refl
list-front (suc n) f l = list-front n f (f (suc n) ∷ l)

from_places : (s : List ℤ) (at n : ℕ) → list_below n (λ q. owned_from s (at + per_span * q)) ≡ owneds_from s at n
unfolding owneds_from list_onto
from_places s at zero = refl
from_places s at (suc n) =
    list-front n (λ q. owned_from s (at + per_span * q)) []
    ∙ (λ t. owned_from s (here t) ∷ list_below n (λ q. owned_from s (later q t)))
    ∙ ap (λ l. owned_from s at ∷ l) (from_places s (at + per_span) n)
  where
    here : at + per_span * 0 ≡ at
    here = omega arith

    later : (q : ℕ) → at + per_span * suc q ≡ (at + per_span) + per_span * q
    later q = omega arith

pub owned-from : (s : List ℤ) (d : ℕ) → count_fits (get_or s (d * span_width) (pos 0)) ≡ true
    → owned_at s d ≡ owneds_from s (d * span_width + 1) (nat_abs (get_or s (d * span_width) (pos 0)))
unfolding owned_at
owned-from s d e =
    ap (λ b. list_below (cond b (nat_abs (get_or s (d * span_width) (pos 0))) 0) (owned_in s d)) e
    ∙ (λ t. list_below (nat_abs (get_or s (d * span_width) (pos 0))) (λ q. record {
      span = record { lo = get_or s (lower q t) (pos 0); hi = get_or s (upper q t) (pos 0) };
      object = get_or s (last q t) (pos 0);
    }))
    ∙ from_places s (d * span_width + 1) (nat_abs (get_or s (d * span_width) (pos 0)))
  where
    lower : (q : ℕ) → d * span_width + (1 + per_span * q) ≡ (d * span_width + 1) + per_span * q
    lower q = omega arith

    upper : (q : ℕ) → d * span_width + (2 + per_span * q) ≡ ((d * span_width + 1) + per_span * q) + 1
    upper q = omega arith

    last : (q : ℕ) → d * span_width + (3 + per_span * q) ≡ ((d * span_width + 1) + per_span * q) + 2
    last q = omega arith

pub spans-of : (s : List ℤ) (at n : ℕ) → spans_of (owneds_from s at n) ≡ spans_from s at n
unfolding owneds_from spans_from
spans-of s at zero = refl
spans-of s at (suc n) = ap (λ l. span_from s at ∷ l) (spans-of s (at + per_span) n)

pub row_from : (s : List ℤ) (d : ℕ) → count_fits (get_or s (d * span_width) (pos 0)) ≡ true
    → row_at s d ≡ spans_from s (d * span_width + 1) (nat_abs (get_or s (d * span_width) (pos 0)))
row_from s d e = ap spans_of (owned-from s d e) ∙ spans-of s (d * span_width + 1) (nat_abs (get_or s (d * span_width) (pos 0)))

spans-length : (s : List ℤ) (at n : ℕ) → length (spans_from s at n) ≡ n
unfolding spans_from
spans-length s at zero = refl
spans-length s at (suc n) = ap suc (spans-length s (at + per_span) n)

pub spans-next : (s : List ℤ) (at c j : ℕ) → j < c
    → spans_from s (at + j * per_span) (c - j) ≡ span_from s (at + j * per_span) ∷ spans_from s (at + (j + 1) * per_span) (c - (j + 1))
unfolding spans_from
spans-next s at c j h =
    let e : c - j ≡ suc (c - (j + 1)) = omega arith in
    let f : at + (j + 1) * per_span ≡ at + j * per_span + per_span = omega arith in
    rw (e, f)

pub row_count : (s : List ℤ) (d : ℕ) → RowIn s d → nat_abs (get_or s (d * span_width) (pos 0)) ≡ length (row_at s d)
row_count s d R = sym (ap length (row_from s d R.counted) ∙ spans-length s (d * span_width + 1) (nat_abs (get_or s (d * span_width) (pos 0))))

from-drop : (s : List ℤ) (at c j : ℕ) → j ≤ c → spans_from s (at + j * per_span) (c - j) ≡ drop j (spans_from s at c)
from-drop s at c zero h = let e : at + 0 * per_span ≡ at = omega arith in let f : c - 0 ≡ c = omega arith in rw (e, f)
from-drop s at zero (suc j) h = absurd (not-suc-le-zero h)
from-drop s at (suc c) (suc j) h =
    let e : at + suc j * per_span ≡ (at + per_span) + j * per_span = omega arith in
    let f : suc c - suc j ≡ c - j = omega arith in
    rw (e, f) (from-drop s (at + per_span) c j (le_of_suc-le-suc h) ∙ (unfold spans_from in refl))

pub row-ahead : (s : List ℤ) (d i : ℕ) → RowIn s d → i ≤ length (row_at s d)
    → spans_from s (d * span_width + 1 + i * per_span) (nat_abs (get_or s (d * span_width) (pos 0)) - i) ≡ drop i (row_at s d)
row-ahead s d i R h =
    let e = row_count s d R in
    from-drop s (d * span_width + 1) (nat_abs (get_or s (d * span_width) (pos 0))) i (omega arith) ∙ ap (drop i) (sym (row_from s d R.counted))

ends-length : (s : List ℤ) (at n : ℕ) → length (ends_of (spans_from s at n)) ≡ n * pair_width
unfolding spans_from ends_of
ends-length s at zero = refl
ends-length s at (suc n) = ap (λ (k : ℕ). suc (suc k)) (ends-length s (at + per_span) n) ∙ omega arith

pub row-ends : (s : List ℤ) (d : ℕ) → RowIn s d → length (ends_of (row_at s d)) ≡ nat_abs (get_or s (d * span_width) (pos 0)) * pair_width
row-ends s d R = ap (λ r. length (ends_of r)) (row_from s d R.counted) ∙ ends-length s (d * span_width + 1) (nat_abs (get_or s (d * span_width) (pos 0)))

pub count-within : (z : ℤ) → count_fits z ≡ true → T (non_neg z) × (nat_abs z ≤ span_limit)
count-within (pos a) e = (tt, leb-true a span_limit (and_both (leb 0 a) (leb a span_limit) e).1)
count-within (negsuc a) e = absurd (clash e refl)

pub row-few : (s : List ℤ) (d : ℕ) → RowIn s d → length (row_at s d) ≤ span_limit
row-few s d R = let e = row_count s d R in let f = (count-within (get_or s (d * span_width) (pos 0)) R.counted).1 in omega arith

pub row-ends-few : (s : List ℤ) (d : ℕ) → RowIn s d → length (ends_of (row_at s d)) ≤ pair_width * span_limit
row-ends-few s d R = let e = row-ends s d R in let f = (count-within (get_or s (d * span_width) (pos 0)) R.counted).1 in omega arith

pub ends-append : (a b : List Span) → ends_of (a ++ b) ≡ ends_of a ++ ends_of b
unfolding ends_of
ends-append [] b = refl
ends-append (x ∷ a) b = ap (λ l. x.lo ∷ (x.hi ∷ l)) (ends-append a b)

-- where end j stands in a row of spans from a place on
abbrev slot : ℕ → ℕ → ℕ
slot at j = at + j / pair_width * (per_span - pair_width) + j

spans-end : (s : List ℤ) (at n j : ℕ) → j < length (ends_of (spans_from s at n)) → get_or s (slot at j) (pos 0) ≡ get_or (ends_of (spans_from s at n)) j (pos 0)
unfolding spans_from ends_of
spans-end s at zero j h = absurd (not-suc-le-zero h)
spans-end s at (suc n) zero h = let e : slot at 0 ≡ at = omega arith in ap (λ (k : ℕ). get_or s k (pos 0)) e
spans-end s at (suc n) (suc zero) h = let e : slot at 1 ≡ at + 1 = omega arith in ap (λ (k : ℕ). get_or s k (pos 0)) e
spans-end s at (suc n) (suc (suc j)) h =
    let e : slot at (suc (suc j)) ≡ slot (at + per_span) j = omega arith in
    ap (λ (k : ℕ). get_or s k (pos 0)) e ∙ spans-end s (at + per_span) n j (le_of_suc-le-suc (le_of_suc-le-suc h))

pub row-end : (s : List ℤ) (d j : ℕ) → RowIn s d → j < length (ends_of (row_at s d))
    → get_or s (d * span_width + 1 + j / pair_width * (per_span - pair_width) + j) (pos 0) ≡ get_or (ends_of (row_at s d)) j (pos 0)
row-end s d j R h =
    let e = row_from s d R.counted in
    spans-end s (d * span_width + 1) (nat_abs (get_or s (d * span_width) (pos 0))) j (subst (λ r. j < length (ends_of r)) e h) ∙ ap (λ r. get_or (ends_of r) j (pos 0)) (sym e)
