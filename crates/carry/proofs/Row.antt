-- The spans of a row that cover its sides, and their objects.
--     found-not        a side that is covered is covered by some span
--     object-is        the object of a span, as it stands in the table
--     object-within    an object that fits is a number from 0 on that fits
--     carried-found    what a row carries is the object of the span that was found
--     last_from         where the last spans of a row begin in the table
--     some-found, none_found     the search from one of the last spans on: it finds the one whose object the row carries, or finds none, and then not all spans were left
--     left_here        of the spans that are left, the first covers the side: that is what a search from it on finds
--     search-few, search-some    no more spans are searched than there are, and fewer only where one was found
--     one_found        where a dart has one span, the search finds it for a side that is covered
--     one-carried      and each of its rows carries that one's object
use Rattle.std.proofs.Common.{◌≡◌, ℕ, zero, suc, ◌+◌, ◌-◌, ◌*◌, ◌<◌, ◌≤◌, Bool, true, false, cond, T, eqb, List, [], ◌∷◌, length, get_or, drop, ℤ, pos, negsuc, nat_abs, sym, refl, ap, ◌∙◌, arith, ne_eqb, None, Option, Some}
use native.Mathlib.Omega.{by_contra}
use lib.Signed.{non_neg}
use Rattle.paper.specs.Width.{per_span, span_width, object_limit}
use Rattle.paper.specs.Map.{Span, Owned, no_span}
use Rattle.paper.specs.Span.{covers, covering_from, covering, found, covered}
use Rattle.paper.specs.Table.{count_fits, object_fits, owned_in, owned_at, row_at}
use Rattle.paper.specs.Lift.{object_at}
use Rattle.theory.proofs.Bool.{clash}
use Rattle.theory.proofs.Below.{list_length, list_at}
use Rattle.theory.proofs.Table.{spans-length}
use Rattle.theory.proofs.Fit.{fit-below}
use Rattle.span.specs.Row.{span_from, spans_from, left_of}
use Rattle.span.proofs.Row.{row_from, row_count, row-ahead}
use Rattle.span.proofs.Covering.{one_left, told_none, told-on}
use Rattle.carry.specs.Carried.{upward, height_in, carried_at, Own}

pub found-not : (c : Option ℕ) → found c ≡ true → None ≡ c → ⊥
found-not c f e = clash f (ap found (sym e))

one_covers : (r : List Span) (t : ℤ) (s : Bool) → length r ≡ 1 → covered r t s ≡ true → covering r t s ≡ Some 0
unfolding covering_from
one_covers [] t s e c = absurd (let z : ⊥ = omega arith in z)
one_covers (x ∷ []) t s e c = go (covers x t s) c
  where
    go : (b : Bool) → found (cond b (Some 0) None) ≡ true → cond {A = Option ℕ} b (Some 0) None ≡ Some 0
    go true h = refl
    go false h = absurd (clash h refl)
one_covers (x ∷ (y ∷ r)) t s e c = absurd (let z : ⊥ = omega arith in z)

pub object-is : (s : List ℤ) (d j : ℕ) → j < length (row_at s d) → get_or s (d * span_width + (3 + per_span * j)) (pos 0) ≡ (get_or (owned_at s d) j no_span).object
unfolding owned_at
object-is s d j h =
    let z = get_or s (d * span_width) (pos 0) in
    let c : ℕ = cond (count_fits z) (nat_abs z) 0 in
    let e = spans-length (owned_at s d) in
    let f = list_length c (owned_in s d) in
    ap (λ (x : Owned). x.object) (sym (list_at c (owned_in s d) no_span j (omega arith)))

pub object-within : (z : ℤ) → object_fits z ≡ true → T (non_neg z) × (nat_abs z < object_limit)
object-within (pos a) e = (tt, fit-below (pos a) e)
object-within (negsuc a) e = absurd (clash e refl)

pub carried-found : (s op : List ℤ) (m d q j : ℕ) → covering (row_at s d) (height_in op m q) (upward q) ≡ Some j
    → nat_abs (get_or (owned_at s d) j no_span).object ≡ carried_at s op m d q
unfolding carried_at
carried-found s op m d q j e = sym (ap (object_at (owned_at s d)) e)

-- where the last spans of a row begin in the table, so many
abbrev pub last_from : List ℤ → ℕ → ℕ → ℕ
last_from s d left = d * span_width + 1 + length (row_at s d) * per_span - left * per_span

last-spans : (s : List ℤ) (d left : ℕ) → Own s d → left ≤ length (row_at s d)
    → spans_from s (last_from s d left) left ≡ drop (length (row_at s d) - left) (row_at s d)
last-spans s d left O h =
    let e = row_count s d O.row in
    let n = nat_abs (get_or s (d * span_width) (pos 0)) in
    let i = length (row_at s d) - left in
    let a : last_from s d left ≡ d * span_width + 1 + i * per_span = omega arith in
    let b : left ≡ n - i = omega arith in
    (λ t. spans_from s (a t) (b t)) ∙ row-ahead s d i O.row (omega arith)

module _ (s op : List ℤ) (m d q left k : ℕ) (O : Own s d) (h : left ≤ length (row_at s d))
    (e : k ≡ left_of left (covering (spans_from s (last_from s d left) left) (height_in op m q) (upward q))) where
  abbrev r : List Span
  r = row_at s d

  of_row : k ≡ left_of left (covering (drop (length r - left) r) (height_in op m q) (upward q))
  of_row = e ∙ ap (λ (l : List Span). left_of left (covering l (height_in op m q) (upward q))) (last-spans s d left O h)

  pub some-found : (k ≡ 0 → ⊥) → nat_abs (get_or (owned_at s d) (length r - k) no_span).object ≡ carried_at s op m d q
  some-found g =
      let c : left ≡ length r - (length r - left) = omega arith in
      carried-found s op m d q (length r - k)
      (told-on (length r - left) k r (height_in op m q) (upward q) O.order (omega arith) (of_row ∙ ap (λ (n : ℕ). left_of n (covering (drop (length r - left) r) (height_in op m q) (upward q))) c) g)

  pub none_found : k ≡ 0 → covered r (height_in op m q) (upward q) ≡ true → left < length r
  none_found g f = by_contra (suc left) (length r) (λ l.
      let c : length r ≡ left = omega arith in
      let z : length r - left ≡ 0 = omega arith in
      found-not (covering r (height_in op m q) (upward q)) f
      (sym (told_none left r (height_in op m q) (upward q) c (sym (of_row ∙ ap (λ (n : ℕ). left_of left (covering (drop n r) (height_in op m q) (upward q))) z) ∙ g))))

pub left_here : (s : List ℤ) (at n : ℕ) (t : ℤ) (up : Bool) → 0 < n → covers (span_from s at) t up ≡ true → n ≡ left_of n (covering (spans_from s at n) t up)
left_here s at n t up h c =
    sym (one_left s at n t up (λ e. omega arith) ∙ ap (λ (b : Bool). cond b n (left_of (n - 1) (covering (spans_from s (at + per_span) (n - 1)) t up))) c)

-- n spans are searched: those behind the one that was found last, or all
pub search-few : (left all n : ℕ) → n ≡ cond (eqb left 0) all (left - 1) → left ≤ all → n ≤ all
search-few zero all n e h = omega arith
search-few (suc left) all n e h = let f = rw (ne_eqb (suc left) 0 (λ z. omega arith)) at e in omega arith

pub search-some : (left all n : ℕ) → n ≡ cond (eqb left 0) all (left - 1) → n < all → 0 < left
search-some zero all n e h = omega arith
search-some (suc left) all n e h = omega arith

pub one_found : (s : List ℤ) (d k : ℕ) (t : ℤ) (up : Bool) → Own s d → length (row_at s d) ≡ 1 → k ≡ left_of 1 (covering (spans_from s (d * span_width + 1) 1) t up)
    → covered (row_at s d) t up ≡ true → k ≡ 1
unfolding left_of
one_found s d k t up O e l f =
    let r : spans_from s (d * span_width + 1) 1 ≡ row_at s d = sym (row_from s d O.row.counted ∙ ap (spans_from s (d * span_width + 1)) (row_count s d O.row ∙ e)) in
    l ∙ ap (λ (x : List Span). left_of 1 (covering x t up)) r ∙ ap (left_of 1) (one_covers (row_at s d) t up e f)

pub one-carried : (s op : List ℤ) (m d q : ℕ) → length (row_at s d) ≡ 1 → covered (row_at s d) (height_in op m q) (upward q) ≡ true
    → nat_abs (get_or (owned_at s d) 0 no_span).object ≡ carried_at s op m d q
one-carried s op m d q e f = carried-found s op m d q 0 (one_covers (row_at s d) (height_in op m q) (upward q) e f)
