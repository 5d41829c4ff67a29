-- A row searched span by span.
--     owned-at         span q of a dart's row, as it stands in the table
--     before_stop, before_next, before_none    how many of the spans from span j on come before a new one: none where span j ends above its lo, else one more than from the next on; none past the last
--     met_next, met_stop, met_none             how many of them it meets: one more than from the next on where span j starts below its hi, else none; none past the last
--     other_met, other_next, other_none        whether one of the spans from span j up to e is of another object: span j is, else one of those behind it; none where there are none
--     before_steps, met_steps, other_steps     each for tactics
use Rattle.std.proofs.Common.{◌≡◌, ℕ, zero, suc, ◌+◌, ◌-◌, ◌*◌, ◌<◌, ◌≤◌, Bool, true, false, cond, not, ◌||◌, List, [], ◌∷◌, length, get_or, take, drop, ℤ, pos, nat_abs, refl, ap, ◌∙◌, arith, drop_of_length-le, drop-cons}
use lib.Signed.{lt_z}
use mir.ValLaws.{to_z-of_z}
use Rattle.paper.specs.Width.{per_span, span_width}
use Rattle.paper.specs.Below.{any_of}
use Rattle.paper.specs.Map.{Span, Owned, no_span, spans_of, eq_z}
use Rattle.paper.specs.Table.{count_fits, owned_in, owned_at}
use Rattle.theory.proofs.Below.{list_length, list_at}
use Rattle.theory.proofs.Table.{spans-length}
use Rattle.span.specs.Row.{owned_from}
use Rattle.respan.specs.Cell.{is_other}
use Rattle.respan.specs.Splice.{before, met}
use Rattle.respan.proofs.Numbers.{row_sizes}

-- where span q of d's row stands
abbrev place : ℕ → ℕ → ℕ
place d q = d * span_width + 1 + q * per_span

pub owned-at : (ss : List ℤ) (d q : ℕ) → q < length (owned_at ss d) → get_or (owned_at ss d) q no_span ≡ owned_from ss (place d q)
unfolding owned_at
owned-at ss d q h =
    let z = get_or ss (d * span_width) (pos 0) in
    let c : ℕ = cond (count_fits z) (nat_abs z) 0 in
    let l = list_length c (owned_in ss d) in
    let e : d * span_width + (1 + per_span * q) ≡ place d q = omega arith in
    let f : d * span_width + (2 + per_span * q) ≡ place d q + 1 = omega arith in
    let g : d * span_width + (3 + per_span * q) ≡ place d q + 2 = omega arith in
    list_at c (owned_in ss d) no_span q (omega arith)
    ∙ (λ k. record { span = record { lo = get_or ss (e k) (pos 0); hi = get_or ss (f k) (pos 0) }; object = get_or ss (g k) (pos 0) })

spans-at : (r : List Owned) (q : ℕ) → get_or (spans_of r) q no_span.span ≡ (get_or r q no_span).span
spans-at [] q = refl
spans-at (x ∷ r) zero = refl
spans-at (x ∷ r) (suc q) = spans-at r q

module _ (z : ℤ) (r : List Owned) (j : ℕ) where
  abbrev left : List Span
  left = drop j (spans_of r)

  abbrev behind : List Span
  behind = drop (j + 1) (spans_of r)

  left-next : j < length r → left ≡ (get_or r j no_span).span ∷ behind
  left-next h =
      let l = spans-length r in
      let e : suc j ≡ j + 1 = omega arith in
      drop-cons (spans_of r) j no_span.span (omega arith) ∙ (λ k. spans-at r j k ∷ drop (e k) (spans_of r))

  left-none : length r ≤ j → left ≡ []
  left-none h = let l = spans-length r in drop_of_length-le (spans_of r) (omega arith)

  pub before_stop : j < length r → lt_z z (get_or r j no_span).span.hi ≡ true → before z left ≡ 0
  unfolding before
  before_stop h e = ap (before z) (left-next h) ∙ ap (λ b. elim b as (λ (t : Bool). ℕ) [ true ↦ 0 | false ↦ suc (before z behind) ]) e

  pub before_next : j < length r → lt_z z (get_or r j no_span).span.hi ≡ false → before z left ≡ suc (before z behind)
  unfolding before
  before_next h e = ap (before z) (left-next h) ∙ ap (λ b. elim b as (λ (t : Bool). ℕ) [ true ↦ 0 | false ↦ suc (before z behind) ]) e

  pub before_none : length r ≤ j → before z left ≡ 0
  unfolding before
  before_none h = ap (before z) (left-none h)

  pub met_next : j < length r → lt_z (get_or r j no_span).span.lo z ≡ true → met z left ≡ suc (met z behind)
  unfolding met
  met_next h e = ap (met z) (left-next h) ∙ ap (λ b. elim b as (λ (t : Bool). ℕ) [ true ↦ suc (met z behind) | false ↦ 0 ]) e

  pub met_stop : j < length r → lt_z (get_or r j no_span).span.lo z ≡ false → met z left ≡ 0
  unfolding met
  met_stop h e = ap (met z) (left-next h) ∙ ap (λ b. elim b as (λ (t : Bool). ℕ) [ true ↦ suc (met z behind) | false ↦ 0 ]) e

  pub met_none : length r ≤ j → met z left ≡ 0
  unfolding met
  met_none h = ap (met z) (left-none h)

pub ruleset before_steps = (row_sizes, to_z-of_z, before_stop, before_next, before_none)

pub ruleset met_steps = (row_sizes, to_z-of_z, met_next, met_stop, met_none)

-- spans j up to e of the row
module _ (z : ℤ) (r : List Owned) (e j : ℕ) where
  abbrev part : List Owned
  part = take (e - j) (drop j r)

  abbrev rest : List Owned
  rest = take (e - (j + 1)) (drop (j + 1) r)

  part-next : j < e → e ≤ length r → part ≡ get_or r j no_span ∷ rest
  part-next h l =
      let g : j < length r = omega arith in
      let f : e - j ≡ suc (e - (j + 1)) = omega arith in
      let k : suc j ≡ j + 1 = omega arith in
      (λ i. take (f i) (drop-cons r j no_span g i)) ∙ (λ i. get_or r j no_span ∷ take (e - (j + 1)) (drop (k i) r))

  pub other_met : j < e → e ≤ length r → eq_z z (get_or r j no_span).object ≡ false → any_of (is_other z) part ≡ true
  unfolding any_of
  other_met h l f = ap (any_of (is_other z)) (part-next h l) ∙ ap (λ t. not t || any_of (is_other z) rest) f

  pub other_next : j < e → e ≤ length r → eq_z z (get_or r j no_span).object ≡ true → any_of (is_other z) part ≡ any_of (is_other z) rest
  unfolding any_of
  other_next h l f = ap (any_of (is_other z)) (part-next h l) ∙ ap (λ t. not t || any_of (is_other z) rest) f

  pub other_none : e ≤ j → any_of (is_other z) part ≡ false
  unfolding any_of
  other_none h = let f : e - j ≡ 0 = omega arith in ap (λ (k : ℕ). any_of (is_other z) (take k (drop j r))) f

pub ruleset other_steps = (row_sizes, to_z-of_z, other_met, other_next, other_none)
