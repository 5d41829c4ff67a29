-- The numbers of a row in its table.
--     owned-count      the number before the spans of a row is how many they are, with their objects
--     first-number     the first number of the row is that
--     owned-few        a row that is in the table has no more than a row may have
--     row_sizes        both, for tactics
--     owned-numbers    behind the count stand the numbers of its spans
--     used-number      up to where they end the numbers in the table are the row's
use Rattle.std.proofs.Common.{◌≡◌, ℕ, zero, suc, ◌+◌, ◌-◌, ◌*◌, ◌<◌, ◌≤◌, List, ◌∷◌, length, get_or, take, drop, ℤ, pos, nat_abs, sym, refl, ap, ◌∙◌, subst, add-zero, arith, drop-cons, get_or-drop, get_or-take}
use Rattle.std.specs.Int.Signed.{pos-nat_abs}
use Rattle.paper.specs.Width.{span_limit, per_span, span_width}
use Rattle.paper.specs.Table.{numbers_of, owned_at}
use Rattle.theory.proofs.Table.{spans-length}
use Rattle.span.specs.Row.{owneds_from, RowIn}
use Rattle.span.proofs.Row.{owned-from, row_count, count-within}
use Rattle.respan.specs.Splice.{number_at, row_number}

pub owned-count : (ss : List ℤ) (d : ℕ) → RowIn ss d → nat_abs (get_or ss (d * span_width) (pos 0)) ≡ length (owned_at ss d)
owned-count ss d R = row_count ss d R ∙ spans-length (owned_at ss d)

pub first-number : (ss : List ℤ) (d : ℕ) → RowIn ss d → nat_abs (number_at ss d 0) ≡ length (owned_at ss d)
first-number ss d R = ap (λ (k : ℕ). nat_abs (get_or ss k (pos 0))) (add-zero (d * span_width)) ∙ owned-count ss d R

pub owned-few : (ss : List ℤ) (d : ℕ) → RowIn ss d → length (owned_at ss d) ≤ span_limit
owned-few ss d R = subst (λ (k : ℕ). k ≤ span_limit) (owned-count ss d R) (count-within (get_or ss (d * span_width) (pos 0)) R.counted).1

pub ruleset row_sizes = (owned-count, owned-few)

-- the numbers of so many spans, from a place of the table on
numbers-from : (s : List ℤ) (at n : ℕ) → at + n * per_span ≤ length s → numbers_of (owneds_from s at n) ≡ take (n * per_span) (drop at s)
unfolding numbers_of owneds_from
numbers-from s at zero h = refl
numbers-from s at (suc n) h =
    let e : suc n * per_span ≡ suc (suc (suc (n * per_span))) = omega arith in
    let f : suc (suc (suc at)) ≡ at + per_span = omega arith in
    let g : suc (suc at) ≡ at + 2 = omega arith in
    let i : suc at ≡ at + 1 = omega arith in
    let a = drop-cons s at (pos 0) (omega arith) in
    let b = drop-cons s (suc at) (pos 0) (omega arith) in
    let c = drop-cons s (suc (suc at)) (pos 0) (omega arith) in
    ap (λ l. get_or s at (pos 0) ∷ (get_or s (at + 1) (pos 0) ∷ (get_or s (at + 2) (pos 0) ∷ l))) (numbers-from s (at + per_span) n (omega arith))
    ∙ sym (ap (λ (k : ℕ). take k (drop at s)) e ∙ (rw (a, b, c, f, g, i) refl))

pub owned-numbers : (ss : List ℤ) (d all : ℕ) → RowIn ss d → all ≡ nat_abs (get_or ss (d * span_width) (pos 0))
    → take (d * span_width + 1 + all * per_span - (d * span_width + 1)) (drop (d * span_width + 1) ss) ≡ numbers_of (owned_at ss d)
owned-numbers ss d all R h =
    let at = d * span_width + 1 in
    let few = owned-few ss d R in
    let e = owned-count ss d R in
    let f = R.fits in
    let g : at + all * per_span - at ≡ all * per_span = omega arith in
    ap (λ (k : ℕ). take k (drop at ss)) g
    ∙ sym (numbers-from ss at all (omega arith))
    ∙ ap (λ (k : ℕ). numbers_of (owneds_from ss at k)) h
    ∙ sym (ap numbers_of (owned-from ss d R.counted))

pub used-number : (ss : List ℤ) (d : ℕ) → RowIn ss d → (i : ℕ) → i < 1 + length (owned_at ss d) * per_span → number_at ss d i ≡ row_number (owned_at ss d) i
unfolding row_number
used-number ss d R zero l =
    let z = get_or ss (d * span_width) (pos 0) in
    ap (λ (k : ℕ). get_or ss k (pos 0)) (add-zero (d * span_width)) ∙ sym (pos-nat_abs z (count-within z R.counted).0) ∙ ap pos (owned-count ss d R)
used-number ss d R (suc j) l =
    let at = d * span_width + 1 in
    let all = nat_abs (get_or ss (d * span_width) (pos 0)) in
    let e = owned-count ss d R in
    let f : at + all * per_span - at ≡ all * per_span = omega arith in
    let g : d * span_width + suc j ≡ at + j = omega arith in
    ap (λ (k : ℕ). get_or ss k (pos 0)) g
    ∙ sym (get_or-drop at ss j (pos 0))
    ∙ sym (get_or-take (all * per_span) (drop at ss) j (pos 0) (omega arith))
    ∙ (λ k. get_or (take (sym f k) (drop at ss)) j (pos 0))
    ∙ ap (λ s. get_or s j (pos 0)) (owned-numbers ss d all R refl)
