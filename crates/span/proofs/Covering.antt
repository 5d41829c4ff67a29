-- Which span of a row covers a side.
--     covering-at      in a row in order, a span that covers the side is the one that `covering` finds
--     covering-within, covering-covers     the one that it finds is in the row, and covers the side
--     none_left, one_left      a step of the search
--     left_le          no more spans are left than there were
--     told_none, told-some, told-on        what is found, by how many spans are left
use Rattle.std.proofs.Common.{◌≡◌, ℕ, zero, suc, ◌+◌, ◌-◌, ◌<◌, ◌≤◌, Bool, true, false, cond, List, [], ◌∷◌, length, get_or, drop, ℤ, sym, refl, ap, ◌∙◌, add-zero, arith, length-drop, drop-cons, drop-drop, None, Option, Some}
use lib.Signed.{lt_z}
use Rattle.paper.specs.Width.{per_span}
use Rattle.paper.specs.Map.{Span}
use Rattle.paper.specs.Span.{starts_from, ordered, covers, covering_from, covering}
use Rattle.theory.proofs.Order.{le_out}
use Rattle.theory.proofs.Row.{ordered-parts, starts-behind}
use Rattle.theory.proofs.Height.{covers-once}
use Rattle.span.specs.Row.{span_from, spans_from, left_of}

-- each span of a row that starts from a height does
starts-from : (j : ℕ) (h : ℤ) (r : List Span) (x : Span) (R : List Span) → ordered r ≡ true → starts_from h r ≡ true → drop j r ≡ x ∷ R → lt_z x.lo h ≡ false
starts-from zero h r x R o q e = let f : starts_from h (x ∷ R) ≡ true = rw e at q in le_out h x.lo f
starts-from (suc j) h [] x R o q e = let f = ap length e in let z : ⊥ = omega arith in absurd z
starts-from (suc j) h (y ∷ r) x R o q e = starts-from j h r x R (ordered-parts y r o).2 (starts-behind h y r o q) e

from_at : (i j : ℕ) (r : List Span) (x : Span) (R : List Span) (t : ℤ) (s : Bool) → ordered r ≡ true → drop j r ≡ x ∷ R → covers x t s ≡ true
    → covering_from i r t s ≡ Some (i + j)
unfolding covering_from
from_at i zero r x R t s o e c = rw (e, c, add-zero i)
from_at i (suc j) [] x R t s o e c = let f = ap length e in let z : ⊥ = omega arith in absurd z
from_at i (suc j) (y ∷ r) x R t s o e c =
    let a = ordered-parts y r o in
    let f : i + suc j ≡ suc i + j = omega arith in
    rw (covers-once y x t s (starts-from j y.hi r x R a.2 a.1 e) c, f) (from_at (suc i) j r x R t s a.2 e c)

pub covering-at : (j : ℕ) (r : List Span) (x : Span) (R : List Span) (t : ℤ) (s : Bool) → ordered r ≡ true → drop j r ≡ x ∷ R → covers x t s ≡ true
    → covering r t s ≡ Some j
covering-at j r x R t s o e c = let f : 0 + j ≡ j = omega arith in rw f at (from_at 0 j r x R t s o e c)

-- ---- back
from-within : (i : ℕ) (r : List Span) (t : ℤ) (s : Bool) (k : ℕ) → covering_from i r t s ≡ Some k → (i ≤ k) × (k < i + length r)
unfolding covering_from
from-within i [] t s k e = let z : ◌≡◌ {A = ℕ} 0 1 = cc in let f : ⊥ = omega arith in absurd f
from-within i (y ∷ r) t s k e = go (covers y t s) (from-within (suc i) r t s k) e
  where
    go : (b : Bool) → (covering_from (suc i) r t s ≡ Some k → (suc i ≤ k) × (k < suc i + length r))
        → cond b (Some i) (covering_from (suc i) r t s) ≡ Some k → (i ≤ k) × (k < i + suc (length r))
    go true f q = let z : i ≡ k = cc in (omega arith, omega arith)
    go false f q = let z = f q in (omega arith, omega arith)

from-covers : (i j : ℕ) (r : List Span) (x : Span) (R : List Span) (t : ℤ) (s : Bool) → drop j r ≡ x ∷ R → covering_from i r t s ≡ Some (i + j) → covers x t s ≡ true
unfolding covering_from
from-covers i zero r x R t s e q = go (covers x t s) (rw (e, covering_from) at q)
  where
    go : (b : Bool) → cond b (Some i) (covering_from (suc i) R t s) ≡ Some (i + 0) → b ≡ true
    go true h = refl
    go false h = let z = from-within (suc i) R t s (i + 0) h in let f : ⊥ = omega arith in absurd f
from-covers i (suc j) [] x R t s e q = let f = ap length e in let z : ⊥ = omega arith in absurd z
from-covers i (suc j) (y ∷ r) x R t s e q = go (covers y t s) (from-covers (suc i) j r x R t s e) q
  where
    go : (b : Bool) → (covering_from (suc i) r t s ≡ Some (suc i + j) → covers x t s ≡ true)
        → cond b (Some i) (covering_from (suc i) r t s) ≡ Some (i + suc j) → covers x t s ≡ true
    go true f h = let z : i ≡ i + suc j = cc in let g : ⊥ = omega arith in absurd g
    go false f h = let g : i + suc j ≡ suc i + j = omega arith in f (rw g at h)

pub covering-within : (j : ℕ) (r : List Span) (t : ℤ) (s : Bool) → covering r t s ≡ Some j → j < length r
covering-within j r t s e = let f = from-within 0 r t s j e in omega arith

pub covering-covers : (j : ℕ) (r : List Span) (x : Span) (R : List Span) (t : ℤ) (s : Bool) → drop j r ≡ x ∷ R → covering r t s ≡ Some j → covers x t s ≡ true
covering-covers j r x R t s e q = let f : j ≡ 0 + j = omega arith in from-covers 0 j r x R t s e (rw f at q)

-- ---- the search, which tells how many spans are left
left-suc : (n i : ℕ) (r : List Span) (t : ℤ) (s : Bool) → left_of (suc n) (covering_from (suc i) r t s) ≡ left_of n (covering_from i r t s)
unfolding covering_from left_of
left-suc n i [] t s = refl
left-suc n i (x ∷ r) t s = go (covers x t s) (left-suc n (suc i) r t s)
  where
    go : (b : Bool) → left_of (suc n) (covering_from (suc (suc i)) r t s) ≡ left_of n (covering_from (suc i) r t s)
        → left_of (suc n) (cond b (Some (suc i)) (covering_from (suc (suc i)) r t s)) ≡ left_of n (cond b (Some i) (covering_from (suc i) r t s))
    go true e = let f : suc n - suc i ≡ n - i = omega arith in f
    go false e = e

pub none_left : (s : List ℤ) (at n : ℕ) (t : ℤ) (up : Bool) → n ≡ 0 → 0 ≡ left_of n (covering (spans_from s at n) t up)
unfolding spans_from covering_from left_of
none_left s at n t up e = rw e

pub one_left : (s : List ℤ) (at n : ℕ) (t : ℤ) (up : Bool) → (n ≡ 0 → ⊥)
    → left_of n (covering (spans_from s at n) t up) ≡ cond (covers (span_from s at) t up) n (left_of (n - 1) (covering (spans_from s (at + per_span) (n - 1)) t up))
unfolding spans_from covering_from left_of
one_left s at zero t up h = absurd (h refl)
one_left s at (suc n) t up h = go (covers (span_from s at) t up) refl
  where
    rest : List Span
    rest = spans_from s (at + per_span) n

    less : suc n - 1 ≡ n
    less = omega arith

    go : (b : Bool) → covers (span_from s at) t up ≡ b
        → left_of (suc n) (covering (spans_from s at (suc n)) t up) ≡ cond b (suc n) (left_of (suc n - 1) (covering (spans_from s (at + per_span) (suc n - 1)) t up))
    go true e = let f : suc n - 0 ≡ suc n = omega arith in rw e f
    go false e = rw (e, less) (left-suc n 0 rest t up)

pub left_le : (n : ℕ) (c : Option ℕ) → left_of n c ≤ n
unfolding left_of
left_le n (Some j) = omega arith
left_le n None = omega arith

-- the one that covers a side is told by how many are left
pub told_none : (n : ℕ) (r : List Span) (t : ℤ) (s : Bool) → length r ≡ n → left_of n (covering r t s) ≡ 0 → covering r t s ≡ None
unfolding left_of
told_none n r t s l e = go (covering r t s) refl e
  where
    go : (c : Option ℕ) → covering r t s ≡ c → left_of n c ≡ 0 → c ≡ None
    go (Some j) q f = let w = covering-within j r t s q in absurd (let z : ⊥ = omega arith in z)
    go None q f = refl

pub told-some : (n k : ℕ) (r : List Span) (t : ℤ) (s : Bool) → length r ≡ n → k ≡ left_of n (covering r t s) → (k ≡ 0 → ⊥) → covering r t s ≡ Some (n - k)
unfolding left_of
told-some n k r t s l e h = go (covering r t s) refl e
  where
    go : (c : Option ℕ) → covering r t s ≡ c → k ≡ left_of n c → c ≡ Some (n - k)
    go (Some j) q f = let w = covering-within j r t s q in let z : n - k ≡ j = omega arith in ap Some (sym z)
    go None q f = absurd (h f)

-- where the search goes on from a span of a row in order, what it finds is what it would have found from the first on
pub told-on : (i k : ℕ) (r : List Span) (t : ℤ) (s : Bool) → ordered r ≡ true → i ≤ length r → k ≡ left_of (length r - i) (covering (drop i r) t s) → (k ≡ 0 → ⊥)
    → covering r t s ≡ Some (length r - k)
told-on i k r t s o h e g =
    let l = length-drop i r in
    let c = told-some (length r - i) k (drop i r) t s l e g in
    let j = (length r - i) - k in
    let w = covering-within j (drop i r) t s c in
    let d = drop-cons (drop i r) j none w in
    let x = get_or (drop i r) j none in
    let R = drop (suc j) (drop i r) in
    let m = left_le (length r - i) (covering (drop i r) t s) in
    let p : i + j ≡ length r - k = omega arith in
    covering-at (length r - k) r x R t s o (ap (λ (q : ℕ). drop q r) (sym p) ∙ sym (drop-drop j i r) ∙ d) (covering-covers j (drop i r) x R t s d c)
  where
    none : Span
    none = record { lo = t; hi = t }
