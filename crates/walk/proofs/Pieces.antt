-- The pieces of a row, stretch by stretch and span by span.
--     no-stretch, no_row       without a stretch or without a span there is no piece
--     past-span        a span that ends below the first head covers nothing
--     past-gap         a stretch that starts below the next span is no piece
--     past-piece       a stretch that the next span covers is one
use Rattle.std.proofs.Common.{◌≡◌, ◌≤◌, true, false, ◌||◌, List, [], ◌∷◌, ◌++◌, length, ℤ, refl, ap, ◌∙◌, ⊎_elim, arith}
use mathlib.Core.List.Memᴰ
use lib.Signed.{lt_z, le_z}
use Rattle.paper.specs.Below.{any_of, only}
use Rattle.paper.specs.Map.{Span}
use Rattle.paper.specs.Span.{starts_from, ordered}
use Rattle.paper.specs.Ends.{stretches_from, stretches, spans, covered_by}
use Rattle.theory.specs.Member.{◌∈◌}
use Rattle.theory.specs.Ascending.{Ascends}
use Rattle.theory.proofs.Bool.{clash, not-true, and_both, and_intro, or_left}
use Rattle.theory.proofs.Order.{Z-order, le_in, le_out, le_same, le-lt, lt-le, least}
use Rattle.theory.proofs.Row.{ordered-parts, ordered-proper}
use Rattle.theory.proofs.Stretch.{stretch, held, stretches-order, stretch-ends}

pub no-stretch : (R : List Span) (A : List ℤ) → length A ≤ 1 → covered_by R (stretches A) ≡ []
unfolding stretches_from covered_by
no-stretch R [] h = refl
no-stretch R (f ∷ []) h = refl
no-stretch R (f ∷ (g ∷ A)) h = let z : ⊥ = omega arith in absurd z

pub no_row : (l : List Span) → covered_by [] l ≡ []
unfolding covered_by any_of only
no_row [] = refl
no_row (p ∷ l) = no_row l

-- rows that cover the same stretches have the same pieces
kept_same : (r r' : List Span) (l : List Span) → ((p : Span) → p ∈ l → held r p ≡ held r' p) → covered_by r l ≡ covered_by r' l
unfolding covered_by
kept_same r r' [] f = refl
kept_same r r' (p ∷ l) f = λ i. only (f p (Memᴰ.head refl) i) p ++ kept_same r r' l (λ q h. f q (Memᴰ.tail h)) i

-- a span that covers no stretch may be left out
held-less : (x : Span) (r : List Span) (p : Span) → (spans x p ≡ true → ⊥) → held (x ∷ r) p ≡ held r p
unfolding any_of
held-less x r p f = ap (λ b. b || held r p) (not-true (spans x p) f)

pub past-span : (x : Span) (R : List Span) (f g : ℤ) (A : List ℤ) → Ascends lt_z (g ∷ A) → lt_z x.hi g ≡ true
    → covered_by (x ∷ R) (stretches (f ∷ (g ∷ A))) ≡ covered_by R (stretches (f ∷ (g ∷ A)))
unfolding stretches_from
past-span x R f g A o h =
    kept_same (x ∷ R) R (stretches (f ∷ (g ∷ A)))
    (λ p k. held-less x R p (λ e. clash (above p k) (le_out p.hi x.hi (and_both (le_z x.lo p.lo) (le_z p.hi x.hi) e).1)))
  where
    later : (p : Span) → p ∈ stretches (g ∷ A) → lt_z g p.hi ≡ true
    later p k = le-lt lt_z Z-order g p.lo p.hi (least lt_z Z-order g p.lo A o (stretch-ends (g ∷ A) p k).0)
        (ordered-proper (stretches (g ∷ A)) p (stretches-order (g ∷ A) o) k)

    above : (p : Span) → p ∈ stretches (f ∷ (g ∷ A)) → lt_z x.hi p.hi ≡ true
    above p k = ⊎_elim (λ (e : p ≡ stretch f g). rw e h) (λ u. Z-order.trans x.hi g p.hi h (later p u)) (Memᴰ.cases_cons k)

-- spans that start above the foot do not cover the stretch
gap : (h f g : ℤ) (r : List Span) → ordered r ≡ true → starts_from h r ≡ true → lt_z f h ≡ true → held r (stretch f g) ≡ false
gap h f g [] o q l = unfold any_of in refl
gap h f g (y ∷ r) o q l =
    let a = ordered-parts y r o in
    let u = lt-le lt_z Z-order f h y.lo l (le_out h y.lo q) in
    held-less y r (stretch f g) (λ e. clash u (le_out y.lo f (and_both (le_z y.lo f) (le_z g y.hi) e).0))
    ∙ gap y.hi f g r a.2 a.1 (Z-order.trans f y.lo y.hi u a.0)

pub past-gap : (x : Span) (R : List Span) (f g : ℤ) (A : List ℤ) → ordered (x ∷ R) ≡ true → lt_z f x.lo ≡ true
    → covered_by (x ∷ R) (stretches (f ∷ (g ∷ A))) ≡ covered_by (x ∷ R) (stretches (g ∷ A))
unfolding stretches_from covered_by only
past-gap x R f g A o l = ap (λ b. only b (stretch f g) ++ covered_by (x ∷ R) (stretches (g ∷ A))) (gap x.lo f g (x ∷ R) o (le_same x.lo) l)

pub past-piece : (x : Span) (R : List Span) (f g : ℤ) (A : List ℤ) → lt_z f x.lo ≡ false → lt_z x.hi g ≡ false
    → covered_by (x ∷ R) (stretches (f ∷ (g ∷ A))) ≡ stretch f g ∷ covered_by (x ∷ R) (stretches (g ∷ A))
unfolding stretches_from covered_by only any_of
past-piece x R f g A h k =
    ap (λ b. only b (stretch f g) ++ covered_by (x ∷ R) (stretches (g ∷ A)))
    (or_left (spans x (stretch f g)) (held R (stretch f g)) (and_intro (le_z x.lo f) (le_z g x.hi) (le_in x.lo f h) (le_in g x.hi k)))
