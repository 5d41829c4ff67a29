-- The stretches between neighbours in an ascending list, and those that a row covers.
--     stretch          the stretch from one height to another
--     stretches-order, stretches-length, stretch-ends      the stretches of a list
--     held             a span of the row covers the whole of a stretch
--     kept-order       those that a row covers ascend too
--     kept_in, kept_out, kept-short       which they are
--     stretch-splits, stretch-facing, stretch-held         the stretches of a list that has the ends of a row
--     spans-covers     a span covers each side in a stretch that it covers
--     stretch-at       a side that a span covers lies in a stretch that the span covers
use Rattle.std.proofs.Common.{◌≡◌, suc, ◌≤◌, Bool, true, false, not, ◌&&◌, ◌⊎◌, List, [], ◌∷◌, ◌++◌, length, ℤ, sym, refl, ap, ◌∙◌, subst, inl, inr, ⊎_elim, zero-le, arith}
use mathlib.Core.Bool.{not-not}
use mathlib.Core.List.Memᴰ
use lib.Signed.{lt_z, le_z}
use Rattle.paper.specs.Below.{any_of, only}
use Rattle.paper.specs.Map.{Span}
use Rattle.paper.specs.Span.{starts_from, ordered, covers, covered, ends_of}
use Rattle.paper.specs.Ends.{stretches_from, stretches, spans, covered_by}
use Rattle.theory.specs.Member.{◌∈◌}
use Rattle.theory.specs.Ascending.{Ascends}
use Rattle.theory.proofs.Bool.{clash, not-true, decided, and_both, and_intro, off}
use Rattle.theory.proofs.Member.{any-of-same, only-in, only_out}
use Rattle.theory.proofs.Order.{Z-order, le_not, le_in, le_out, le_same, asym, le-le, above-mem, least}
use Rattle.theory.proofs.Height.{covered-any, span-ends, passed, covers-passed, passed-less, splits}
use Rattle.theory.proofs.Row.{starts-less, ordered-parts, ordered-cons}

abbrev pub stretch : ℤ → ℤ → Span
stretch b c = record { lo = b; hi = c }

from-order : (b : ℤ) (l : List ℤ) → Ascends lt_z (b ∷ l) → ordered (stretches_from b l) ≡ true
unfolding stretches_from
from-order b [] s = unfold ordered in refl
from-order b (c ∷ l) s = ordered-cons (stretch b c) (stretches_from c l) s.0.0 (starts l) (from-order c l s.1)
  where
    starts : (l : List ℤ) → starts_from c (stretches_from c l) ≡ true
    starts [] = refl
    starts (e ∷ l) = le_same c

pub stretches-order : (l : List ℤ) → Ascends lt_z l → ordered (stretches l) ≡ true
stretches-order [] s = unfold ordered in refl
stretches-order (b ∷ l) s = from-order b l s

pub stretches-length : (b : ℤ) (l : List ℤ) → length (stretches (b ∷ l)) ≡ length l
unfolding stretches_from
stretches-length b [] = refl
stretches-length b (c ∷ l) = ap suc (stretches-length c l)

from-ends : (b : ℤ) (l : List ℤ) (p : Span) → p ∈ stretches_from b l → (p.lo ∈ b ∷ l) × (p.hi ∈ b ∷ l)
unfolding stretches_from
from-ends b [] p h = absurd (Memᴰ.not-nil h)
from-ends b (c ∷ l) p h = ⊎_elim
    (λ (e : p ≡ stretch b c). (Memᴰ.head (ap (λ z. z.lo) e), Memᴰ.tail (Memᴰ.head (ap (λ z. z.hi) e))))
    (λ u. let i = from-ends c l p u in (Memᴰ.tail i.0, Memᴰ.tail i.1))
    (Memᴰ.cases_cons h)

pub stretch-ends : (l : List ℤ) (p : Span) → p ∈ stretches l → (p.lo ∈ l) × (p.hi ∈ l)
stretch-ends [] p h = absurd (Memᴰ.not-nil h)
stretch-ends (b ∷ l) p h = from-ends b l p h

-- ---- those that a row covers
module _ (r : List Span) where
  abbrev pub held : Span → Bool
  held p = any_of (λ x. spans x p) r

  kept-starts : (h : ℤ) (l : List Span) → ordered l ≡ true → starts_from h l ≡ true → starts_from h (covered_by r l) ≡ true
  unfolding covered_by
  kept-starts h [] o q = refl
  kept-starts h (p ∷ l) o q = go (held p) (kept-starts h l)
    where
      parts : (lt_z p.lo p.hi ≡ true) × (starts_from p.hi l ≡ true) × (ordered l ≡ true)
      parts = ordered-parts p l o

      go : (b : Bool) → (ordered l ≡ true → starts_from h l ≡ true → starts_from h (covered_by r l) ≡ true) → starts_from h (only b p ++ covered_by r l) ≡ true
      go true f = unfold only in q
      go false f = unfold only in
          f parts.2 (starts-less h p.hi l (le-le lt_z Z-order h p.lo p.hi (le_out h p.lo q) (asym lt_z Z-order p.lo p.hi parts.0)) parts.1)

  pub kept-order : (l : List Span) → ordered l ≡ true → ordered (covered_by r l) ≡ true
  unfolding covered_by
  kept-order [] o = o
  kept-order (p ∷ l) o = go (held p) (kept-order l)
    where
      parts : (lt_z p.lo p.hi ≡ true) × (starts_from p.hi l ≡ true) × (ordered l ≡ true)
      parts = ordered-parts p l o

      go : (b : Bool) → (ordered l ≡ true → ordered (covered_by r l) ≡ true) → ordered (only b p ++ covered_by r l) ≡ true
      go true f = unfold only in ordered-cons p (covered_by r l) parts.0 (kept-starts p.hi l parts.2 parts.1) (f parts.2)
      go false f = unfold only in f parts.2

  -- ---- which stretches are kept
  pub kept_in : (l : List Span) (p : Span) → p ∈ l → held p ≡ true → p ∈ covered_by r l
  unfolding covered_by
  kept_in [] p h c = h
  kept_in (q ∷ l) p h c = ⊎_elim (λ (e : p ≡ q). Memᴰ.append_left (covered_by r l) (subst (λ (z : Span). p ∈ only (held z) z) e (only-in (held p) p c)))
      (λ u. Memᴰ.append_right (only (held q) q) (kept_in l p u c))
      (Memᴰ.cases_cons h)

  pub kept_out : (l : List Span) (p : Span) → p ∈ covered_by r l → (p ∈ l) × (held p ≡ true)
  unfolding covered_by
  kept_out [] p h = absurd (Memᴰ.not-nil h)
  kept_out (q ∷ l) p h = ⊎_elim
      (λ u. let o = only_out (held q) q p u in (Memᴰ.head o.0, ap held o.0 ∙ o.1))
      (λ u. let i = kept_out l p u in (Memᴰ.tail i.0, i.1))
      (Memᴰ.append_cases (only (held q) q) h)

  pub kept-short : (l : List Span) → length (covered_by r l) ≤ length l
  unfolding covered_by
  kept-short [] = zero-le
  kept-short (p ∷ l) = go (held p) (kept-short l)
    where
      go : (b : Bool) → length (covered_by r l) ≤ length l → length (only b p ++ covered_by r l) ≤ suc (length l)
      go true h = unfold only in omega arith
      go false h = unfold only in omega arith

-- ---- neighbours
from-splits : (b : ℤ) (l : List ℤ) (p : Span) (e : ℤ) → Ascends lt_z (b ∷ l) → p ∈ stretches_from b l → e ∈ b ∷ l → lt_z e p.hi ≡ not (lt_z p.lo e)
unfolding stretches_from
from-splits b [] p e o h k = absurd (Memᴰ.not-nil h)
from-splits b (c ∷ l) p e o h k = ⊎_elim first (λ u. ⊎_elim (foot u) (λ v. from-splits c l p e o.1 u v) (Memᴰ.cases_cons k)) (Memᴰ.cases_cons h)
  where
    first : p ≡ stretch b c → lt_z e p.hi ≡ not (lt_z p.lo e)
    first q = subst (λ (z : Span). lt_z e z.hi ≡ not (lt_z z.lo e)) (sym q) (⊎_elim
        (λ (u : e ≡ b). subst (λ (z : ℤ). lt_z z c ≡ not (lt_z b z)) (sym u) (o.0.0 ∙ sym (ap not (Z-order.irrefl b))))
        (λ u. least lt_z Z-order c e l o.1 u ∙ sym (ap not (above-mem lt_z b e (c ∷ l) o.0 u)))
        (Memᴰ.cases_cons k))

    foot : p ∈ stretches_from c l → e ≡ b → lt_z e p.hi ≡ not (lt_z p.lo e)
    foot u q =
        let i = from-ends c l p u in
        subst (λ (z : ℤ). lt_z z p.hi ≡ not (lt_z p.lo z)) (sym q)
        (above-mem lt_z b p.hi (c ∷ l) o.0 i.1 ∙ sym (ap not (asym lt_z Z-order b p.lo (above-mem lt_z b p.lo (c ∷ l) o.0 i.0))))

-- a member of the list is below the head of a stretch, or else above its foot
pub stretch-splits : (l : List ℤ) (p : Span) (e : ℤ) → Ascends lt_z l → p ∈ stretches l → e ∈ l → lt_z e p.hi ≡ not (lt_z p.lo e)
stretch-splits [] p e o h k = absurd (Memᴰ.not-nil h)
stretch-splits (b ∷ l) p e o h k = from-splits b l p e o h k

-- the list has the ends of a row
module _ (r : List Span) (l : List ℤ) (o : Ascends lt_z l) (has : (b : ℤ) → b ∈ ends_of r → b ∈ l) where
  -- a stretch is covered at its foot as it is at its head
  pub stretch-facing : (p : Span) → p ∈ stretches l → covered r p.lo true ≡ covered r p.hi false
  stretch-facing p h = splits r p.lo p.hi true (λ e k. stretch-splits l p e o h (has e k))

  -- and it is so where a span covers the whole of it
  pub stretch-held : (p : Span) → p ∈ stretches l → held r p ≡ covered r p.lo true
  stretch-held p h = any-of-same (λ x. spans x p) (λ x. covers x p.lo true) r alike ∙ sym (covered-any r p.lo true)
    where
      alike : (x : Span) → x ∈ r → spans x p ≡ covers x p.lo true
      alike x k = ap (λ b. le_z x.lo p.lo && b)
          (le_not p.hi x.hi ∙ ap not (stretch-splits l p x.hi o h (has x.hi (span-ends r x k).1)) ∙ not-not (lt_z p.lo x.hi))

-- ---- where a covered side lies
pub spans-covers : (x p : Span) (t : ℤ) (s : Bool) → spans x p ≡ true → covers p t s ≡ true → covers x t s ≡ true
spans-covers x p t s e c =
    let a = and_both (le_z x.lo p.lo) (le_z p.hi x.hi) e in
    let b = and_both (passed p.lo t s) (not (passed p.hi t s)) (sym (covers-passed p t s) ∙ c) in
    let lo = passed-less x.lo p.lo t s (le_out x.lo p.lo a.0) b.0 in
    let hi = not-true (passed x.hi t s) (λ u. clash (passed-less p.hi x.hi t s (le_out p.hi x.hi a.1) u) (off (passed p.hi t s) b.1)) in
    covers-passed x t s ∙ and_intro (passed x.lo t s) (not (passed x.hi t s)) lo (ap not hi)

module _ (x : Span) (t : ℤ) (s : Bool) (c : covers x t s ≡ true) where
  above-lo : passed x.lo t s ≡ true
  above-lo = (and_both (passed x.lo t s) (not (passed x.hi t s)) (sym (covers-passed x t s) ∙ c)).0

  below-hi : passed x.hi t s ≡ false
  below-hi = off (passed x.hi t s) (and_both (passed x.lo t s) (not (passed x.hi t s)) (sym (covers-passed x t s) ∙ c)).1

  -- hi is no height that the side lies above
  high : (b : ℤ) (l : List ℤ) → passed b t s ≡ true → x.hi ∈ b ∷ l → x.hi ∈ l
  high b l f v = ⊎_elim (λ (e : x.hi ≡ b). absurd (clash f (subst (λ (z : ℤ). passed z t s ≡ false) e below-hi))) (λ w. w) (Memᴰ.cases_cons v)

  -- lo in b ∷ l is at b or below, or in l
  low : (b : ℤ) (l : List ℤ) → x.lo ∈ b ∷ l → (lt_z b x.lo ≡ false) ⊎ (x.lo ∈ l)
  low b l k = ⊎_elim (λ (e : x.lo ≡ b). inl (subst (λ (z : ℤ). lt_z b z ≡ false) (sym e) (Z-order.irrefl b))) (λ w. inr w) (Memᴰ.cases_cons k)

  At : List Span → Type 0
  At l = (p : Span) × (p ∈ l) × (covers p t s ≡ true) × (spans x p ≡ true)

  -- among the stretches from b on, where the side lies above b: in the first one, or above it
  at_from : (b : ℤ) (l : List ℤ) → Ascends lt_z (b ∷ l) → (lt_z b x.lo ≡ false) ⊎ (x.lo ∈ l) → x.hi ∈ b ∷ l → passed b t s ≡ true → At (stretches_from b l)
  unfolding stretches_from At
  at_from b [] o u v f = absurd (Memᴰ.not-nil (high b [] f v))
  at_from b (g ∷ l) o u v f = ⊎_elim
      (λ q. let i = at_from g l o.1 (⊎_elim (λ k. inl (le-le lt_z Z-order x.lo b g k (asym lt_z Z-order b g o.0.0))) (low g l) u) (high b (g ∷ l) f v) q in
      (i.0, Memᴰ.tail i.1, i.2, i.3))
      (λ q. (
        stretch b g,
        Memᴰ.head refl,
        covers-passed (stretch b g) t s ∙ and_intro (passed b t s) (not (passed g t s)) f (ap not q),
        and_intro (le_z x.lo b) (le_z g x.hi) (le_in x.lo b (⊎_elim (λ k. k) (λ k. absurd (clash (foot k) q)) u))
            (le_in g x.hi (least lt_z Z-order g x.hi l o.1 (high b (g ∷ l) f v))),
      ))
      (decided (passed g t s))
    where
      -- if lo were at g or above, the side would be above g
      foot : x.lo ∈ g ∷ l → passed g t s ≡ true
      foot k = passed-less g x.lo t s (least lt_z Z-order g x.lo l o.1 k) above-lo

  pub stretch-at : (l : List ℤ) → Ascends lt_z l → x.lo ∈ l → x.hi ∈ l → (p : Span) × (p ∈ stretches l) × (covers p t s ≡ true) × (spans x p ≡ true)
  unfolding At
  stretch-at [] o h k = absurd (Memᴰ.not-nil h)
  stretch-at (b ∷ l) o h k = at_from b l o (low b l h) k (passed-less b x.lo t s (least lt_z Z-order b x.lo l o h) above-lo)
