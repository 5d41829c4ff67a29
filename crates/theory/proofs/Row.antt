-- Rows in order: ascending, none overlapping, two may touch.
--     spans-in, spans-out      the spans of a row without their objects are those of its members
--     starts-less      a row that starts from a height starts from every lower one
--     ordered-parts, ordered-cons     taken apart and put together
--     starts-behind    a row without its first span starts from where it did
--     ordered-after    each later span starts at the head of the first or above
--     ordered-proper   each span has lo < hi
--     ordered-ext      two rows in order that have the same spans are equal
--     apart            two spans are equal, or one lies above the other
--     nothing-within   no end of the row lies strictly inside one of its spans
--     row-rises        its ends rise; one stands twice where two spans touch
use Rattle.std.proofs.Common.{◌≡◌, Bool, true, false, ◌&&◌, ◌⊎◌, List, [], ◌∷◌, ℤ, sym, refl, ap, ◌∙◌, subst, inl, inr, ⊎_elim}
use mathlib.Core.List.Memᴰ
use lib.Signed.{lt_z, le_z}
use Rattle.paper.specs.Map.{Span, Owned, spans_of}
use Rattle.paper.specs.Span.{starts_from, ordered, ends_of}
use Rattle.theory.specs.Member.{◌∈◌}
use Rattle.theory.specs.Ascending.{Above, Ascends}
use Rattle.theory.proofs.Bool.{clash, not-true, and_both, and_intro}
use Rattle.theory.proofs.Order.{Z-order, le_in, le_out, asym, lt-le, le-le, above-all, ascends-ext}
use Rattle.theory.proofs.Height.{end-span}

pub spans-in : (r : List Owned) (z : Owned) → z ∈ r → z.span ∈ spans_of r
spans-in [] z h = absurd (Memᴰ.not-nil h)
spans-in (y ∷ r) z h = ⊎_elim (λ q. Memᴰ.head (ap (λ (w : Owned). w.span) q)) (λ u. Memᴰ.tail (spans-in r z u)) (Memᴰ.cases_cons h)

pub spans-out : (r : List Owned) (s : Span) → s ∈ spans_of r → (z : Owned) × (z ∈ r) × (z.span ≡ s)
spans-out [] s h = absurd (Memᴰ.not-nil h)
spans-out (y ∷ r) s h = ⊎_elim
    (λ q. (y, Memᴰ.head refl, sym q))
    (λ u. let i = spans-out r s u in (i.0, Memᴰ.tail i.1, i.2))
    (Memᴰ.cases_cons h)

pub starts-less : (h g : ℤ) (l : List Span) → lt_z g h ≡ false → starts_from g l ≡ true → starts_from h l ≡ true
starts-less h g [] p q = refl
starts-less h g (x ∷ l) p q = le_in h x.lo (le-le lt_z Z-order h g x.lo p (le_out g x.lo q))

-- an ordered row, taken apart and put together
pub ordered-parts : (x : Span) (r : List Span) → ordered (x ∷ r) ≡ true → (lt_z x.lo x.hi ≡ true) × (starts_from x.hi r ≡ true) × (ordered r ≡ true)
unfolding ordered
ordered-parts x r e =
    let a = and_both (lt_z x.lo x.hi) (starts_from x.hi r && ordered r) e in
    let b = and_both (starts_from x.hi r) (ordered r) a.1 in
    (a.0, b.0, b.1)

pub ordered-cons : (x : Span) (r : List Span) → lt_z x.lo x.hi ≡ true → starts_from x.hi r ≡ true → ordered r ≡ true → ordered (x ∷ r) ≡ true
unfolding ordered
ordered-cons x r p q o = and_intro (lt_z x.lo x.hi) (starts_from x.hi r && ordered r) p (and_intro (starts_from x.hi r) (ordered r) q o)

pub starts-behind : (g : ℤ) (y : Span) (r : List Span) → ordered (y ∷ r) ≡ true → starts_from g (y ∷ r) ≡ true → starts_from g r ≡ true
starts-behind g y r o q =
    let t = ordered-parts y r o in
    starts-less g y.hi r (le-le lt_z Z-order g y.lo y.hi (le_out g y.lo q) (asym lt_z Z-order y.lo y.hi t.0)) t.1

pub ordered-after : (x z : Span) (l : List Span) → ordered (x ∷ l) ≡ true → z ∈ l → lt_z z.lo x.hi ≡ false
ordered-after x z [] o h = absurd (Memᴰ.not-nil h)
ordered-after x z (y ∷ l) o h =
    let a = ordered-parts x (y ∷ l) o in
    let xy = le_out x.hi y.lo a.1 in
    ⊎_elim (λ (e : z ≡ y). subst (λ (w : Span). lt_z w.lo x.hi ≡ false) (sym e) xy)
    (λ u. le-le lt_z Z-order x.hi y.lo z.lo xy
    (le-le lt_z Z-order y.lo y.hi z.lo (asym lt_z Z-order y.lo y.hi (ordered-parts y l a.2).0) (ordered-after y z l a.2 u)))
    (Memᴰ.cases_cons h)

pub ordered-proper : (l : List Span) (x : Span) → ordered l ≡ true → x ∈ l → lt_z x.lo x.hi ≡ true
ordered-proper [] x o h = absurd (Memᴰ.not-nil h)
ordered-proper (y ∷ l) x o h =
    let a = ordered-parts y l o in
    ⊎_elim (λ (e : x ≡ y). subst (λ (w : Span). lt_z w.lo w.hi ≡ true) (sym e) a.0) (λ u. ordered-proper l x a.2 u) (Memᴰ.cases_cons h)

-- x is no empty span and lies below y, or touches it
abbrev before : Span → Span → Bool
before x y = lt_z x.lo x.hi && le_z x.hi y.lo

before-one-way : (x y : Span) → before x y ≡ true → before y x ≡ false
before-one-way x y p = not-true (before y x) (λ q. clash (lower x y p) (asym lt_z Z-order y.lo x.lo (lower y x q)))
  where
    lower : (x y : Span) → before x y ≡ true → lt_z x.lo y.lo ≡ true
    lower x y p =
        let a = and_both (lt_z x.lo x.hi) (le_z x.hi y.lo) p in
        lt-le lt_z Z-order x.lo x.hi y.lo a.0 (le_out x.hi y.lo a.1)

ordered-ascends : (l : List Span) → ordered l ≡ true → Ascends before l
ordered-ascends [] o = tt
ordered-ascends (x ∷ l) o =
    let a = ordered-parts x l o in (
      above-all before x l
          (λ z h. and_intro (lt_z x.lo x.hi) (le_z x.hi z.lo) a.0 (le_in x.hi z.lo (ordered-after x z l o h))),
      ordered-ascends l a.2,
    )

pub ordered-ext : (l l' : List Span) → ordered l ≡ true → ordered l' ≡ true → ((b : Span) → b ∈ l → b ∈ l') → ((b : Span) → b ∈ l' → b ∈ l) → l ≡ l'
ordered-ext l l' o o' f g = ascends-ext before before-one-way l l' (ordered-ascends l o) (ordered-ascends l' o') f g

pub apart : (l : List Span) (x z : Span) → ordered l ≡ true → x ∈ l → z ∈ l → (x ≡ z) ⊎ ((lt_z z.lo x.hi ≡ false) ⊎ (lt_z x.lo z.hi ≡ false))
apart [] x z o h k = absurd (Memᴰ.not-nil h)
apart (y ∷ l) x z o h k = go (Memᴰ.cases_cons h) (Memᴰ.cases_cons k) (apart l x z (ordered-parts y l o).2)
  where
    go : (x ≡ y) ⊎ (x ∈ l) → (z ≡ y) ⊎ (z ∈ l) → (x ∈ l → z ∈ l → (x ≡ z) ⊎ ((lt_z z.lo x.hi ≡ false) ⊎ (lt_z x.lo z.hi ≡ false)))
        → (x ≡ z) ⊎ ((lt_z z.lo x.hi ≡ false) ⊎ (lt_z x.lo z.hi ≡ false))
    go (inl p) (inl q) f = inl (p ∙ sym q)
    go (inl p) (inr q) f = inr (inl (subst (λ (w : Span). lt_z z.lo w.hi ≡ false) (sym p) (ordered-after y z l o q)))
    go (inr p) (inl q) f = inr (inr (subst (λ (w : Span). lt_z x.lo w.hi ≡ false) (sym q) (ordered-after y x l o p)))
    go (inr p) (inr q) f = f p q

pub nothing-within : (l : List Span) (x : Span) (b : ℤ) → ordered l ≡ true → x ∈ l → b ∈ ends_of l → (lt_z x.lo b ≡ false) ⊎ (lt_z b x.hi ≡ false)
nothing-within l x b o h w = let e = end-span l b w in go e.0 (ordered-proper l e.0 o e.1) e.2 (apart l x e.0 o h e.1)
  where
    go : (z : Span) → lt_z z.lo z.hi ≡ true → (b ≡ z.lo) ⊎ (b ≡ z.hi) → (x ≡ z) ⊎ ((lt_z z.lo x.hi ≡ false) ⊎ (lt_z x.lo z.hi ≡ false))
        → (lt_z x.lo b ≡ false) ⊎ (lt_z b x.hi ≡ false)
    go z p (inl e) (inl q) = inl (rw (e, q) (Z-order.irrefl z.lo))
    go z p (inr e) (inl q) = inr (rw (e, q) (Z-order.irrefl z.hi))
    go z p (inl e) (inr (inl q)) = inr (rw e q)
    go z p (inr e) (inr (inl q)) = inr (rw e (le-le lt_z Z-order x.hi z.lo z.hi q (asym lt_z Z-order z.lo z.hi p)))
    go z p (inl e) (inr (inr q)) = inl (rw e (le-le lt_z Z-order z.lo z.hi x.lo (asym lt_z Z-order z.lo z.hi p) q))
    go z p (inr e) (inr (inr q)) = inl (rw e q)

-- ---- ends
ends-after : (h : ℤ) (r : List Span) → ordered r ≡ true → starts_from h r ≡ true → Above le_z h (ends_of r)
unfolding ends_of
ends-after h [] o q = tt
ends-after h (y ∷ r) o q =
    let a = ordered-parts y r o in
    let u = le-le lt_z Z-order h y.lo y.hi (le_out h y.lo q) (asym lt_z Z-order y.lo y.hi a.0) in
    (q, (le_in h y.hi u, ends-after h r a.2 (starts-less h y.hi r u a.1)))

pub row-rises : (r : List Span) → ordered r ≡ true → Ascends le_z (ends_of r)
unfolding ends_of
row-rises [] o = tt
row-rises (x ∷ r) o =
    let a = ordered-parts x r o in
    let u = asym lt_z Z-order x.lo x.hi a.0 in
    ((le_in x.lo x.hi u, ends-after x.lo r a.2 (starts-less x.lo x.hi r u a.1)), (ends-after x.hi r a.2 a.1, row-rises r a.2))
