-- A new span in a row in order, as a splice: those that it overlaps stand one behind the other, behind those that end at its lo or below.
--     both-within          the spans before it, and those that it meets, are spans of the row
--     insertion-within     so the splice drops spans of the row
--     as_one                the new span and b spans of the row from span a on, as one, of its object
--     with_span-spliced     the row with the new span in it is that splice
--     clashes-met            one of another object is overlapped where one of those that are dropped is of another object
--     with_span-full        it is longer than a row may be where the row was full already, without those that are dropped
use Rattle.std.proofs.Common.{◌≡◌, ℕ, zero, suc, ◌+◌, ◌-◌, ◌≤◌, Bool, true, false, cond, not, ◌&&◌, ◌||◌, leb, List, [], ◌∷◌, ◌++◌, length, get_or, take, drop, ℤ, sym, refl, ap, ◌∙◌, ⊎_elim, suc-le-suc, zero-le, zero-add, arith, length-drop, ne_eqb, le-leb, leb-false, leb-true}
use lib.Signed.{lt_z}
use borrow.Author.Tests.{lt-leb}
use Rattle.paper.specs.Width.{span_limit}
use Rattle.paper.specs.Below.{any_of}
use Rattle.paper.specs.Map.{Span, Owned, no_span, spans_of, eq_z}
use Rattle.paper.specs.Span.{starts_from, ordered, row_fits, overlaps}
use Rattle.paper.specs.Join.{clashes, lower, higher, hull, joined, unmet, in_place, with_span}
use Rattle.theory.proofs.Bool.{clash, decided}
use Rattle.theory.proofs.Order.{Z-order, le_not, le_in, le_out, asym, le-lt, lt-le}
use Rattle.theory.proofs.Row.{starts-less, ordered-parts, starts-behind}
use Rattle.theory.proofs.Join.{below_apart, above_apart, joined-low, joined-high, joined-lo, past-none, alone, place-front, with_span-later}
use Rattle.theory.proofs.Table.{spans-length}
use Rattle.respan.specs.Splice.{spliced, before, met, low_end, high_end, insertion}
use Rattle.respan.specs.Cell.{is_other}
use Rattle.respan.proofs.Spliced.{spliced-length}

-- ---- how many
before-within : (z : ℤ) (r : List Span) → before z r ≤ length r
unfolding before
before-within z [] = zero-le
before-within z (y ∷ r) = go (lt_z z y.hi) (before-within z r)
  where
    go : (b : Bool) → before z r ≤ length r → (elim b as (λ (t : Bool). ℕ) [ true ↦ 0 | false ↦ suc (before z r) ]) ≤ suc (length r)
    go true h = zero-le
    go false h = suc-le-suc h

met-within : (z : ℤ) (r : List Span) → met z r ≤ length r
unfolding met
met-within z [] = zero-le
met-within z (y ∷ r) = go (lt_z y.lo z) (met-within z r)
  where
    go : (b : Bool) → met z r ≤ length r → (elim b as (λ (t : Bool). ℕ) [ true ↦ suc (met z r) | false ↦ 0 ]) ≤ suc (length r)
    go true h = suc-le-suc h
    go false h = zero-le

pub both-within : (lo hi : ℤ) (r : List Owned) (a b : ℕ) → a ≡ before lo (spans_of r) → b ≡ met hi (drop a (spans_of r)) → a + b ≤ length r
both-within lo hi r a b e f =
    let g = before-within lo (spans_of r) in
    let h = met-within hi (drop a (spans_of r)) in
    let k = length-drop a (spans_of r) in
    let l = spans-length r in
    omega arith

pub insertion-within : (x : Owned) (r : List Owned) → (insertion x r).kept + (insertion x r).dropped ≤ length r
insertion-within x r = both-within x.span.lo x.span.hi r (insertion x r).kept (insertion x r).dropped refl refl

-- ---- the lower and the higher of two heights
higher-is : (a b : ℤ) → lt_z a b ≡ true → higher a b ≡ b
higher-is a b e = ap (λ t. cond t b a) e

-- where some spans are met
low_end-some : (z : ℤ) (a b : ℕ) (r : List Owned) → low_end z a (suc b) r ≡ lower (get_or r a no_span).span.lo z
low_end-some z a b r = ap (λ t. cond t z (lower (get_or r a no_span).span.lo z)) (ne_eqb (suc b) 0 (λ (e : suc b ≡ 0). omega arith))

high_end-some : (z : ℤ) (a b i : ℕ) (r : List Owned) → a + b ≡ i → high_end z a (suc b) r ≡ higher (get_or r i no_span).span.hi z
high_end-some z a b i r e =
    let f : a + suc b - 1 ≡ i = omega arith in
    ap (λ t. cond t z (higher (get_or r (a + suc b - 1) no_span).span.hi z)) (ne_eqb (suc b) 0 (λ (g : suc b ≡ 0). omega arith))
    ∙ ap (λ (k : ℕ). higher (get_or r k no_span).span.hi z) f

-- ---- where the spans of a row start and end
-- the next span, if there is one, ends above z
abbrev ends_above : ℤ → List Span → Bool
ends_above z [] = true
ends_above z (y ∷ r) = lt_z z y.hi

ends-behind : (z : ℤ) (y : Span) (r : List Span) → ordered (y ∷ r) ≡ true → lt_z z y.hi ≡ true → ends_above z r ≡ true
ends-behind z y [] o e = refl
ends-behind z y (w ∷ r) o e =
    let t = ordered-parts y (w ∷ r) o in
    Z-order.trans z w.lo w.hi (lt-le lt_z Z-order z y.hi w.lo e (le_out y.hi w.lo t.1)) (ordered-parts w r t.2).0

-- a row starts from g and not from h, so that h is the higher
starts-between : (g h : ℤ) (r : List Span) → starts_from g r ≡ true → starts_from h r ≡ false → lt_z g h ≡ true
starts-between g h r p q = ⊎_elim (λ e. e) (λ e. absurd (clash (starts-less h g r e p) q)) (decided (lt_z g h))

met_some : (z : ℤ) (r : List Span) (k : ℕ) → met z r ≡ suc k → starts_from z r ≡ false
unfolding met
met_some z [] k e = absurd (let n : ⊥ = omega arith in n)
met_some z (y ∷ r) k e = go (lt_z y.lo z) refl e
  where
    go : (b : Bool) → lt_z y.lo z ≡ b → (elim b as (λ (t : Bool). ℕ) [ true ↦ suc (met z r) | false ↦ 0 ]) ≡ suc k → starts_from z (y ∷ r) ≡ false
    go true t e = le_not z y.lo ∙ ap not t
    go false t e = absurd (let n : ⊥ = omega arith in n)

-- what is left behind those that start below z
starts-left : (z : ℤ) (r : List Owned) → starts_from z (spans_of (drop (met z (spans_of r)) r)) ≡ true
unfolding met
starts-left z [] = refl
starts-left z (y ∷ r) = go (lt_z y.span.lo z) refl (starts-left z r)
  where
    go : (b : Bool) → lt_z y.span.lo z ≡ b → starts_from z (spans_of (drop (met z (spans_of r)) r)) ≡ true
        → starts_from z (spans_of (drop (elim b as (λ (t : Bool). ℕ) [ true ↦ suc (met z (spans_of r)) | false ↦ 0 ]) (y ∷ r))) ≡ true
    go true t h = h
    go false t h = le_in z y.span.lo t

-- ---- the new span and those that it overlaps, as one
module _ (x : Span) where
  -- y ends above its lo
  overlaps-by : (y : Span) → lt_z x.lo y.hi ≡ true → overlaps x y ≡ lt_z y.lo x.hi
  overlaps-by y e = ap (λ b. b && lt_z y.lo x.hi) e

  -- where all end above its lo, those that it overlaps are the first
  unmet-drop : (r : List Owned) → ordered (spans_of r) ≡ true → ends_above x.lo (spans_of r) ≡ true → unmet x r ≡ drop (met x.hi (spans_of r)) r
  unfolding unmet met
  unmet-drop [] o e = refl
  unmet-drop (y ∷ r) o e =
      go (lt_z y.span.lo x.hi) refl (unmet-drop r (ordered-parts y.span (spans_of r) o).2 (ends-behind x.lo y.span (spans_of r) o e))
    where
      go : (b : Bool) → lt_z y.span.lo x.hi ≡ b → unmet x r ≡ drop (met x.hi (spans_of r)) r
          → unmet x (y ∷ r) ≡ drop (elim b as (λ (t : Bool). ℕ) [ true ↦ suc (met x.hi (spans_of r)) | false ↦ 0 ]) (y ∷ r)
      go true t h = ap (λ c. cond c (unmet x r) (y ∷ unmet x r)) (overlaps-by y.span e ∙ t) ∙ h
      go false t h = (alone x (y ∷ r) (past-none x (spans_of (y ∷ r)) o (le_in x.hi y.span.lo t))).1

  -- the first of them has the lowest end
  joined-lowest : (r : List Owned) → ordered (spans_of r) ≡ true → ends_above x.lo (spans_of r) ≡ true → (joined x (spans_of r)).lo ≡ low_end x.lo 0 (met x.hi (spans_of r)) r
  unfolding joined met
  joined-lowest [] o e = refl
  joined-lowest (y ∷ r) o e = go (lt_z y.span.lo x.hi) refl
    where
      rest : (joined x (spans_of r)).lo ≡ x.lo
      rest =
          let t = ordered-parts y.span (spans_of r) o in
          joined-lo x (spans_of r) t.2 (starts-less x.lo y.span.hi (spans_of r) (asym lt_z Z-order x.lo y.span.hi e) t.1)

      go : (b : Bool) → lt_z y.span.lo x.hi ≡ b
          → (joined x (spans_of (y ∷ r))).lo ≡ low_end x.lo 0 (elim b as (λ (t : Bool). ℕ) [ true ↦ suc (met x.hi (spans_of r)) | false ↦ 0 ]) (y ∷ r)
      go true t = ap (λ c. (cond c (hull y.span (joined x (spans_of r))) (joined x (spans_of r))).lo) (overlaps-by y.span e ∙ t)
          ∙ ap (lower y.span.lo) rest
          ∙ sym (low_end-some x.lo 0 (met x.hi (spans_of r)) (y ∷ r))
      go false t = ap (λ (h : Span). h.lo) (alone x (y ∷ r) (past-none x (spans_of (y ∷ r)) o (le_in x.hi y.span.lo t))).0

  -- and the last one the highest: each of the others ends below its hi
  joined-highest : (r : List Owned) → ordered (spans_of r) ≡ true → ends_above x.lo (spans_of r) ≡ true → (joined x (spans_of r)).hi ≡ high_end x.hi 0 (met x.hi (spans_of r)) r
  unfolding joined met
  joined-highest [] o e = refl
  joined-highest (y ∷ r) o e =
      go (lt_z y.span.lo x.hi) refl (joined-highest r t.2 (ends-behind x.lo y.span (spans_of r) o e))
    where
      t : (lt_z y.span.lo y.span.hi ≡ true) × (starts_from y.span.hi (spans_of r) ≡ true) × (ordered (spans_of r) ≡ true)
      t = ordered-parts y.span (spans_of r) o

      more : (k : ℕ) → met x.hi (spans_of r) ≡ k → (joined x (spans_of r)).hi ≡ high_end x.hi 0 k r → higher y.span.hi (joined x (spans_of r)).hi ≡ high_end x.hi 0 (suc k) (y ∷ r)
      more zero m h = ap (higher y.span.hi) h
      more (suc k) m h =
          let u = starts-between y.span.hi x.hi (spans_of r) t.1 (met_some x.hi (spans_of r) k m) in
          higher-is y.span.hi (joined x (spans_of r)).hi (lt-le lt_z Z-order y.span.hi x.hi (joined x (spans_of r)).hi u (joined-high x (spans_of r)))
          ∙ h
          ∙ high_end-some x.hi 0 k k r (zero-add k)
          ∙ sym (high_end-some x.hi 0 (suc k) (suc k) (y ∷ r) (zero-add (suc k)))

      go : (b : Bool) → lt_z y.span.lo x.hi ≡ b → (joined x (spans_of r)).hi ≡ high_end x.hi 0 (met x.hi (spans_of r)) r
          → (joined x (spans_of (y ∷ r))).hi ≡ high_end x.hi 0 (elim b as (λ (t : Bool). ℕ) [ true ↦ suc (met x.hi (spans_of r)) | false ↦ 0 ]) (y ∷ r)
      go true t h = ap (λ c. (cond c (hull y.span (joined x (spans_of r))) (joined x (spans_of r))).hi) (overlaps-by y.span e ∙ t) ∙ more (met x.hi (spans_of r)) refl h
      go false t h = ap (λ (h : Span). h.hi) (alone x (y ∷ r) (past-none x (spans_of (y ∷ r)) o (le_in x.hi y.span.lo t))).0

-- ---- the row with the new span
high_end-later : (z : ℤ) (a b : ℕ) (y : Owned) (r : List Owned) → high_end z a b r ≡ high_end z (suc a) b (y ∷ r)
high_end-later z a zero y r = refl
high_end-later z a (suc b) y r = high_end-some z a b (a + b) r refl ∙ sym (high_end-some z (suc a) b (suc (a + b)) (y ∷ r) (omega arith))

abbrev pub as_one : Owned → ℕ → ℕ → List Owned → Owned
as_one x a b r = record { span = record { lo = low_end x.span.lo a b r; hi = high_end x.span.hi a b r }; object = x.object }

module _ (x : Owned) where
  -- the splice behind the first a spans
  abbrev spliced_from : ℕ → List Owned → List Owned
  spliced_from a r =
      let b = met x.span.hi (drop a (spans_of r)) in
      spliced a b (as_one x a b r ∷ []) r

  spliced-first : (r : List Owned) → lt_z x.span.lo x.span.hi ≡ true → ordered (spans_of r) ≡ true → ends_above x.span.lo (spans_of r) ≡ true → with_span x r ≡ spliced_from 0 r
  unfolding with_span
  spliced-first r p o e =
      let b = met x.span.hi (spans_of r) in
      let h : Owned = record { span = joined x.span (spans_of r); object = x.object } in
      ap (in_place h) (unmet-drop x.span r o e)
      ∙ place-front h x.span.hi (drop b r) (le-lt lt_z Z-order h.span.lo x.span.lo x.span.hi (joined-low x.span (spans_of r)) p) (starts-left x.span.hi r)
      ∙ (λ k. record { span = record { lo = joined-lowest x.span r o e k; hi = joined-highest x.span r o e k }; object = x.object } ∷ drop (sym (zero-add b) k) r)

  spliced-later : (a : ℕ) (y : Owned) (r : List Owned) → y ∷ spliced_from a r ≡ spliced_from (suc a) (y ∷ r)
  spliced-later a y r =
      let b = met x.span.hi (drop a (spans_of r)) in
      let e : suc (a + b) ≡ suc a + b = omega arith in
      λ k. y ∷ (take a r ++ (record { span = record { lo = low_end x.span.lo a b r; hi = high_end-later x.span.hi a b y r k }; object = x.object } ∷ drop (e k) (y ∷ r)))

  pub with_span-spliced : (r : List Owned) → lt_z x.span.lo x.span.hi ≡ true → ordered (spans_of r) ≡ true
      → with_span x r ≡ spliced (insertion x r).kept (insertion x r).dropped (as_one x (insertion x r).kept (insertion x r).dropped r ∷ []) r
  unfolding before
  with_span-spliced [] p o = spliced-first [] p o refl
  with_span-spliced (y ∷ r) p o = go (lt_z x.span.lo y.span.hi) refl (with_span-spliced r p (ordered-parts y.span (spans_of r) o).2)
    where
      go : (b : Bool) → lt_z x.span.lo y.span.hi ≡ b → with_span x r ≡ spliced_from (before x.span.lo (spans_of r)) r
          → with_span x (y ∷ r) ≡ spliced_from (elim b as (λ (t : Bool). ℕ) [ true ↦ 0 | false ↦ suc (before x.span.lo (spans_of r)) ]) (y ∷ r)
      go true t h = spliced-first (y ∷ r) p o t
      go false t h = with_span-later x y r o t ∙ ap (λ l. y ∷ l) h ∙ spliced-later (before x.span.lo (spans_of r)) y r

  -- ---- spans of other objects
  clashes-past : (r : List Owned) → ordered (spans_of r) ≡ true → starts_from x.span.hi (spans_of r) ≡ true → any_of (clashes x) r ≡ false
  unfolding any_of
  clashes-past [] o q = refl
  clashes-past (y ∷ r) o q =
      ap (λ b. (b && not (eq_z x.object y.object)) || any_of (clashes x) r) (below_apart x.span y.span (le_out x.span.hi y.span.lo q))
      ∙ clashes-past r (ordered-parts y.span (spans_of r) o).2 (starts-behind x.span.hi y.span (spans_of r) o q)

  clashes-first : (r : List Owned) → ordered (spans_of r) ≡ true → ends_above x.span.lo (spans_of r) ≡ true
      → any_of (clashes x) r ≡ any_of (is_other x.object) (take (met x.span.hi (spans_of r)) r)
  unfolding any_of met
  clashes-first [] o e = refl
  clashes-first (y ∷ r) o e =
      go (lt_z y.span.lo x.span.hi) refl (clashes-first r (ordered-parts y.span (spans_of r) o).2 (ends-behind x.span.lo y.span (spans_of r) o e))
    where
      go : (b : Bool) → lt_z y.span.lo x.span.hi ≡ b → any_of (clashes x) r ≡ any_of (is_other x.object) (take (met x.span.hi (spans_of r)) r)
          → any_of (clashes x) (y ∷ r) ≡ any_of (is_other x.object) (take (elim b as (λ (t : Bool). ℕ) [ true ↦ suc (met x.span.hi (spans_of r)) | false ↦ 0 ]) (y ∷ r))
      go true t h =
          ap (λ c. (c && not (eq_z x.object y.object)) || any_of (clashes x) r) (overlaps-by x.span y.span e ∙ t)
          ∙ ap (λ c. not (eq_z x.object y.object) || c) h
      go false t h = clashes-past (y ∷ r) o (le_in x.span.hi y.span.lo t)

  pub clashes-met : (r : List Owned) → ordered (spans_of r) ≡ true
      → any_of (clashes x) r ≡ any_of (is_other x.object) (take (insertion x r).dropped (drop (insertion x r).kept r))
  unfolding any_of before
  clashes-met [] o = clashes-first [] o refl
  clashes-met (y ∷ r) o = go (lt_z x.span.lo y.span.hi) refl (clashes-met r (ordered-parts y.span (spans_of r) o).2)
    where
      others : ℕ → List Owned → Bool
      others a l = any_of (is_other x.object) (take (met x.span.hi (drop a (spans_of l))) (drop a l))

      go : (b : Bool) → lt_z x.span.lo y.span.hi ≡ b → any_of (clashes x) r ≡ others (before x.span.lo (spans_of r)) r
          → any_of (clashes x) (y ∷ r) ≡ others (elim b as (λ (t : Bool). ℕ) [ true ↦ 0 | false ↦ suc (before x.span.lo (spans_of r)) ]) (y ∷ r)
      go true t h = clashes-first (y ∷ r) o t
      go false t h = ap (λ c. (c && not (eq_z x.object y.object)) || any_of (clashes x) r) (above_apart x.span y.span t) ∙ h

  -- ---- how long the row is
  pub with_span-full : (r : List Owned) → lt_z x.span.lo x.span.hi ≡ true → ordered (spans_of r) ≡ true
      → not (row_fits (spans_of (with_span x r))) ≡ leb span_limit (length r - (insertion x r).dropped)
  with_span-full r p o =
      let a = (insertion x r).kept in
      let b = (insertion x r).dropped in
      ap (λ (k : ℕ). not (leb k span_limit)) (spans-length (with_span x r) ∙ ap length (with_span-spliced r p o) ∙ spliced-length a b (as_one x a b r ∷ []) r (insertion-within x r))
      ∙ go (length r - b) (leb span_limit (length r - b)) refl
    where
      go : (k : ℕ) (t : Bool) → leb span_limit k ≡ t → not (leb (k + 1) span_limit) ≡ t
      go k true e = let h = leb-true span_limit k e in ap not (lt-leb (k + 1) span_limit (omega arith))
      go k false e = let h = leb-false span_limit k e in ap not (le-leb (k + 1) span_limit (omega arith))
