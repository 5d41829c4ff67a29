-- Spans and rows cut at the heights of a list.
--     cut-row-short    how many pieces a cut makes at most
--     covered-cut      the stretches of a list of the ends of a row and of other heights that the row covers are the row, cut at these heights
use Rattle.std.proofs.Common.{◌≡◌, suc, ◌*◌, ◌≤◌, Bool, true, false, cond, not, ◌&&◌, ◌⊎◌, List, [], ◌∷◌, ◌++◌, length, ℤ, sym, refl, ap, ◌∙◌, subst, inl, inr, ⊎_elim, zero-le, arith, length-append}
use mathlib.Core.List.Memᴰ
use lib.Signed.{lt_z, le_z}
use Rattle.paper.specs.Map.{Span}
use Rattle.paper.specs.Span.{starts_from, ordered, ends_of}
use Rattle.paper.specs.Ends.{stretches, spans, covered_by}
use Rattle.theory.specs.Member.{◌∈◌}
use Rattle.theory.specs.Ascending.{Ascends}
use Rattle.theory.proofs.Bool.{clash, not-true, decided, and_both, and_intro}
use Rattle.theory.proofs.Member.{any-of-in, any-of-out}
use Rattle.theory.proofs.Order.{Z-order, le_in, le_out, le_same, lt-le, le-lt}
use Rattle.theory.proofs.Height.{span-ends, foot-covered}
use Rattle.theory.proofs.Row.{starts-less, ordered-parts, ordered-cons, ordered-proper, ordered-ext, nothing-within}
use Rattle.theory.proofs.Stretch.{stretch, stretches-order, stretch-ends, kept-order, kept_in, kept_out, stretch-splits, stretch-at}
use Rattle.number.specs.Beside.{cut_span, cut_row}
use Rattle.number.proofs.CutSpan.{Part, cut_parts, parts_cut}

-- ---- how many pieces
cut-span-short : (a b : ℤ) (T : List ℤ) → length (cut_span a b T) ≤ suc (length T)
unfolding cut_span
cut-span-short a b [] = omega arith
cut-span-short a b (t ∷ T) = go (lt_z a t && lt_z t b) (cut-span-short t b T) (cut-span-short a b T)
  where
    go : (c : Bool) → length (cut_span t b T) ≤ suc (length T) → length (cut_span a b T) ≤ suc (length T)
        → length (cond c (stretch a t ∷ cut_span t b T) (cut_span a b T)) ≤ suc (suc (length T))
    go true h k = omega arith
    go false h k = omega arith

pub cut-row-short : (r : List Span) (T : List ℤ) → length (cut_row r T) ≤ length r * suc (length T)
unfolding cut_row
cut-row-short [] T = zero-le
cut-row-short (x ∷ r) T =
    let e = length-append (cut_span x.lo x.hi T) (cut_row r T) in
    let a = cut-span-short x.lo x.hi T in
    let b = cut-row-short r T in
    omega arith

-- ---- their order
cut-starts : (a b : ℤ) (T : List ℤ) (r : List Span) → starts_from a (cut_span a b T ++ r) ≡ true
unfolding cut_span
cut-starts a b [] r = le_same a
cut-starts a b (t ∷ T) r = go (lt_z a t && lt_z t b) (cut-starts a b T r)
  where
    go : (c : Bool) → starts_from a (cut_span a b T ++ r) ≡ true → starts_from a (cond c (stretch a t ∷ cut_span t b T) (cut_span a b T) ++ r) ≡ true
    go true h = le_same a
    go false h = h

-- the pieces of a span, and after them a row that starts at its head or above
cut-order : (a b : ℤ) (T : List ℤ) (r : List Span) → lt_z a b ≡ true → starts_from b r ≡ true → ordered r ≡ true → ordered (cut_span a b T ++ r) ≡ true
unfolding cut_span
cut-order a b [] r ab s o = ordered-cons (stretch a b) r ab s o
cut-order a b (t ∷ T) r ab s o = go (lt_z a t && lt_z t b) refl (λ z zb. cut-order z b T r zb s o)
  where
    go : (c : Bool) → (lt_z a t && lt_z t b) ≡ c → ((z : ℤ) → lt_z z b ≡ true → ordered (cut_span z b T ++ r) ≡ true)
        → ordered (cond c (stretch a t ∷ cut_span t b T) (cut_span a b T) ++ r) ≡ true
    go true e f =
        let i = and_both (lt_z a t) (lt_z t b) e in
        ordered-cons (stretch a t) (cut_span t b T ++ r) i.0 (cut-starts t b T r) (f t i.1)
    go false e f = f a ab

-- ---- the pieces of a row
row-starts : (h : ℤ) (r : List Span) (T : List ℤ) → starts_from h r ≡ true → starts_from h (cut_row r T) ≡ true
unfolding cut_row
row-starts h [] T s = refl
row-starts h (x ∷ r) T s =
    starts-less h x.lo (cut_span x.lo x.hi T ++ cut_row r T) (le_out h x.lo s) (cut-starts x.lo x.hi T (cut_row r T))

row-order : (r : List Span) (T : List ℤ) → ordered r ≡ true → ordered (cut_row r T) ≡ true
unfolding cut_row
row-order [] T o = o
row-order (x ∷ r) T o =
    let a = ordered-parts x r o in
    cut-order x.lo x.hi T (cut_row r T) a.0 (row-starts x.hi r T a.1) (row-order r T a.2)

row_in : (r : List Span) (T : List ℤ) (x p : Span) → x ∈ r → p ∈ cut_span x.lo x.hi T → p ∈ cut_row r T
unfolding cut_row
row_in [] T x p h k = absurd (Memᴰ.not-nil h)
row_in (y ∷ r) T x p h k = ⊎_elim
    (λ (e : x ≡ y). Memᴰ.append_left (cut_row r T) (subst (λ (z : Span). p ∈ cut_span z.lo z.hi T) e k))
    (λ u. Memᴰ.append_right (cut_span y.lo y.hi T) (row_in r T x p u k))
    (Memᴰ.cases_cons h)

row_out : (r : List Span) (T : List ℤ) (p : Span) → p ∈ cut_row r T → (x : Span) × (x ∈ r) × (p ∈ cut_span x.lo x.hi T)
unfolding cut_row
row_out [] T p h = absurd (Memᴰ.not-nil h)
row_out (y ∷ r) T p h = ⊎_elim
    (λ u. (y, Memᴰ.head refl, u))
    (λ u. let i = row_out r T p u in (i.0, Memᴰ.tail i.1, i.2))
    (Memᴰ.append_cases (cut_span y.lo y.hi T) h)

-- ---- E has the ends of a row R in order and the heights of T, and no others
module _ (R : List Span) (T E : List ℤ) (o : ordered R ≡ true) (w : Ascends le_z T) (s : Ascends lt_z E)
    (out : (b : ℤ) → b ∈ E → (b ∈ ends_of R) ⊎ (b ∈ T)) (own : (b : ℤ) → b ∈ ends_of R → b ∈ E) (other : (b : ℤ) → b ∈ T → b ∈ E) where
  -- a stretch of E that a span of R covers is a part of the span
  stretch-part : (x p : Span) → x ∈ R → p ∈ stretches E → spans x p ≡ true → Part x.lo x.hi T p
  stretch-part x p h k e = record {
    proper = lh;
    above = xp;
    under = px;
    foot = ⊎_elim
        (λ u. inl (⊎_elim (λ q. sym (Z-order.tri x.lo p.lo q xp)) (λ q. absurd (clash (lt-le lt_z Z-order p.lo p.hi x.hi lh px) q))
        (nothing-within R x p.lo o h u)))
        (λ u. inr u)
        (out p.lo i.0);
    head = ⊎_elim
        (λ u. inl (⊎_elim (λ q. absurd (clash (le-lt lt_z Z-order x.lo p.lo p.hi xp lh) q)) (λ q. Z-order.tri p.hi x.hi q px)
        (nothing-within R x p.hi o h u)))
        (λ u. inr u)
        (out p.hi i.1);
    whole = λ t u. ⊎_elim (λ q. inr (stretch-splits E p t s k (other t u) ∙ ap not q)) (λ q. inl q) (decided (lt_z p.lo t));
  }
    where
      i : (p.lo ∈ E) × (p.hi ∈ E)
      i = stretch-ends E p k

      lh : lt_z p.lo p.hi ≡ true
      lh = ordered-proper (stretches E) p (stretches-order E s) k

      xp : lt_z p.lo x.lo ≡ false
      xp = le_out x.lo p.lo (and_both (le_z x.lo p.lo) (le_z p.hi x.hi) e).0

      px : lt_z x.hi p.hi ≡ false
      px = le_out p.hi x.hi (and_both (le_z x.lo p.lo) (le_z p.hi x.hi) e).1

  -- a part of a span of R is a stretch of E: the lowest stretch that it covers is the whole of it
  part-stretch : (x p : Span) → x ∈ R → Part x.lo x.hi T p → p ∈ stretches E
  part-stretch x p h P = subst (λ (z : Span). z ∈ stretches E) (λ i. stretch (lo i) (hi i)) q.1
    where
      foot-in : p.lo ∈ E
      foot-in = ⊎_elim (λ e. own p.lo (subst (λ (z : ℤ). z ∈ ends_of R) (sym e) (span-ends R x h).0)) (other p.lo) P.foot

      head_in : p.hi ∈ E
      head_in = ⊎_elim (λ e. own p.hi (subst (λ (z : ℤ). z ∈ ends_of R) (sym e) (span-ends R x h).1)) (other p.hi) P.head

      q : (q : Span) × (q ∈ stretches E) × ((le_z q.lo p.lo && lt_z p.lo q.hi) ≡ true) × (spans p q ≡ true)
      q = stretch-at p p.lo true (foot-covered p P.proper) E s foot-in head_in

      c : (le_z q.0.lo p.lo ≡ true) × (lt_z p.lo q.0.hi ≡ true)
      c = and_both (le_z q.0.lo p.lo) (lt_z p.lo q.0.hi) q.2

      d : (le_z p.lo q.0.lo ≡ true) × (le_z q.0.hi p.hi ≡ true)
      d = and_both (le_z p.lo q.0.lo) (le_z q.0.hi p.hi) q.3

      lo : q.0.lo ≡ p.lo
      lo = Z-order.tri q.0.lo p.lo (le_out p.lo q.0.lo d.0) (le_out q.0.lo p.lo c.0)

      -- its head is no end of R inside the span, and no height of T inside the part
      within : lt_z q.0.hi p.hi ≡ true → ⊥
      within v = ⊎_elim
          (λ u. ⊎_elim (clash (le-lt lt_z Z-order x.lo p.lo q.0.hi P.above c.1)) (clash (lt-le lt_z Z-order q.0.hi p.hi x.hi v P.under))
          (nothing-within R x q.0.hi o h u))
          (λ u. ⊎_elim (clash c.1) (clash v) (P.whole q.0.hi u))
          (out q.0.hi (stretch-ends E q.0 q.1).1)

      hi : q.0.hi ≡ p.hi
      hi = Z-order.tri q.0.hi p.hi (not-true (lt_z q.0.hi p.hi) within) (le_out q.0.hi p.hi d.1)

  pub covered-cut : covered_by R (stretches E) ≡ cut_row R T
  covered-cut = ordered-ext (covered_by R (stretches E)) (cut_row R T) (kept-order R (stretches E) (stretches-order E s)) (row-order R T o) down up
    where
      down : (p : Span) → p ∈ covered_by R (stretches E) → p ∈ cut_row R T
      down p h =
          let k = kept_out R (stretches E) p h in
          let x = any-of-out (λ x. spans x p) R k.1 in
          row_in R T x.0 p x.1 (parts_cut x.0.lo x.0.hi T p w (stretch-part x.0 p x.1 k.0 x.2))

      up : (p : Span) → p ∈ cut_row R T → p ∈ covered_by R (stretches E)
      up p h =
          let x = row_out R T p h in
          let P = cut_parts x.0.lo x.0.hi T p w (ordered-proper R x.0 o x.1) x.2 in
          let e = and_intro (le_z x.0.lo p.lo) (le_z p.hi x.0.hi) (le_in x.0.lo p.lo P.above) (le_in p.hi x.0.hi P.under) in
          kept_in R (stretches E) p (part-stretch x.0 p x.1 P) (any-of-in (λ y. spans y p) R x.0 x.1 e)
