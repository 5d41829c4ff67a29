-- The next end above a height, row by row.
--     IsNext           what the next member of a list above t is: none, or the lowest of those above
--     next-told        whatever is the next member is the one that is computed
--     is-next, no-next what the next member is, and that there is none
--     first-next       in a row in order it is the first end above t
--     lowest-next      for some darts it is the lowest of those of their rows
--     any-covered      a side that the rows of some darts cover
use Rattle.std.proofs.Common.{◌≡◌, ℕ, Bool, true, false, cond, ◌||◌, ◌⊎◌, List, [], ◌∷◌, ◌++◌, ℤ, pos, Option, Some, None, sym, refl, ap, ◌∙◌, subst, inl, inr, ⊎_elim}
use mathlib.Core.List.Memᴰ
use lib.Signed.{lt_z}
use Rattle.std.specs.Int.{int_min}
use Rattle.std.specs.List.{slice_get, list_any, find, filter_map, cons_option, fold, reduce}
use Rattle.std.proofs.lemmas.Int.{fold-int_min_reached, fold-int_min_bounds}
use Rattle.paper.specs.Below.{join_of, any_of}
use Rattle.paper.specs.Map.{Span}
use Rattle.paper.specs.Span.{covers, covering_from, covered, ordered, ends_of}
use Rattle.paper.specs.Ends.{next}
use Rattle.paper.specs.Table.{row_at}
use Rattle.theory.specs.Member.{◌∈◌}
use Rattle.theory.proofs.Bool.{clash}
use Rattle.theory.proofs.Order.{Z-order, le_same, le-le}
use Rattle.theory.proofs.Member.{join-of-in, join-of-out}
use Rattle.theory.proofs.Height as Height
use Rattle.theory.proofs.Height.{Next, next-or, next-unique, covered-any, span-end, end-span}
use Rattle.theory.proofs.Row.{ordered-parts}
use Rattle.pieces.specs.Listed.{spans_of, next_above, NoneBelow, Lowest}
use Rattle.pieces.proofs.Rows.{floor-from, not-less, place-of, at-place}

abbrev pub IsNext : ℤ → List ℤ → Option ℤ → Type 0
IsNext t l None = (b : ℤ) → b ∈ l → lt_z t b ≡ false
IsNext t l (Some u) = Next true t l u

next-is : (t : ℤ) (l : List ℤ) → IsNext t l (next_above t l)
unfolding next_above
next-is t l = go (lt_z t (next true t l)) refl (next-or true t l)
  where
    go : (b : Bool) → lt_z t (next true t l) ≡ b → Height.None true t l (next true t l) ⊎ Next true t l (next true t l) → IsNext t l (cond b (Some (next true t l)) None)
    go true e (inl h) = absurd (clash e (subst (λ z. lt_z t z ≡ false) (sym h.1) (Z-order.irrefl t)))
    go true e (inr n) = n
    go false e (inl h) = h.0
    go false e (inr n) = absurd (clash n.past e)

pub next-told : (t : ℤ) (l : List ℤ) (o : Option ℤ) → IsNext t l o → o ≡ next_above t l
next-told t l o k = go o (next_above t l) k (next-is t l)
  where
    go : (o p : Option ℤ) → IsNext t l o → IsNext t l p → o ≡ p
    go None None a b = refl
    go None (Some u) a b = absurd (clash b.past (a u b.member))
    go (Some u) None a b = absurd (clash a.past (b u a.member))
    go (Some u) (Some v) a b = ap Some (next-unique true t u v l a b)

-- what the next member is, and that there is none
pub is-next : (t u : ℤ) (l : List ℤ) → next_above t l ≡ Some u → (u ≡ next true t l) × (lt_z t u ≡ true)
unfolding next_above
is-next t u l e = go (lt_z t (next true t l)) refl e
  where
    go : (b : Bool) → lt_z t (next true t l) ≡ b → cond b (Some (next true t l)) None ≡ Some u → (u ≡ next true t l) × (lt_z t u ≡ true)
    go true q e = let s : u ≡ next true t l = cc in (s, ap (λ z. lt_z t z) s ∙ q)
    go false q e = absurd (cc)

pub no-next : (t : ℤ) (l : List ℤ) → next_above t l ≡ None → lt_z t (next true t l) ≡ false
unfolding next_above
no-next t l e = go (lt_z t (next true t l)) refl e
  where
    go : (b : Bool) → lt_z t (next true t l) ≡ b → cond b (Some (next true t l)) None ≡ None → lt_z t (next true t l) ≡ false
    go true q e = absurd (cc)
    go false q e = q

-- ---- one row
-- no later member is below an earlier one
abbrev Rises : List ℤ → Type 0
Rises [] = Unit {0}
Rises (z ∷ l) = NoneBelow l z × Rises l

row-rises : (r : List Span) → ordered r ≡ true → Rises (ends_of r)
unfolding ends_of
row-rises [] o = tt
row-rises (x ∷ r) o =
    let p = ordered-parts x r o in
    (λ b h. floor-from x.lo (x ∷ r) (le_same x.lo) o b (Memᴰ.tail h), (floor-from x.hi r p.1 p.2, row-rises r p.2))

found : (t : ℤ) (l : List ℤ) → Rises l → IsNext t l (find (λ z. lt_z t z) l)
found t [] k = λ b h. absurd (Memᴰ.not-nil h)
found t (z ∷ l) k = go (lt_z t z) refl (find (λ z. lt_z t z) l) (found t l k.1)
  where
    go : (b : Bool) → lt_z t z ≡ b → (o : Option ℤ) → IsNext t l o → IsNext t (z ∷ l) (cond b (Some z) o)
    go true e o n = record {
      member = Memᴰ.head refl;
      past = e;
      tight = λ b h w. ⊎_elim (λ (q : b ≡ z). ap (λ x. lt_z x z) q ∙ Z-order.irrefl z) (λ u. k.0 b u) (Memᴰ.cases_cons h);
    }
    go false e None n = λ b h. ⊎_elim (λ (q : b ≡ z). ap (λ x. lt_z t x) q ∙ e) (λ u. n b u) (Memᴰ.cases_cons h)
    go false e (Some u) n = record {
      member = Memᴰ.tail n.member;
      past = n.past;
      tight = λ b h w. ⊎_elim (λ (q : b ≡ z). absurd (clash w (ap (λ x. lt_z t x) q ∙ e))) (λ m. n.tight b m w) (Memᴰ.cases_cons h);
    }

pub first-next : (r : List Span) (t : ℤ) → ordered r ≡ true → find (λ z. lt_z t z) (ends_of r) ≡ next_above t (ends_of r)
first-next r t o = next-told t (ends_of r) _ (found t (ends_of r) (row-rises r o))

-- ---- some rows
-- a member of what is kept, and what is kept of a member
kept-out : (f : ℕ → Option ℤ) (ds : List ℕ) (z : ℤ) → z ∈ filter_map f ds → (e : ℕ) × (e ∈ ds) × (f e ≡ Some z)
kept-out f [] z h = absurd (Memᴰ.not-nil h)
kept-out f (d ∷ ds) z h = go (f d) refl h (λ m. let r = kept-out f ds z m in (r.0, Memᴰ.tail r.1, r.2))
  where
    go : (o : Option ℤ) → f d ≡ o → z ∈ cons_option o (filter_map f ds) → (z ∈ filter_map f ds → (e : ℕ) × (e ∈ d ∷ ds) × (f e ≡ Some z)) → (e : ℕ) × (e ∈ d ∷ ds) × (f e ≡ Some z)
    go None q h later = later h
    go (Some x) q h later = ⊎_elim (λ (p : z ≡ x). (d, Memᴰ.head refl, q ∙ ap Some (sym p))) later (Memᴰ.cases_cons h)

kept-in : (f : ℕ → Option ℤ) (ds : List ℕ) (e : ℕ) (z : ℤ) → e ∈ ds → f e ≡ Some z → z ∈ filter_map f ds
kept-in f [] e z h q = absurd (Memᴰ.not-nil h)
kept-in f (d ∷ ds) e z h q =
    ⊎_elim (λ (p : e ≡ d). subst (λ o. z ∈ cons_option o (filter_map f ds)) (sym (ap f (sym p) ∙ q)) (Memᴰ.head refl)) (λ u. later (f d) (kept-in f ds e z u q)) (Memᴰ.cases_cons h)
  where
    later : (o : Option ℤ) → z ∈ filter_map f ds → z ∈ cons_option o (filter_map f ds)
    later None m = m
    later (Some x) m = Memᴰ.tail m

-- the lowest of some heights is one of them, and none is below it
lowest-in : (a : ℤ) (l : List ℤ) → fold int_min a l ∈ a ∷ l
lowest-in a l = ⊎_elim (λ e. Memᴰ.head e) (λ k. Memᴰ.tail (subst (λ z. z ∈ l) k.2 (at-place l k.0 _ k.1))) (fold-int_min_reached a l (fold int_min a l) refl)

lowest-least : (a : ℤ) (l : List ℤ) → NoneBelow (a ∷ l) (fold int_min a l)
lowest-least a l b h =
    let k = fold-int_min_bounds a l (fold int_min a l) refl in
    ⊎_elim (λ (e : b ≡ a). ap (λ z. lt_z z (fold int_min a l)) e ∙ not-less _ a k.0)
    (λ u. let q = place-of (pos 0) l b u in ap (λ z. lt_z z (fold int_min a l)) (sym q.2) ∙ not-less _ _ (k.1 q.0 (pos 0) q.1)) (Memᴰ.cases_cons h)

no-member : (l : List ℤ) → ((b : ℤ) → b ∈ l → ⊥) → l ≡ []
no-member [] f = refl
no-member (z ∷ l) f = absurd (f z (Memᴰ.head refl))

module _ (s : List ℤ) (ds : List ℕ) where
  row-in : (e : ℕ) → e ∈ ds → (b : ℤ) → b ∈ ends_of (row_at s e) → b ∈ ends_of (spans_of s ds)
  row-in e m b h = let x = end-span (row_at s e) b h in span-end (spans_of s ds) x.0 b (join-of-in ds (row_at s) m x.1) x.2

  row-out : (b : ℤ) → b ∈ ends_of (spans_of s ds) → (e : ℕ) × (e ∈ ds) × (b ∈ ends_of (row_at s e))
  row-out b h =
      let x = end-span (spans_of s ds) b h in
      let e = join-of-out ds (row_at s) x.1 in
      (e.0, e.1, span-end (row_at s e.0) x.0 b e.2 x.2)

  module _ (t : ℤ) where
    abbrev of_row : ℕ → Option ℤ
    of_row d = next_above t (ends_of (row_at s d))

    lowest : (l : List ℤ) → filter_map of_row ds ≡ l → IsNext t (ends_of (spans_of s ds)) (reduce int_min l)
    lowest [] q = λ b h. let r = row-out b h in go b r.0 r.1 r.2 (of_row r.0) refl (next-is t (ends_of (row_at s r.0)))
      where
        go : (b : ℤ) (e : ℕ) → e ∈ ds → b ∈ ends_of (row_at s e) → (o : Option ℤ) → of_row e ≡ o → IsNext t (ends_of (row_at s e)) o → lt_z t b ≡ false
        go b e m k None p n = n b k
        go b e m k (Some u) p n = absurd (Memᴰ.not-nil (subst (λ x. u ∈ x) q (kept-in of_row ds e u m p)))
    lowest (a ∷ l) q =
        let k = kept-out of_row ds (fold int_min a l) (subst (λ x. fold int_min a l ∈ x) (sym q) (lowest-in a l)) in
        let n : Next true t (ends_of (row_at s k.0)) (fold int_min a l) = subst (IsNext t (ends_of (row_at s k.0))) k.2 (next-is t (ends_of (row_at s k.0))) in
        record {
          member = row-in k.0 k.1 (fold int_min a l) n.member;
          past = n.past;
          tight = λ b h w. let r = row-out b h in go b w r.0 r.1 r.2 (of_row r.0) refl (next-is t (ends_of (row_at s r.0)));
        }
      where
        go : (b : ℤ) → lt_z t b ≡ true → (e : ℕ) → e ∈ ds → b ∈ ends_of (row_at s e) → (o : Option ℤ) → of_row e ≡ o → IsNext t (ends_of (row_at s e)) o → lt_z b (fold int_min a l) ≡ false
        go b w e m k None p n = absurd (clash w (n b k))
        go b w e m k (Some z) p n =
            le-le lt_z Z-order (fold int_min a l) z b (lowest-least a l z (subst (λ x. z ∈ x) q (kept-in of_row ds e z m p))) (n.tight b k w)

    pub lowest-next : reduce int_min (filter_map (λ d. next_above t (ends_of (row_at s d))) ds) ≡ next_above t (ends_of (spans_of s ds))
    lowest-next = next-told t (ends_of (spans_of s ds)) _ (lowest (filter_map of_row ds) refl)

  -- the lowest of the rows' first ends
  abbrev first_in : ℕ → Option ℤ
  first_in d = slice_get (ends_of (row_at s d)) 0

  module _ (o : (e : ℕ) → e ∈ ds → ordered (row_at s e) ≡ true) where
    floor : (l : List ℤ) → filter_map first_in ds ≡ l → Lowest (ends_of (spans_of s ds)) (reduce int_min l)
    floor [] q = no-member (ends_of (spans_of s ds)) (λ b h. let r = row-out b h in go b r.0 r.1 (ends_of (row_at s r.0)) refl r.2)
      where
        go : (b : ℤ) (e : ℕ) → e ∈ ds → (k : List ℤ) → ends_of (row_at s e) ≡ k → b ∈ k → ⊥
        go b e m [] p h = Memᴰ.not-nil h
        go b e m (z ∷ k) p h = Memᴰ.not-nil (subst (λ x. z ∈ x) q (kept-in first_in ds e z m (ap (λ x. slice_get x 0) p)))
    floor (a ∷ l) q = λ b h. let r = row-out b h in go b r.0 r.1 (ends_of (row_at s r.0)) refl r.2
      where
        go : (b : ℤ) (e : ℕ) → e ∈ ds → (k : List ℤ) → ends_of (row_at s e) ≡ k → b ∈ k → lt_z b (fold int_min a l) ≡ false
        go b e m [] p h = absurd (Memᴰ.not-nil h)
        go b e m (z ∷ k) p h =
            let rises : Rises (z ∷ k) = subst Rises p (row-rises (row_at s e) (o e m)) in
            let first : lt_z b z ≡ false = ⊎_elim (λ (w : b ≡ z). ap (λ x. lt_z x z) w ∙ Z-order.irrefl z) (λ u. rises.0 b u) (Memᴰ.cases_cons h) in
            le-le lt_z Z-order (fold int_min a l) z b (lowest-least a l z (subst (λ x. z ∈ x) q (kept-in first_in ds e z m (ap (λ x. slice_get x 0) p)))) first

    pub lowest-end : Lowest (ends_of (spans_of s ds)) (reduce int_min (filter_map (λ d. slice_get (ends_of (row_at s d)) 0) ds))
    lowest-end = floor (filter_map first_in ds) refl

-- ---- sides
any_append : (p : Span → Bool) (a b : List Span) → any_of p (a ++ b) ≡ (any_of p a || any_of p b)
unfolding any_of
any_append p [] b = refl
any_append p (x ∷ a) b = go (p x) (any_append p a b)
  where
    go : (c : Bool) → any_of p (a ++ b) ≡ (any_of p a || any_of p b) → (c || any_of p (a ++ b)) ≡ ((c || any_of p a) || any_of p b)
    go true h = refl
    go false h = h

pub covered-row : (t : ℤ) (up : Bool) (s : List ℤ) (d : ℕ) (ds : List ℕ) → covered (spans_of s (d ∷ ds)) t up ≡ (covered (row_at s d) t up || covered (spans_of s ds) t up)
unfolding join_of
covered-row t up s d ds =
    covered-any (row_at s d ++ spans_of s ds) t up ∙ any_append (λ x. covers x t up) (row_at s d) (spans_of s ds)
    ∙ sym (λ i. covered-any (row_at s d) t up i || covered-any (spans_of s ds) t up i)

-- a side is covered by the rows of some darts where one of them covers it
pub any-covered : (s : List ℤ) (t : ℤ) (ds : List ℕ) → list_any (λ d. covered (row_at s d) t true) ds ≡ covered (spans_of s ds) t true
unfolding join_of covering_from
any-covered s t [] = refl
any-covered s t (d ∷ ds) = ap (λ b. covered (row_at s d) t true || b) (any-covered s t ds) ∙ sym (covered-row t true s d ds)
