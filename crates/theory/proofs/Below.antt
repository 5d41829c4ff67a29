-- Laws of the tests, counts and lists over the numbers below n.
--     less-cases                              a number below n + 1 is n, or below n
--     suc-over                                one more on the left of a sum is one more on the right
--     any-in, any_out, any_same               any_below
--     all_in, all-out                         all_below
--     count-le, count_same, count-pos, count-grow, count-into, count-or     count_below
--     first_passes, first-before, first_found     first_below
--     list_length, list_at, list-more         list_below
--     one_at, one-off                         a list of z's with one v among them
use Rattle.std.proofs.Common.{◌≡◌, ℕ, zero, suc, ◌+◌, ◌<◌, ◌≤◌, Bool, true, false, cond, not, ◌&&◌, ◌||◌, eqb, ltb, ◌⊎◌, List, [], ◌∷◌, ◌++◌, length, get_or, set, replicate, sym, refl, ap, ◌∙◌, subst, inl, inr, ⊎_elim, append_assoc, zero-le, le_refl, le_of_suc-le-suc, not-suc-le-zero, add-zero, eq-or-lt_of_le, zero-add, arith, get_or-set_other, get_or-set_same, ltb-false, ltb-true, eq-eqb, ne_eqb}
use mathlib.Core.Bool.{false≢true}
use native.Mathlib.Omega.{by_contra}
use lib.ListN.{length-replicate}
use Rattle.paper.specs.Below.{any_below, all_below, count_below, first_below, list_onto, list_below}
use Rattle.theory.proofs.Bool.{or_case, or_left, or_right, and_both, and_intro, clash, decided}

pub less-cases : {k n : ℕ} → k < suc n → (k ≡ n) ⊎ (k < n)
less-cases h = eq-or-lt_of_le (le_of_suc-le-suc h)

pub suc-over : (n i : ℕ) → suc n + i ≡ n + suc i
suc-over n i = omega arith

-- ---- tests
pub any-in : (n : ℕ) (f : ℕ → Bool) (j : ℕ) → j < n → f j ≡ true → any_below n f ≡ true
unfolding any_below
any-in zero f j h t = absurd (not-suc-le-zero h)
any-in (suc n) f j h t =
    ⊎_elim (λ e. or_left (f n) (any_below n f) (subst (λ (k : ℕ). f k ≡ true) e t)) (λ l. or_right (f n) (any_below n f) (any-in n f j l t)) (less-cases h)

pub any_out : (n : ℕ) (f : ℕ → Bool) → any_below n f ≡ true → (j : ℕ) × (j < n) × (f j ≡ true)
unfolding any_below
any_out zero f t = absurd (false≢true t)
any_out (suc n) f t =
    ⊎_elim (λ s. (n, le_refl (suc n), s)) (λ s. let r = any_out n f s in let l = r.1 in (r.0, omega arith, r.2)) (or_case (f n) (any_below n f) t)

pub any_same : (n : ℕ) (f g : ℕ → Bool) → ((j : ℕ) → j < n → f j ≡ g j) → any_below n f ≡ any_below n g
unfolding any_below
any_same zero f g e = refl
any_same (suc n) f g e = λ i. e n (le_refl (suc n)) i || any_same n f g (λ j h. e j (omega arith)) i

pub all_in : (n : ℕ) (f : ℕ → Bool) → ((j : ℕ) → j < n → f j ≡ true) → all_below n f ≡ true
unfolding all_below
all_in zero f h = refl
all_in (suc n) f h = and_intro (f n) (all_below n f) (h n (le_refl (suc n))) (all_in n f (λ j l. h j (omega arith)))

pub all-out : (n : ℕ) (f : ℕ → Bool) → all_below n f ≡ true → (j : ℕ) → j < n → f j ≡ true
unfolding all_below
all-out zero f t j h = absurd (not-suc-le-zero h)
all-out (suc n) f t j h =
    let b = and_both (f n) (all_below n f) t in
    ⊎_elim (λ e. subst (λ (k : ℕ). f k ≡ true) (sym e) b.0) (λ l. all-out n f b.1 j l) (less-cases h)

-- ---- counts
pub count-le : (n : ℕ) (f : ℕ → Bool) → count_below n f ≤ n
unfolding count_below
count-le zero f = zero-le
count-le (suc n) f = go (f n) (count-le n f)
  where
    go : (b : Bool) → count_below n f ≤ n → cond b 1 0 + count_below n f ≤ suc n
    go true h = omega arith
    go false h = omega arith

count_same : (n : ℕ) (f g : ℕ → Bool) → ((j : ℕ) → j < n → f j ≡ g j) → count_below n f ≡ count_below n g
unfolding count_below
count_same zero f g e = refl
count_same (suc n) f g e = λ i. cond (e n (le_refl (suc n)) i) 1 0 + count_same n f g (λ j h. e j (omega arith)) i

pub count-pos : (n : ℕ) (f : ℕ → Bool) (e : ℕ) → e < n → f e ≡ true → 1 ≤ count_below n f
unfolding count_below
count-pos zero f e h t = absurd (not-suc-le-zero h)
count-pos (suc n) f e h t = go (f n) (λ p. subst (λ (k : ℕ). f k ≡ true) p t) (λ l. count-pos n f e l t) (less-cases h)
  where
    go : (b : Bool) → (e ≡ n → b ≡ true) → (e < n → 1 ≤ count_below n f) → (e ≡ n) ⊎ (e < n) → 1 ≤ cond b 1 0 + count_below n f
    go true x y c = omega arith
    go false x y (inl p) = absurd (false≢true (x p))
    go false x y (inr l) = let z = y l in omega arith

-- where g passes whenever f does: they pass for the same numbers, or g passes for more
pub count-grow : (n : ℕ) (f g : ℕ → Bool) → ((e : ℕ) → e < n → f e ≡ true → g e ≡ true)
    → (((e : ℕ) → e < n → f e ≡ g e) × (count_below n f ≤ count_below n g)) ⊎ (count_below n f < count_below n g)
unfolding count_below
count-grow zero f g s = inl (λ e h. absurd (not-suc-le-zero h), zero-le)
count-grow (suc n) f g s = go (f n) (g n) refl refl (s n (le_refl (suc n))) (count-grow n f g (λ e h. s e (omega arith)))
  where
    upto : f n ≡ g n → ((e : ℕ) → e < n → f e ≡ g e) → (e : ℕ) → e < suc n → f e ≡ g e
    upto p r e h = ⊎_elim (λ x. subst (λ (k : ℕ). f k ≡ g k) (sym x) p) (λ x. r e x) (less-cases h)

    go : (a b : Bool) → f n ≡ a → g n ≡ b → (f n ≡ true → g n ≡ true)
        → (((e : ℕ) → e < n → f e ≡ g e) × (count_below n f ≤ count_below n g)) ⊎ (count_below n f < count_below n g)
        → (((e : ℕ) → e < suc n → f e ≡ g e) × (cond (f n) 1 0 + count_below n f ≤ cond (g n) 1 0 + count_below n g))
        ⊎ (cond (f n) 1 0 + count_below n f < cond (g n) 1 0 + count_below n g)
    go true true p q t (inl r) = let l = r.1 in inl (upto (p ∙ sym q) r.0, rw (p, q) (omega arith))
    go true true p q t (inr l) = inr (rw (p, q) (omega arith))
    go false false p q t (inl r) = let l = r.1 in inl (upto (p ∙ sym q) r.0, rw (p, q) (omega arith))
    go false false p q t (inr l) = inr (rw (p, q) (omega arith))
    go false true p q t (inl r) = let l = r.1 in inr (rw (p, q) (omega arith))
    go false true p q t (inr l) = inr (rw (p, q) (omega arith))
    go true false p q t r = absurd (clash (t p) q)

-- one less where a number that passes is left out
abbrev without : (ℕ → Bool) → ℕ → ℕ → Bool
without p x j = not (eqb j x) && p j

count-without : (n x : ℕ) (p : ℕ → Bool) → x < n → p x ≡ true → count_below n p ≡ suc (count_below n (without p x))
unfolding count_below
count-without zero x p h t = absurd (not-suc-le-zero h)
count-without (suc n) x p h t = ⊎_elim (λ e. here e) (λ l. later l (count-without n x p l t)) (less-cases h)
  where
    past : (k : ℕ) → k ≤ x → count_below k p ≡ count_below k (without p x)
    past k l = count_same k p (without p x) (λ j g. rw (ne_eqb j x (λ (e : j ≡ x). omega arith)) refl)

    here : x ≡ n → cond (p n) 1 0 + count_below n p ≡ suc (cond (without p x n) 1 0 + count_below n (without p x))
    here e =
        let q : p n ≡ true = ap p (sym e) ∙ t in
        let w : without p x n ≡ false = rw (eq-eqb n x (sym e)) refl in
        let z = past n (omega arith) in
        rw (w, q, z) (omega arith)

    later : x < n → count_below n p ≡ suc (count_below n (without p x)) → cond (p n) 1 0 + count_below n p ≡ suc (cond (without p x n) 1 0 + count_below n (without p x))
    later l z =
        let w : without p x n ≡ p n = rw (ne_eqb n x (λ (e : n ≡ x). omega arith)) refl in
        rw (w, z) (omega arith)

-- numbers that pass p go one to one to numbers that pass q: there are no more of them
pub count-into : (n k : ℕ) (p q : ℕ → Bool) (f : ℕ → ℕ) → ((d : ℕ) → d < n → p d ≡ true → (f d < k) × (q (f d) ≡ true))
    → ((d e : ℕ) → d < n → e < n → p d ≡ true → p e ≡ true → f d ≡ f e → d ≡ e) → count_below n p ≤ count_below k q
unfolding count_below
count-into zero k p q f into one = zero-le
count-into (suc n) k p q f into one = ⊎_elim
    (λ t. let here = into n (le_refl (suc n)) t in
    taken t (count-without k (f n) q here.0 here.1)
    (count-into n k p (without q (f n)) f (λ d h u. other d h u t (into d (omega arith) u)) (λ d e h g. one d e (omega arith) (omega arith))))
    (λ t. left t (count-into n k p q f (λ d h. into d (omega arith)) (λ d e h g. one d e (omega arith) (omega arith)))) (decided (p n))
  where
    left : p n ≡ false → count_below n p ≤ count_below k q → cond (p n) 1 0 + count_below n p ≤ count_below k q
    left t z = rw t (omega arith)

    taken : p n ≡ true → count_below k q ≡ suc (count_below k (without q (f n))) → count_below n p ≤ count_below k (without q (f n))
        → cond (p n) 1 0 + count_below n p ≤ count_below k q
    taken t w z = rw (t, w) (omega arith)

    other : (d : ℕ) → d < n → p d ≡ true → p n ≡ true → (f d < k) × (q (f d) ≡ true) → (f d < k) × (without q (f n) (f d) ≡ true)
    other d h u t a = (
      a.0,
      and_intro (not (eqb (f d) (f n))) (q (f d))
          (ap not (ne_eqb (f d) (f n) (λ e. let z = one d n (omega arith) (le_refl (suc n)) u t e in omega arith))) a.1,
    )

-- the numbers that pass one of two tests which none passes both
pub count-or : (n : ℕ) (p q : ℕ → Bool) → ((d : ℕ) → d < n → p d ≡ true → q d ≡ false) → count_below n (λ d. p d || q d) ≡ count_below n p + count_below n q
unfolding count_below
count-or zero p q h = refl
count-or (suc n) p q h = go (p n) (q n) (h n (le_refl (suc n))) (count-or n p q (λ d l. h d (omega arith)))
  where
    go : (a b : Bool) → (a ≡ true → b ≡ false) → count_below n (λ d. p d || q d) ≡ count_below n p + count_below n q
        → cond (a || b) 1 0 + count_below n (λ d. p d || q d) ≡ (cond a 1 0 + count_below n p) + (cond b 1 0 + count_below n q)
    go true true f e = absurd (clash refl (f refl))
    go true false f e = rw e (omega arith)
    go false true f e = rw e (omega arith)
    go false false f e = rw e (omega arith)

-- ---- the first that passes
pub first-le : (n : ℕ) (p : ℕ → Bool) → first_below n p ≤ n
unfolding first_below
first-le zero p = zero-le
first-le (suc n) p = go (ltb (first_below n p) n) (p n) (first-le n p)
  where
    go : (a b : Bool) → first_below n p ≤ n → cond a (first_below n p) (cond b n (suc n)) ≤ suc n
    go true b h = omega arith
    go false true h = omega arith
    go false false h = omega arith

-- it passes where it is below n
pub first_passes : (n : ℕ) (p : ℕ → Bool) → first_below n p < n → p (first_below n p) ≡ true
unfolding first_below
first_passes zero p h = absurd (not-suc-le-zero h)
first_passes (suc n) p h = go (ltb (first_below n p) n) (p n) refl refl h (first_passes n p)
  where
    go : (a b : Bool) → ltb (first_below n p) n ≡ a → p n ≡ b → cond a (first_below n p) (cond b n (suc n)) < suc n
        → (first_below n p < n → p (first_below n p) ≡ true) → p (cond a (first_below n p) (cond b n (suc n))) ≡ true
    go true b e q h f = f (ltb-true (first_below n p) n e)
    go false true e q h f = q
    go false false e q h f = absurd (omega arith)

-- nothing below it passes
pub first-before : (n : ℕ) (p : ℕ → Bool) (j : ℕ) → j < first_below n p → p j ≡ false
unfolding first_below
first-before zero p j h = absurd (not-suc-le-zero h)
first-before (suc n) p j h = go (ltb (first_below n p) n) (p n) refl refl h (first-before n p j) (first-le n p)
  where
    go : (a b : Bool) → ltb (first_below n p) n ≡ a → p n ≡ b → j < cond a (first_below n p) (cond b n (suc n)) → (j < first_below n p → p j ≡ false)
        → first_below n p ≤ n → p j ≡ false
    go true b e q h f l = f h
    go false true e q h f l = f (let g = ltb-false (first_below n p) n e in omega arith)
    go false false e q h f l = ⊎_elim (λ x. ap p x ∙ q) (λ x. f (let g = ltb-false (first_below n p) n e in omega arith)) (less-cases h)

-- something passes: it is found
pub first_found : (n : ℕ) (p : ℕ → Bool) (j : ℕ) → j < n → p j ≡ true → first_below n p ≤ j
first_found n p j h t = by_contra (first_below n p) j (λ l. clash t (first-before n p j l))

-- ---- lists
list-past : {A : Type 0} (n : ℕ) (f : ℕ → A) (r : List A) (z : A) (i : ℕ) → get_or (list_onto n f r) (n + i) z ≡ get_or r i z
unfolding list_onto
list-past zero f r z i = ap (λ (k : ℕ). get_or r k z) (zero-add i)
list-past (suc n) f r z i = ap (λ (k : ℕ). get_or (list_onto n f (f n ∷ r)) k z) (suc-over n i) ∙ list-past n f (f n ∷ r) z (suc i)

list-onto : {A : Type 0} (n : ℕ) (f : ℕ → A) (r : List A) (z : A) (e : ℕ) → e < n → get_or (list_onto n f r) e z ≡ f e
unfolding list_onto
list-onto zero f r z e h = absurd (not-suc-le-zero h)
list-onto (suc n) f r z e h =
    ⊎_elim (λ p. ap (λ (k : ℕ). get_or (list_onto n f (f n ∷ r)) k z) (p ∙ sym (add-zero n)) ∙ list-past n f (f n ∷ r) z 0 ∙ ap f (sym p))
    (λ l. list-onto n f (f n ∷ r) z e l) (less-cases h)

onto-length : {A : Type 0} (n : ℕ) (f : ℕ → A) (r : List A) → length (list_onto n f r) ≡ n + length r
unfolding list_onto
onto-length zero f r = sym (zero-add (length r))
onto-length (suc n) f r = onto-length n f (f n ∷ r) ∙ sym (suc-over n (length r))

pub list_length : {A : Type 0} (n : ℕ) (f : ℕ → A) → length (list_below n f) ≡ n
list_length n f = onto-length n f [] ∙ add-zero n

pub list_at : {A : Type 0} (n : ℕ) (f : ℕ → A) (z : A) (e : ℕ) → e < n → get_or (list_below n f) e z ≡ f e
list_at n f z e h = list-onto n f [] z e h

list-behind : {A : Type 0} (n : ℕ) (f : ℕ → A) (r : List A) → list_onto n f r ≡ list_below n f ++ r
unfolding list_onto
list-behind zero f r = refl
list-behind (suc n) f r =
    list-behind n f (f n ∷ r) ∙ sym (append_assoc (list_below n f) (f n ∷ []) r) ∙ ap (λ t. t ++ r) (sym (list-behind n f (f n ∷ [])))

pub list-more : {A : Type 0} (n : ℕ) (f : ℕ → A) → list_below (suc n) f ≡ list_below n f ++ (f n ∷ [])
unfolding list_onto
list-more n f = list-behind n f (f n ∷ [])

-- ---- a list of z's with one v
pub one_at : {A : Type 0} (n d : ℕ) (v z : A) → d < n → get_or (set (replicate n z) d v) d z ≡ v
one_at n d v z h = get_or-set_same (replicate n z) d v z (rw length-replicate h)

pub one-off : {A : Type 0} (n d e : ℕ) (v z : A) → (e ≡ d → ⊥) → get_or (set (replicate n z) d v) e z ≡ z
one-off n d e v z ne = get_or-set_other (replicate n z) d e v z ne ∙ none n e
  where
    none : (n e : ℕ) → get_or (replicate n z) e z ≡ z
    none zero e = refl
    none (suc n) zero = refl
    none (suc n) (suc e) = none n e
