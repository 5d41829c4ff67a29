-- The list of lifted darts, and their numbers: the list ascends and holds each lifted dart once, so numbers and lifted darts are the same thing.
--     lifted-in, lifted-out     the members of the list are the lifted darts
--     lifted_of                  the lifted darts of a plan dart, level by level
--     lifted-ascends            it ascends by d, then k, then t, then down before up
--     at-member                 what stands in the list is a lifted dart
--     number_lt                 a lifted dart's number is below their number
--     number-at, at-number      the number of a lifted dart, and the lifted dart of a number: each undoes the other
--     number-block              a number is past the blocks of the darts before, past those of the levels before, and a position in its block
use Rattle.std.proofs.Common.{◌≡◌, ℕ, zero, suc, ◌+◌, ◌<◌, ◌≤◌, Bool, true, false, not, ◌&&◌, eqb, ltb, List, [], ◌∷◌, ◌++◌, length, get_or, ℤ, sym, refl, ap, ◌∙◌, subst, ⊎_elim, suc-le-suc, le_refl, le_of_suc-le-suc, not-suc-le-zero, zero-add, arith, le-ltb, lt-ltb, eq-eqb}
use mathlib.Core.List.Memᴰ
use lib.Signed.{lt_z}
use Rattle.paper.specs.Below.{join_below, only}
use Rattle.paper.specs.Map.{Map, count, row, eq_z}
use Rattle.paper.specs.Span.{covered}
use Rattle.paper.specs.Ends.{ends}
use Rattle.paper.specs.Lift.{Lifted, at, eq_lifted, lifted_at, lifted_darts, number_in}
use Rattle.paper.proofs.Same.{same-ℤ-refl, same-lifted, same-lifted-refl}
use Rattle.theory.specs.Member.{◌∈◌}
use Rattle.theory.specs.Ascending.{Ascends}
use Rattle.theory.specs.Cut.{cut_of}
use Rattle.theory.specs.Move.{Member, lt_lifted}
use Rattle.theory.proofs.Bool.{clash, not-true, T-eq, eq-T}
use Rattle.theory.proofs.Below.{less-cases}
use Rattle.theory.proofs.Member.{nth_in, only-in, only_out, join-in, join-out, join-of-in, join-of-out, end-in, end-out}
use Rattle.theory.proofs.Order.{Z-order, above-mem, append-ascends, only-ascends, join-ascends, join-of-ascends}

-- ---- equal by the test
same_in : (x : Lifted) → eq_lifted x x ≡ true
same_in x = T-eq (eq_lifted x x) (same-lifted-refl x)

same_out : (x y : Lifted) → eq_lifted x y ≡ true → x ≡ y
same_out x y e = same-lifted x y (eq-T e)

-- ---- one before the other, by what they differ in
lt-self : (n : ℕ) → ltb n n ≡ false
lt-self n = le-ltb n n (le_refl n)

eq_self : (n : ℕ) → eqb n n ≡ true
eq_self n = eq-eqb n n refl

by-d : (x y : Lifted) → x.d < y.d → lt_lifted x y ≡ true
by-d x y h = simp (lt-ltb x.d y.d h)

by-k : (d k n : ℕ) (t u : ℤ) (r s : Bool) → k < n → lt_lifted (at d k t r) (at d n u s) ≡ true
by-k d k n t u r s h = simp (lt-self d, eq_self d, lt-ltb k n h)

by-t : (d k : ℕ) (t u : ℤ) (r s : Bool) → lt_z t u ≡ true → lt_lifted (at d k t r) (at d k u s) ≡ true
by-t d k t u r s h = simp (lt-self d, eq_self d, lt-self k, eq_self k, h)

by-s : (d k : ℕ) (t : ℤ) (r s : Bool) → lt_lifted (at d k t r) (at d k t s) ≡ not r && s
by-s d k t r s = simp (lt-self d, eq_self d, lt-self k, eq_self k, Z-order.irrefl t, T-eq (eq_z t t) (same-ℤ-refl t))

lt_irrefl : (x : Lifted) → lt_lifted x x ≡ false
lt_irrefl x = by-s x.d x.k x.t x.s x.s ∙ go x.s
  where
    go : (b : Bool) → (not b && b) ≡ false
    go true = refl
    go false = refl

-- ---- positions in a list of lifted darts
-- a member other than the first is a member of the rest
later : (x y : Lifted) (l : List Lifted) → x ∈ y ∷ l → eq_lifted x y ≡ false → x ∈ l
later x y l h e = ⊎_elim (λ (q : x ≡ y). absurd (clash (subst (λ (z : Lifted). eq_lifted x z ≡ true) q (same_in x)) e)) (λ u. u) (Memᴰ.cases_cons h)

number-in : (x : Lifted) (l : List Lifted) (z : Lifted) → x ∈ l → (number_in l x < length l) × (get_or l (number_in l x) z ≡ x)
unfolding number_in
number-in x [] z h = absurd (Memᴰ.not-nil h)
number-in x (y ∷ l) z h = go (eq_lifted x y) refl (number-in x l z)
  where
    go : (b : Bool) → eq_lifted x y ≡ b → (x ∈ l → (number_in l x < length l) × (get_or l (number_in l x) z ≡ x))
        → (elim b as (λ z. ℕ) [ true ↦ 0 | false ↦ suc (number_in l x) ] < suc (length l))
        × (get_or (y ∷ l) (elim b as (λ z. ℕ) [ true ↦ 0 | false ↦ suc (number_in l x) ]) z ≡ x)
    go true e f = (omega arith, sym (same_out x y e))
    go false e f = let r = f (later x y l h e) in (suc-le-suc r.0, r.1)

number-nth : (l : List Lifted) (q : ℕ) (z : Lifted) → Ascends lt_lifted l → q < length l → number_in l (get_or l q z) ≡ q
unfolding number_in
number-nth [] q z s h = absurd (not-suc-le-zero h)
number-nth (x ∷ l) zero z s h = rw (same_in x, number_in) refl
number-nth (x ∷ l) (suc q) z s h =
    rw (differ (get_or l q z) (above-mem lt_lifted x (get_or l q z) l s.0 (nth_in l q z (le_of_suc-le-suc h))), number_in)
    (ap suc (number-nth l q z s.1 (le_of_suc-le-suc h)))
  where
    differ : (y : Lifted) → lt_lifted x y ≡ true → eq_lifted y x ≡ false
    differ y e = not-true (eq_lifted y x) (λ p. clash (subst (λ (z : Lifted). lt_lifted x z ≡ true) (same_out y x p) e) (lt_irrefl x))

number-left : (x : Lifted) (a b : List Lifted) → x ∈ a → number_in (a ++ b) x ≡ number_in a x
unfolding number_in
number-left x [] b h = absurd (Memᴰ.not-nil h)
number-left x (y ∷ a) b h = go (eq_lifted x y) refl (number-left x a b)
  where
    go : (c : Bool) → eq_lifted x y ≡ c → (x ∈ a → number_in (a ++ b) x ≡ number_in a x)
        → ◌≡◌ {A = ℕ} (elim c [ true ↦ 0 | false ↦ suc (number_in (a ++ b) x) ]) (elim c [ true ↦ 0 | false ↦ suc (number_in a x) ])
    go true e f = refl
    go false e f = ap suc (f (later x y a h e))

number-right : (x : Lifted) (a b : List Lifted) → (x ∈ a → ⊥) → number_in (a ++ b) x ≡ length a + number_in b x
unfolding number_in
number-right x [] b h = sym (zero-add (number_in b x))
number-right x (y ∷ a) b h = go (eq_lifted x y) refl (number-right x a b (λ u. h (Memᴰ.tail u)))
  where
    go : (c : Bool) → eq_lifted x y ≡ c → number_in (a ++ b) x ≡ length a + number_in b x
        → elim c as (λ z. ℕ) [ true ↦ 0 | false ↦ suc (number_in (a ++ b) x) ] ≡ suc (length a) + number_in b x
    go true e i = absurd (h (Memᴰ.head (same_out x y e)))
    go false e i = omega arith

-- x stands in block d only: its number is past the blocks before, and its position there
number-join : (n : ℕ) (f : ℕ → List Lifted) (d : ℕ) (x : Lifted) → d < n → x ∈ f d → ((i : ℕ) → x ∈ f i → i ≡ d)
    → number_in (join_below n f) x ≡ length (join_below d f) + number_in (f d) x
unfolding join_below
number-join zero f d x h w u = absurd (not-suc-le-zero h)
number-join (suc n) f d x h w u = ⊎_elim
    (λ (e : d ≡ n). subst (λ (j : ℕ). number_in (join_below n f ++ f n) x ≡ length (join_below j f) + number_in (f j) x) (sym e)
    (number-right x (join_below n f) (f n) (λ z. let r = join-out n f z in let l = r.1 in let q = u r.0 r.2 in omega arith)))
    (λ l. number-left x (join_below n f) (f n) (join-in n f d l w) ∙ number-join n f d x l w u)
    (less-cases h)

-- ---- the lifted darts of a map
module _ (M : Map) where
  -- those at one height
  abbrev side : ℕ → ℕ → ℤ → Bool → List Lifted
  side d k t s = only (covered (row M d) t s) (at d k t s)

  abbrev sides : ℕ → ℕ → ℤ → List Lifted
  sides d k t = side d k t false ++ side d k t true

  sides-in : (d k : ℕ) (t : ℤ) (s : Bool) → covered (row M d) t s ≡ true → at d k t s ∈ sides d k t
  sides-in d k t true e = Memᴰ.append_right (side d k t false) (only-in (covered (row M d) t true) (at d k t true) e)
  sides-in d k t false e = Memᴰ.append_left (side d k t true) (only-in (covered (row M d) t false) (at d k t false) e)

  side-out : (d k : ℕ) (t : ℤ) (s : Bool) (x : Lifted) → x ∈ side d k t s → (x ≡ at d k t s) × (covered (row M d) t s ≡ true)
  side-out d k t s x h = only_out (covered (row M d) t s) (at d k t s) x h

  sides-out : (d k : ℕ) (t : ℤ) (x : Lifted) → x ∈ sides d k t → (x ≡ at d k t x.s) × (covered (row M d) t x.s ≡ true)
  sides-out d k t x h =
      ⊎_elim (λ u. go false (side-out d k t false x u)) (λ u. go true (side-out d k t true x u)) (Memᴰ.append_cases (side d k t false) h)
    where
      go : (s : Bool) → (x ≡ at d k t s) × (covered (row M d) t s ≡ true) → (x ≡ at d k t x.s) × (covered (row M d) t x.s ≡ true)
      go s r = subst (λ (y : Lifted). (y ≡ at d k t y.s) × (covered (row M d) t y.s ≡ true)) (sym r.0) (refl, r.1)

  sides-ascends : (d k : ℕ) (t : ℤ) → Ascends lt_lifted (sides d k t)
  sides-ascends d k t = append-ascends lt_lifted (side d k t false) (side d k t true)
      (only-ascends lt_lifted (covered (row M d) t false) (at d k t false)) (only-ascends lt_lifted (covered (row M d) t true) (at d k t true))
      (λ x y h w. rw ((side-out d k t false x h).0, (side-out d k t true y w).0) (by-s d k t false true))

  -- those of a dart at a level
  level_in : (x : Lifted) → x.t ∈ ends M x.k x.d → covered (row M x.d) x.t x.s ≡ true → x ∈ lifted_at M x.d x.k
  unfolding lifted_at
  level_in x e c = join-of-in (ends M x.k x.d) (sides x.d x.k) e (sides-in x.d x.k x.t x.s c)

  level_out : (d k : ℕ) (x : Lifted) → x ∈ lifted_at M d k → (x ≡ at d k x.t x.s) × (x.t ∈ ends M k d) × (covered (row M d) x.t x.s ≡ true)
  unfolding lifted_at
  level_out d k x h =
      let r = join-of-out (ends M k d) (sides d k) h in
      let q = sides-out d k r.0 x r.2 in
      let e : x.t ≡ r.0 = ap (λ (y : Lifted). y.t) q.0 in
      subst (λ (t : ℤ). (x ≡ at d k t x.s) × (t ∈ ends M k d) × (covered (row M d) t x.s ≡ true)) (sym e) (q.0, r.1, q.1)

  level-ascends : (d k : ℕ) → Ascends lt_z (ends M k d) → Ascends lt_lifted (lifted_at M d k)
  unfolding lifted_at
  level-ascends d k s = join-of-ascends lt_lifted lt_z (ends M k d) (sides d k) s (sides-ascends d k)
      (λ t u x y e h w. rw ((sides-out d k t x h).0, (sides-out d k u y w).0) (by-t d k t u x.s y.s e))

  -- those of a dart
  abbrev pub lifted_of : ℕ → List Lifted
  lifted_of d = join_below (suc M.dim) (λ k. lifted_at M d k)

  of-in : (x : Lifted) → Member (cut_of M) x → x ∈ lifted_of x.d
  of-in x X = join-in (suc M.dim) (λ k. lifted_at M x.d k) x.k (suc-le-suc X.level) (level_in x (end-out (ends M x.k x.d) x.t X.end) X.side)

  of-out : (d : ℕ) (x : Lifted) → x ∈ lifted_of d → (k : ℕ) × (k < suc M.dim) × (x ∈ lifted_at M d k)
  of-out d x h = join-out (suc M.dim) (λ k. lifted_at M d k) h

  of-dart : (d : ℕ) (x : Lifted) → x ∈ lifted_of d → x.d ≡ d
  of-dart d x h = let r = of-out d x h in ap (λ (y : Lifted). y.d) (level_out d r.0 x r.2).0

  -- ---- the members of the list are the lifted darts
  pub lifted-in : (x : Lifted) → Member (cut_of M) x → x ∈ lifted_darts M
  unfolding lifted_darts
  lifted-in x X = join-in (count M) lifted_of x.d X.dart (of-in x X)

  pub lifted-out : (x : Lifted) → x ∈ lifted_darts M → Member (cut_of M) x
  unfolding lifted_darts
  lifted-out x h =
      let r = join-out (count M) lifted_of h in
      let q = of-out r.0 x r.2 in
      let p = level_out r.0 q.0 x q.2 in
      subst (λ (y : Lifted). Member (cut_of M) y) (sym p.0)
      (record { dart = r.1; level = le_of_suc-le-suc q.1; end = end-in (ends M q.0 r.0) x.t p.1; side = p.2 })

  pub at-member : (q : ℕ) (z : Lifted) → q < length (lifted_darts M) → Member (cut_of M) (get_or (lifted_darts M) q z)
  at-member q z h = lifted-out (get_or (lifted_darts M) q z) (nth_in (lifted_darts M) q z h)

  -- ---- their numbers
  pub number_lt : (x : Lifted) → Member (cut_of M) x → number_in (lifted_darts M) x < length (lifted_darts M)
  number_lt x X = (number-in x (lifted_darts M) x (lifted-in x X)).0

  pub number-at : (x z : Lifted) → Member (cut_of M) x → get_or (lifted_darts M) (number_in (lifted_darts M) x) z ≡ x
  number-at x z X = (number-in x (lifted_darts M) z (lifted-in x X)).1

  pub number-block : (x : Lifted) → Member (cut_of M) x
      → number_in (lifted_darts M) x
      ≡ length (join_below x.d lifted_of) + (length (join_below x.k (λ k. lifted_at M x.d k)) + number_in (lifted_at M x.d x.k) x)
  unfolding lifted_darts
  number-block x X =
      number-join (count M) lifted_of x.d x X.dart (of-in x X) (λ i h. sym (of-dart i x h))
      ∙ ap (λ (n : ℕ). length (join_below x.d lifted_of) + n)
      (number-join (suc M.dim) (λ k. lifted_at M x.d k) x.k x (suc-le-suc X.level)
      (level_in x (end-out (ends M x.k x.d) x.t X.end) X.side)
      (λ i h. sym (ap (λ (y : Lifted). y.k) (level_out x.d i x h).0)))

  module _ (asc : (k d : ℕ) → k ≤ M.dim → d < count M → Ascends lt_z (ends M k d)) where
    of-ascends : (d : ℕ) → d < count M → Ascends lt_lifted (lifted_of d)
    of-ascends d h = join-ascends lt_lifted (suc M.dim) (λ k. lifted_at M d k) (λ k l. level-ascends d k (asc k d (le_of_suc-le-suc l) h))
        (λ i j x y l g u w. rw ((level_out d i x u).0, (level_out d j y w).0) (by-k d i j x.t y.t x.s y.s l))

    pub lifted-ascends : Ascends lt_lifted (lifted_darts M)
    unfolding lifted_darts
    lifted-ascends = join-ascends lt_lifted (count M) lifted_of of-ascends
        (λ i j x y l g u w. by-d x y (rw (of-dart i x u, of-dart j y w) l))

    pub at-number : (q : ℕ) (z : Lifted) → q < length (lifted_darts M) → number_in (lifted_darts M) (get_or (lifted_darts M) q z) ≡ q
    at-number q z h = number-nth (lifted_darts M) q z lifted-ascends h
