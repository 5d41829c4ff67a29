-- The order of heights, and lists that ascend by any order.
--     Z-order          the order of ℤ
--     le_not, le_in, le_out, le_same          le_z is the negation of lt_z turned round
--     flipped, asym, le-lt, lt-le, le-le      laws of any order; x ≤ y is told as lt y x ≡ false
--     above-mem, above-all        what is below all of a list is below each member, and the converse
--     append-ascends, only-ascends, join-ascends, join-of-ascends     lists made from ascending ones
--     above-trans, least                      what lies above a member
--     ascends-ext      two ascending lists with the same members are equal, for any test that goes one way
--     ascends-sub      an ascending list whose members are all in another ascending list is no longer than it
use Rattle.std.proofs.Common.{◌≡◌, ℕ, zero, suc, ◌<◌, ◌≤◌, Bool, true, false, not, ltb, leb, List, [], ◌∷◌, ◌++◌, length, ℤ, pos, negsuc, sym, refl, ap, ◌∙◌, subst, ⊎_elim, true≢false, suc-le-suc, zero-le, le_refl, le_antisymm, arith, ltb-false, ltb-true, le-ltb, lt-ltb, le-leb}
use mathlib.Core.Bool.{false≢true}
use mathlib.Core.List.Memᴰ
use borrow.Author.Tests.{lt-leb}
use lib.Signed.{lt_z, le_z}
use Rattle.paper.specs.Below.{join_below, join_of, only}
use Rattle.theory.specs.Member.{◌∈◌}
use Rattle.theory.specs.Ascending.{Order, Above, Ascends}
use Rattle.theory.proofs.Bool.{clash, not-true, decided, off}
use Rattle.theory.proofs.Member.{join-out, join-of-out}

-- ---- ℤ
pub Z-order : Order lt_z
Z-order = record { irrefl = irr; trans = tr; tri = tri }
  where
    irr : (x : ℤ) → lt_z x x ≡ false
    irr (pos a) = le-ltb a a (le_refl a)
    irr (negsuc a) = le-ltb a a (le_refl a)

    tr : (x y z : ℤ) → lt_z x y ≡ true → lt_z y z ≡ true → lt_z x z ≡ true
    tr (pos a) (pos b) (pos c) p q = let h = ltb-true a b p in let k = ltb-true b c q in lt-ltb a c (omega arith)
    tr (pos a) (pos b) (negsuc c) p q = q
    tr (pos a) (negsuc b) z p q = absurd (false≢true p)
    tr (negsuc a) (pos b) (pos c) p q = refl
    tr (negsuc a) (pos b) (negsuc c) p q = absurd (false≢true q)
    tr (negsuc a) (negsuc b) (pos c) p q = refl
    tr (negsuc a) (negsuc b) (negsuc c) p q = let h = ltb-true b a p in let k = ltb-true c b q in lt-ltb c a (omega arith)

    tri : (x y : ℤ) → lt_z x y ≡ false → lt_z y x ≡ false → x ≡ y
    tri (pos a) (pos b) p q = ap pos (le_antisymm (ltb-false b a q) (ltb-false a b p))
    tri (pos a) (negsuc b) p q = absurd (true≢false q)
    tri (negsuc a) (pos b) p q = absurd (true≢false p)
    tri (negsuc a) (negsuc b) p q = ap negsuc (le_antisymm (ltb-false b a p) (ltb-false a b q))

turned : (a b : ℕ) → leb a b ≡ not (ltb b a)
turned a b = ⊎_elim (λ e. lt-leb a b (ltb-true b a e) ∙ sym (ap not e)) (λ e. le-leb a b (ltb-false b a e) ∙ sym (ap not e)) (decided (ltb b a))

pub le_not : (x y : ℤ) → le_z x y ≡ not (lt_z y x)
le_not (pos a) (pos b) = turned a b
le_not (pos a) (negsuc b) = refl
le_not (negsuc a) (pos b) = refl
le_not (negsuc a) (negsuc b) = turned b a

pub le_in : (x y : ℤ) → lt_z y x ≡ false → le_z x y ≡ true
le_in x y p = le_not x y ∙ ap not p

pub le_out : (x y : ℤ) → le_z x y ≡ true → lt_z y x ≡ false
le_out x y p = off (lt_z y x) (sym (le_not x y) ∙ p)

pub le_same : (x : ℤ) → le_z x x ≡ true
le_same x = le_in x x (Z-order.irrefl x)

-- ---- ascending lists, by any test
module _ {A : Type 0} (lt : A → A → Bool) where
  pub above-mem : (x b : A) (l : List A) → Above lt x l → b ∈ l → lt x b ≡ true
  above-mem x b [] a h = absurd (Memᴰ.not-nil h)
  above-mem x b (y ∷ l) a h = ⊎_elim (λ (e : b ≡ y). subst (λ (z : A). lt x z ≡ true) (sym e) a.0) (λ u. above-mem x b l a.1 u) (Memᴰ.cases_cons h)

  pub above-all : (x : A) (l : List A) → ((y : A) → y ∈ l → lt x y ≡ true) → Above lt x l
  above-all x [] f = tt
  above-all x (y ∷ l) f = (f y (Memᴰ.head refl), above-all x l (λ z h. f z (Memᴰ.tail h)))

  pub append-ascends : (a b : List A) → Ascends lt a → Ascends lt b → ((x y : A) → x ∈ a → y ∈ b → lt x y ≡ true) → Ascends lt (a ++ b)
  append-ascends [] b s r f = r
  append-ascends (x ∷ a) b s r f = (
    above-all x (a ++ b) (λ y h. ⊎_elim (above-mem x y a s.0) (f x y (Memᴰ.head refl)) (Memᴰ.append_cases a h)),
    append-ascends a b s.1 r (λ z y h k. f z y (Memᴰ.tail h) k),
  )

  pub only-ascends : (b : Bool) (x : A) → Ascends lt (only b x)
  unfolding only
  only-ascends true x = (tt, tt)
  only-ascends false x = tt

  pub join-ascends : (n : ℕ) (f : ℕ → List A) → ((i : ℕ) → i < n → Ascends lt (f i))
      → ((i j : ℕ) (x y : A) → i < j → j < n → x ∈ f i → y ∈ f j → lt x y ≡ true) → Ascends lt (join_below n f)
  unfolding join_below
  join-ascends zero f s g = tt
  join-ascends (suc n) f s g =
      append-ascends (join_below n f) (f n) (join-ascends n f (λ i h. s i (omega arith)) (λ i j x y l h. g i j x y l (omega arith))) (s n (le_refl (suc n)))
      (λ x y h k. let r = join-out n f h in g r.0 n x y r.1 (le_refl (suc n)) r.2 k)

pub join-of-ascends : {A B : Type 0} (lt : A → A → Bool) (lo : B → B → Bool) (l : List B) (f : B → List A) → Ascends lo l → ((b : B) → Ascends lt (f b))
    → ((b c : B) (x y : A) → lo b c ≡ true → x ∈ f b → y ∈ f c → lt x y ≡ true) → Ascends lt (join_of l f)
unfolding join_of
join-of-ascends lt lo [] f s q g = tt
join-of-ascends lt lo (b ∷ l) f s q g =
    append-ascends lt (f b) (join_of l f) (q b) (join-of-ascends lt lo l f s.1 q g)
    (λ x y h k. let r = join-of-out l f k in g b r.0 x y (above-mem lo b r.0 l s.0 r.1) h r.2)

-- ---- ascending lists, by a test that goes one way
module _ {A : Type 0} (lt : A → A → Bool) (one_way : (x y : A) → lt x y ≡ true → lt y x ≡ false) where
  -- a member of the rest is none of the first
  later : (x b : A) (l m : List A) → Ascends lt (x ∷ l) → b ∈ l → b ∈ x ∷ m → b ∈ m
  later x b l m s h k = ⊎_elim
      (λ (e : b ≡ x). let u = subst (λ (z : A). lt x z ≡ true) e (above-mem lt x b l s.0 h) in absurd (clash u (one_way x x u))) (λ u. u)
      (Memᴰ.cases_cons k)

  pub ascends-ext : (l l' : List A) → Ascends lt l → Ascends lt l' → ((b : A) → b ∈ l → b ∈ l') → ((b : A) → b ∈ l' → b ∈ l) → l ≡ l'
  ascends-ext [] [] s s' f g = refl
  ascends-ext [] (y ∷ l') s s' f g = absurd (Memᴰ.not-nil (g y (Memᴰ.head refl)))
  ascends-ext (x ∷ l) [] s s' f g = absurd (Memᴰ.not-nil (f x (Memᴰ.head refl)))
  ascends-ext (x ∷ l) (y ∷ l') s s' f g =
      λ i. heads i ∷ ascends-ext l l' s.1 s'.1
      (λ b h. later x b l l' s h (subst (λ (z : A). b ∈ z ∷ l') (sym heads) (f b (Memᴰ.tail h))))
      (λ b h. later y b l' l s' h (subst (λ (z : A). b ∈ z ∷ l) heads (g b (Memᴰ.tail h))))
      i
    where
      heads : x ≡ y
      heads = ⊎_elim (λ e. e)
          (λ v. ⊎_elim (λ (e : y ≡ x). sym e) (λ u. absurd (clash (above-mem lt y x l' s'.0 v) (one_way x y (above-mem lt x y l s.0 u))))
          (Memᴰ.cases_cons (g y (Memᴰ.head refl))))
          (Memᴰ.cases_cons (f x (Memᴰ.head refl)))

-- ---- any order
module _ {A : Type 0} (lt : A → A → Bool) (O : Order lt) where
  pub flipped : Order (λ x y. lt y x)
  flipped = record { irrefl = O.irrefl; trans = λ x y z p q. O.trans z y x q p; tri = λ x y p q. O.tri x y q p }

  pub asym : (x y : A) → lt x y ≡ true → lt y x ≡ false
  asym x y p = not-true (lt y x) (λ q. clash (O.trans x y x p q) (O.irrefl x))

  pub le-lt : (x y z : A) → lt y x ≡ false → lt y z ≡ true → lt x z ≡ true
  le-lt x y z p q = ⊎_elim (λ u. O.trans x y z u q) (λ u. subst (λ w. lt w z ≡ true) (O.tri y x p u) q) (decided (lt x y))

  pub lt-le : (x y z : A) → lt x y ≡ true → lt z y ≡ false → lt x z ≡ true
  lt-le x y z p q = ⊎_elim (λ u. O.trans x y z p u) (λ u. subst (λ w. lt x w ≡ true) (O.tri y z u q) p) (decided (lt y z))

  pub le-le : (x y z : A) → lt y x ≡ false → lt z y ≡ false → lt z x ≡ false
  le-le x y z p q = not-true (lt z x) (λ u. clash (lt-le z x y u p) q)

  -- ---- ascending lists
  pub above-trans : (x y : A) (l : List A) → lt x y ≡ true → Above lt y l → Above lt x l
  above-trans x y [] h a = tt
  above-trans x y (z ∷ l) h a = (O.trans x y z h a.0, above-trans x y l h a.1)

  -- the first member is below every member or equal to it
  pub least : (x b : A) (l : List A) → Ascends lt (x ∷ l) → b ∈ x ∷ l → lt b x ≡ false
  least x b l s h =
      ⊎_elim (λ (e : b ≡ x). subst (λ (z : A). lt z x ≡ false) (sym e) (O.irrefl x)) (λ u. asym x b (above-mem lt x b l s.0 u)) (Memᴰ.cases_cons h)

  pub ascends-sub : (l c : List A) → Ascends lt l → Ascends lt c → ((t : A) → t ∈ l → t ∈ c) → length l ≤ length c
  ascends-sub [] c s q f = zero-le
  ascends-sub (x ∷ l) [] s q f = absurd (Memᴰ.not-nil (f x (Memᴰ.head refl)))
  ascends-sub (x ∷ l) (y ∷ c) s q f = ⊎_elim
      (λ (e : x ≡ y). suc-le-suc (ascends-sub l c s.1 q.1 (λ t h. later lt asym x t l c s h (subst (λ (z : A). t ∈ z ∷ c) (sym e) (f t (Memᴰ.tail h))))))
      (λ u. let n = ascends-sub (x ∷ l) c s q.1 (rest (above-mem lt y x c q.0 u)) in omega arith)
      (Memᴰ.cases_cons (f x (Memᴰ.head refl)))
    where
      -- y is below x, so it is none of x ∷ l
      rest : lt y x ≡ true → (t : A) → t ∈ x ∷ l → t ∈ c
      rest yx t h =
          ⊎_elim (λ (e : t ≡ y). absurd (clash yx (subst (λ (z : A). lt z x ≡ false) e (least x t l s h)))) (λ w. w) (Memᴰ.cases_cons (f t h))
