-- Tests of equality: what passes one is equal, and what is equal passes.
--     both             two tests that pass together, one by one
--     same-..          x passes against y: they are equal
--     same-..-refl     x passes against itself
use Rattle.std.proofs.Common.{◌≡◌, Bool, true, false, ◌&&◌, T, eqb, List, [], ◌∷◌, ℤ, pos, negsuc, refl, ap, eqb→eq}
use mathlib.Core.Bool.{beq}
use lib.Dec.{eqb_refl}
use Rattle.paper.specs.Below.{same_list}
use Rattle.paper.specs.Map.{Span, Owned, eq_z, eq_span, eq_owned, eq_place, eq_row}
use Rattle.paper.specs.Lift.{Lifted, eq_lifted}

pub both : (a b : Bool) → T (a && b) → T a × T b
both true b t = (tt, t)
both false b t = absurd t

pub join : (a b : Bool) → T a → T b → T (a && b)
join true b s t = t
join false b s t = absurd s

pub same_bool : (a b : Bool) → T (beq a b) → a ≡ b
same_bool true true t = refl
same_bool true false t = absurd t
same_bool false true t = absurd t
same_bool false false t = refl

pub same-bool-refl : (a : Bool) → T (beq a a)
same-bool-refl true = tt
same-bool-refl false = tt

pub same-list : {A : Type 0} (same : A → A → Bool) → ((x y : A) → T (same x y) → x ≡ y) → (k l : List A) → T (same_list same k l) → k ≡ l
unfolding same_list
same-list same f [] [] t = refl
same-list same f [] (y ∷ l) t = absurd t
same-list same f (x ∷ k) [] t = absurd t
same-list same f (x ∷ k) (y ∷ l) t =
    let h = both (same x y) (same_list same k l) t in
    λ i. f x y h.0 i ∷ same-list same f k l h.1 i

pub same-list-refl : {A : Type 0} (same : A → A → Bool) → ((x : A) → T (same x x)) → (l : List A) → T (same_list same l l)
unfolding same_list
same-list-refl same f [] = tt
same-list-refl same f (x ∷ l) = join (same x x) (same_list same l l) (f x) (same-list-refl same f l)

pub same-ℤ : (x y : ℤ) → T (eq_z x y) → x ≡ y
same-ℤ (pos a) (pos b) t = ap pos (eqb→eq a b t)
same-ℤ (pos a) (negsuc b) t = absurd t
same-ℤ (negsuc a) (pos b) t = absurd t
same-ℤ (negsuc a) (negsuc b) t = ap negsuc (eqb→eq a b t)

pub same-ℤ-refl : (x : ℤ) → T (eq_z x x)
same-ℤ-refl (pos a) = eqb_refl a
same-ℤ-refl (negsuc a) = eqb_refl a

pub same_span : (x y : Span) → T (eq_span x y) → x ≡ y
same_span x y t =
    let h = both (eq_z x.lo y.lo) (eq_z x.hi y.hi) t in
    λ i. record { lo = same-ℤ x.lo y.lo h.0 i; hi = same-ℤ x.hi y.hi h.1 i }

pub same-span-refl : (x : Span) → T (eq_span x x)
same-span-refl x = join (eq_z x.lo x.lo) (eq_z x.hi x.hi) (same-ℤ-refl x.lo) (same-ℤ-refl x.hi)

pub same-owned : (x y : Owned) → T (eq_owned x y) → x ≡ y
same-owned x y t =
    let h = both (eq_span x.span y.span) (eq_z x.object y.object) t in
    λ i. record { span = same_span x.span y.span h.0 i; object = same-ℤ x.object y.object h.1 i }

pub same-owned-refl : (x : Owned) → T (eq_owned x x)
same-owned-refl x = join (eq_span x.span x.span) (eq_z x.object x.object) (same-span-refl x.span) (same-ℤ-refl x.object)

pub same_place : (p q : List ℤ) → T (eq_place p q) → p ≡ q
same_place p q t = same-list eq_z same-ℤ p q t

pub same-place-refl : (p : List ℤ) → T (eq_place p p)
same-place-refl p = same-list-refl eq_z same-ℤ-refl p

pub same_row : (r s : List Owned) → T (eq_row r s) → r ≡ s
same_row r s t = same-list eq_owned same-owned r s t

pub same-row-refl : (r : List Owned) → T (eq_row r r)
same-row-refl r = same-list-refl eq_owned same-owned-refl r

pub same-lifted : (x y : Lifted) → T (eq_lifted x y) → x ≡ y
same-lifted x y t =
    let h = both (eqb x.d y.d) (eqb x.k y.k && (eq_z x.t y.t && beq x.s y.s)) t in
    let g = both (eqb x.k y.k) (eq_z x.t y.t && beq x.s y.s) h.1 in
    let f = both (eq_z x.t y.t) (beq x.s y.s) g.1 in
    λ i. record {
      d = eqb→eq x.d y.d h.0 i;
      k = eqb→eq x.k y.k g.0 i;
      t = same-ℤ x.t y.t f.0 i;
      s = same_bool x.s y.s f.1 i;
    }

pub same-lifted-refl : (x : Lifted) → T (eq_lifted x x)
same-lifted-refl x =
    join (eqb x.d x.d) (eqb x.k x.k && (eq_z x.t x.t && beq x.s x.s)) (eqb_refl x.d)
    (join (eqb x.k x.k) (eq_z x.t x.t && beq x.s x.s) (eqb_refl x.k)
    (join (eq_z x.t x.t) (beq x.s x.s) (same-ℤ-refl x.t) (same-bool-refl x.s)))
