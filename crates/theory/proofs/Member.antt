-- Members of lists, and the tests and lists made from members.
--     any-of-in, any-of-out, any-of-same      any_of
--     only-in, only_out, cond-in, cond-out    a member or a list where a test passes, else none
--     join-in, join-out                       join_below
--     join-of-in, join-of-out                 join_of
--     nth_in                                  what stands in a list is a member
--     map-in                                  map
--     end-in, end-out                         is_end
use Rattle.std.proofs.Common.{◌≡◌, ℕ, zero, suc, ◌<◌, Bool, true, false, cond, ◌||◌, List, [], ◌∷◌, map, length, get_or, ℤ, sym, refl, ap, subst, ⊎_elim, le_refl, le_of_suc-le-suc, not-suc-le-zero, arith}
use mathlib.Core.Bool.{false≢true}
use mathlib.Core.List.Memᴰ
use Rattle.paper.specs.Below.{join_below, any_of, join_of, only}
use Rattle.paper.specs.Map.{eq_z}
use Rattle.paper.specs.Ends.{is_end}
use Rattle.paper.proofs.Same.{same-ℤ, same-ℤ-refl}
use Rattle.theory.specs.Member.{◌∈◌}
use Rattle.theory.proofs.Bool.{or_case, or_left, or_right, T-eq, eq-T}
use Rattle.theory.proofs.Below.{less-cases}

module _ {A : Type 0} where
  -- ---- a test of the members
  pub any-of-in : (p : A → Bool) (l : List A) (x : A) → x ∈ l → p x ≡ true → any_of p l ≡ true
  unfolding any_of
  any-of-in p [] x h t = absurd (Memᴰ.not-nil h)
  any-of-in p (y ∷ l) x h t =
      ⊎_elim (λ e. or_left (p y) (any_of p l) (subst (λ (z : A). p z ≡ true) e t)) (λ u. or_right (p y) (any_of p l) (any-of-in p l x u t)) (Memᴰ.cases_cons h)

  pub any-of-out : (p : A → Bool) (l : List A) → any_of p l ≡ true → (x : A) × (x ∈ l) × (p x ≡ true)
  unfolding any_of
  any-of-out p [] t = absurd (false≢true t)
  any-of-out p (y ∷ l) t =
      ⊎_elim (λ e. (y, Memᴰ.head refl, e)) (λ e. let r = any-of-out p l e in (r.0, Memᴰ.tail r.1, r.2)) (or_case (p y) (any_of p l) t)

  pub any-of-same : (p q : A → Bool) (l : List A) → ((x : A) → x ∈ l → p x ≡ q x) → any_of p l ≡ any_of q l
  unfolding any_of
  any-of-same p q [] e = refl
  any-of-same p q (y ∷ l) e = λ i. e y (Memᴰ.head refl) i || any-of-same p q l (λ x h. e x (Memᴰ.tail h)) i

  -- ---- a list of one or none
  pub only-in : (b : Bool) (x : A) → b ≡ true → x ∈ only b x
  unfolding only
  only-in true x t = Memᴰ.head refl
  only-in false x t = absurd (false≢true t)

  pub only_out : (b : Bool) (x y : A) → y ∈ only b x → (y ≡ x) × (b ≡ true)
  unfolding only
  only_out true x y h = (Memᴰ.eq_of_singleton h, refl)
  only_out false x y h = absurd (Memᴰ.not-nil h)

  -- ---- a list, or none
  pub cond-in : (b : Bool) (l : List A) {x : A} → b ≡ true → x ∈ l → x ∈ cond b l []
  cond-in true l t h = h
  cond-in false l t h = absurd (false≢true t)

  pub cond-out : (b : Bool) (l : List A) {x : A} → x ∈ cond b l [] → (b ≡ true) × (x ∈ l)
  cond-out true l h = (refl, h)
  cond-out false l h = absurd (Memᴰ.not-nil h)

  -- ---- joined lists
  pub join-in : (n : ℕ) (f : ℕ → List A) (d : ℕ) {x : A} → d < n → x ∈ f d → x ∈ join_below n f
  unfolding join_below
  join-in zero f d h w = absurd (not-suc-le-zero h)
  join-in (suc n) f d {x} h w =
      ⊎_elim (λ e. Memᴰ.append_right (join_below n f) (subst (λ (k : ℕ). x ∈ f k) e w)) (λ l. Memᴰ.append_left (f n) (join-in n f d l w)) (less-cases h)

  pub join-out : (n : ℕ) (f : ℕ → List A) {x : A} → x ∈ join_below n f → (d : ℕ) × (d < n) × (x ∈ f d)
  unfolding join_below
  join-out zero f w = absurd (Memᴰ.not-nil w)
  join-out (suc n) f w =
      ⊎_elim (λ u. let r = join-out n f u in let l = r.1 in (r.0, omega arith, r.2)) (λ u. (n, le_refl (suc n), u)) (Memᴰ.append_cases (join_below n f) w)

  pub join-of-in : {B : Type 0} (l : List B) (f : B → List A) {b : B} {x : A} → b ∈ l → x ∈ f b → x ∈ join_of l f
  unfolding join_of
  join-of-in [] f h w = absurd (Memᴰ.not-nil h)
  join-of-in {B = B} (c ∷ l) f {b} {x} h w =
      ⊎_elim (λ (e : b ≡ c). Memᴰ.append_left (join_of l f) (subst (λ (z : B). x ∈ f z) e w)) (λ u. Memᴰ.append_right (f c) (join-of-in l f u w)) (Memᴰ.cases_cons h)

  pub join-of-out : {B : Type 0} (l : List B) (f : B → List A) {x : A} → x ∈ join_of l f → (b : B) × (b ∈ l) × (x ∈ f b)
  unfolding join_of
  join-of-out [] f w = absurd (Memᴰ.not-nil w)
  join-of-out (c ∷ l) f w =
      ⊎_elim (λ u. (c, Memᴰ.head refl, u)) (λ u. let r = join-of-out l f u in (r.0, Memᴰ.tail r.1, r.2)) (Memᴰ.append_cases (f c) w)

  -- ---- positions
  pub nth_in : (l : List A) (q : ℕ) (z : A) → q < length l → get_or l q z ∈ l
  nth_in [] q z h = absurd (not-suc-le-zero h)
  nth_in (x ∷ l) zero z h = Memᴰ.head refl
  nth_in (x ∷ l) (suc q) z h = Memᴰ.tail (nth_in l q z (le_of_suc-le-suc h))

  pub map-in : {B : Type 0} (f : A → B) (l : List A) {x : A} → x ∈ l → f x ∈ map f l
  map-in f [] h = absurd (Memᴰ.not-nil h)
  map-in f (y ∷ l) h = ⊎_elim (λ e. Memᴰ.head (ap f e)) (λ u. Memᴰ.tail (map-in f l u)) (Memᴰ.cases_cons h)

-- ---- heights
pub end-in : (l : List ℤ) (t : ℤ) → t ∈ l → is_end l t ≡ true
end-in l t h = any-of-in (eq_z t) l t h (T-eq (eq_z t t) (same-ℤ-refl t))

pub end-out : (l : List ℤ) (t : ℤ) → is_end l t ≡ true → t ∈ l
end-out l t e = let r = any-of-out (eq_z t) l e in subst (λ (z : ℤ). z ∈ l) (sym (same-ℤ t r.0 (eq-T r.2))) r.1
