-- Ascending lists of heights by their members, and the four kinds of step of a join.
--     ascending-same   lists with the same members have the same heights in order
--     ascending-first  a height below all others comes first
--     ascending-long   a list that has all members of another has no fewer heights
--     ascending-some   a list that has a member has a height
--     step_left, step_right, step_both, step-twin      A is what is left of the ends gathered, R of the row
use Rattle.std.proofs.Common.{◌≡◌, ◌<◌, ◌≤◌, true, ◌⊎◌, List, [], ◌∷◌, ◌++◌, length, ℤ, ◌∙◌, inl, inr, ⊎_elim, arith}
use mathlib.Core.List.Memᴰ
use lib.Signed.{lt_z}
use Rattle.paper.specs.Ends.{ascending}
use Rattle.theory.specs.Member.{◌∈◌}
use Rattle.theory.specs.Ascending.{Above}
use Rattle.theory.proofs.Order.{Z-order, asym, above-all, above-mem, ascends-ext, ascends-sub}
use Rattle.theory.proofs.Ascending.{ascending-ascends, ascending-in, ascending-out}

pub ascending-same : (l m : List ℤ) → ((b : ℤ) → b ∈ l → b ∈ m) → ((b : ℤ) → b ∈ m → b ∈ l) → ascending l ≡ ascending m
ascending-same l m f g =
    ascends-ext lt_z (asym lt_z Z-order) (ascending l) (ascending m) (ascending-ascends l) (ascending-ascends m)
    (λ b h. ascending-in b m (f b (ascending-out b l h))) (λ b h. ascending-in b l (g b (ascending-out b m h)))

pub ascending-first : (x : ℤ) (l m : List ℤ) → ((b : ℤ) → b ∈ m → lt_z x b ≡ true)
    → ((b : ℤ) → b ∈ l → (b ≡ x) ⊎ (b ∈ m)) → ((b : ℤ) → (b ≡ x) ⊎ (b ∈ m) → b ∈ l)
    → ascending l ≡ x ∷ ascending m
ascending-first x l m low f g =
    ascends-ext lt_z (asym lt_z Z-order) (ascending l) (x ∷ ascending m) (ascending-ascends l)
    (above-all lt_z x (ascending m) (λ b h. low b (ascending-out b m h)), ascending-ascends m)
    (λ b h. ⊎_elim (λ e. Memᴰ.head e) (λ u. Memᴰ.tail (ascending-in b m u)) (f b (ascending-out b l h)))
    (λ b h. ascending-in b l (g b (⊎_elim (λ e. inl e) (λ u. inr (ascending-out b m u)) (Memᴰ.cases_cons h))))

pub ascending-long : (l m : List ℤ) → ((b : ℤ) → b ∈ l → b ∈ m) → length (ascending l) ≤ length (ascending m)
ascending-long l m f =
    ascends-sub lt_z Z-order (ascending l) (ascending m) (ascending-ascends l) (ascending-ascends m) (λ b h. ascending-in b m (f b (ascending-out b l h)))

pub ascending-some : (x : ℤ) (l : List ℤ) → x ∈ l → 0 < length (ascending l)
ascending-some x l h = go (ascending l) (ascending-in x l h)
  where
    go : (m : List ℤ) → x ∈ m → 0 < length m
    go [] k = absurd (Memᴰ.not-nil k)
    go (y ∷ m) k = omega arith

-- ---- steps
both-above : (x : ℤ) (R A : List ℤ) → Above lt_z x R → Above lt_z x A → (b : ℤ) → b ∈ R ++ A → lt_z x b ≡ true
both-above x R A r a b h = ⊎_elim (above-mem lt_z x b R r) (above-mem lt_z x b A a) (Memᴰ.append_cases R h)

-- the least of both stands among the ends gathered alone
pub step_left : (x : ℤ) (R A : List ℤ) → Above lt_z x R → Above lt_z x A → ascending (R ++ (x ∷ A)) ≡ x ∷ ascending (R ++ A)
step_left x R A r a = ascending-first x (R ++ (x ∷ A)) (R ++ A) (both-above x R A r a)
    (λ b h. ⊎_elim (λ u. inr (Memᴰ.append_left A u))
    (λ u. ⊎_elim (λ e. inl e) (λ v. inr (Memᴰ.append_right R v)) (Memᴰ.cases_cons u)) (Memᴰ.append_cases R h))
    (λ b h. ⊎_elim (λ e. Memᴰ.append_right R (Memᴰ.head e))
    (λ u. ⊎_elim (λ v. Memᴰ.append_left (x ∷ A) v) (λ v. Memᴰ.append_right R (Memᴰ.tail v)) (Memᴰ.append_cases R u)) h)

-- in the row alone
pub step_right : (y : ℤ) (R A : List ℤ) → Above lt_z y R → Above lt_z y A → ascending ((y ∷ R) ++ A) ≡ y ∷ ascending (R ++ A)
step_right y R A r a = ascending-first y (y ∷ (R ++ A)) (R ++ A) (both-above y R A r a) (λ b h. Memᴰ.cases_cons h)
    (λ b h. ⊎_elim (λ e. Memᴰ.head e) (λ u. Memᴰ.tail u) h)

-- in both
pub step_both : (y : ℤ) (R A : List ℤ) → Above lt_z y R → Above lt_z y A → ascending ((y ∷ R) ++ (y ∷ A)) ≡ y ∷ ascending (R ++ A)
step_both y R A r a =
    ascending-same (y ∷ (R ++ (y ∷ A))) (R ++ (y ∷ A))
    (λ b h. ⊎_elim (λ e. Memᴰ.append_right R (Memᴰ.head e)) (λ u. u) (Memᴰ.cases_cons h)) (λ b h. Memᴰ.tail h)
    ∙ step_left y R A r a

-- twice in the row
pub step-twin : (y : ℤ) (R A : List ℤ) → ascending ((y ∷ (y ∷ R)) ++ A) ≡ ascending ((y ∷ R) ++ A)
step-twin y R A =
    ascending-same (y ∷ (y ∷ (R ++ A))) (y ∷ (R ++ A))
    (λ b h. ⊎_elim (λ e. Memᴰ.head e) (λ u. u) (Memᴰ.cases_cons h)) (λ b h. Memᴰ.tail h)
