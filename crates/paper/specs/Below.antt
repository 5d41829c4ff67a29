-- The numbers below n, and lists: tests, counts and what is made from them.
--     any_below, all_below     some number below n passes, every one does
--     count_below             how many pass
--     first_below             the lowest that passes; n if none does
--     sum_below               f 0 + f 1 + .. + f (n - 1)
--     list_below              f 0, f 1, .., f (n - 1)
--     join_below              the lists f 0, f 1, .., f (n - 1), one after the other
--     any_of                  some member of a list passes
--     join_of                 the lists that f gives for the members, one after the other
--     only                   a list of one, or of none where the test fails
--     same_list               two lists are equal, by a test of their members
--     onto                   a list written over the start of another, whose rest stays
-- What a `let` binds is computed only where it is read: so a test that is decided early costs no more than it has to.
use Rattle.std.specs.Prelude.{ℕ, zero, suc, ◌+◌, Bool, true, false, cond, ◌&&◌, ◌||◌, List, [], ◌∷◌, ◌++◌, length, drop, nat_lt}

unfoldable pub any_below : ℕ → (ℕ → Bool) → Bool
any_below zero p = false
any_below (suc n) p = let r = any_below n p in p n || r

unfoldable pub all_below : ℕ → (ℕ → Bool) → Bool
all_below zero p = true
all_below (suc n) p = let r = all_below n p in p n && r

unfoldable pub count_below : ℕ → (ℕ → Bool) → ℕ
count_below zero p = 0
count_below (suc n) p = cond (p n) 1 0 + count_below n p

unfoldable pub first_below : ℕ → (ℕ → Bool) → ℕ
first_below zero p = zero
first_below (suc n) p = let d = first_below n p in let e : ℕ = cond (p n) n (suc n) in cond (nat_lt d n) d e

unfoldable pub sum_below : ℕ → (ℕ → ℕ) → ℕ
sum_below zero f = 0
sum_below (suc n) f = f n + sum_below n f

-- f 0, f 1, .., f (n - 1), in front of a list
unfoldable pub list_onto : {A : Type 0} → ℕ → (ℕ → A) → List A → List A
list_onto zero f l = l
list_onto (suc n) f l = list_onto n f (f n ∷ l)

abbrev pub list_below : {A : Type 0} → ℕ → (ℕ → A) → List A
list_below n f = list_onto n f []

unfoldable pub join_below : {A : Type 0} → ℕ → (ℕ → List A) → List A
join_below zero f = []
join_below (suc n) f = join_below n f ++ f n

unfoldable pub any_of : {A : Type 0} → (A → Bool) → List A → Bool
any_of p [] = false
any_of p (x ∷ l) = let r = any_of p l in p x || r

unfoldable pub join_of : {A B : Type 0} → List A → (A → List B) → List B
join_of [] f = []
join_of (x ∷ l) f = f x ++ join_of l f

unfoldable pub only : {A : Type 0} → Bool → A → List A
only true x = x ∷ []
only false x = []

unfoldable pub same_list : {A : Type 0} → (A → A → Bool) → List A → List A → Bool
same_list same [] [] = true
same_list same [] (y ∷ l) = false
same_list same (x ∷ k) [] = false
same_list same (x ∷ k) (y ∷ l) = let r = same_list same k l in same x y && r

abbrev pub onto : {A : Type 0} → List A → List A → List A
onto l before = l ++ drop (length l) before
