-- What `all`, `any` and `find` answer over the numbers below n, where the closure computes a test.
--     all_range, any_range, find_range     from the call's clause `ran`, and what one call of the closure returns
use Rattle.std.proofs.Common.{◌≡◌, ℕ, zero, suc, ◌+◌, Bool, true, false, ◌&&◌, ◌||◌, List, [], ◌∷◌, ◌++◌, Option, sym, refl, ap, ◌∙◌, add-zero, zero-add, arith, ◌<◌, ◌≤◌, cond, ltb, le-ltb, lt-ltb, le_refl, Some, None, None}
use denote.Param.Members.{Mut}
use denote.Ref.{Bor}
use Rattle.std.specs.Fn.{Called, CalledAt}
use Rattle.std.specs.Option.{MatchOption}
use Rattle.std.specs.Iterator.{YieldsThen}
use Rattle.std.specs.List.{FoldsTo, list_all, list_any, range_with_len}
use Rattle.std.specs.declared.ops.Range.{Range}
use Rattle.std.proofs.Math.Bool.{and_comm, and-true, or_comm, or-false}
use Rattle.std.proofs.iter.Yields.{nat_range_steps}
use Rattle.std.proofs.lemmas.Iterator.{YieldsList-from_range, first_from_Range}
use Rattle.std.proofs.lemmas.Iterator.Search.{all_from_yields_List, any_from_yields_List}
use Rattle.std.proofs.lemmas.List.Folds.{list_all-append, list_any-append}
use Rattle.paper.specs.Below.{any_below, all_below}
use Rattle.fault.specs.Fault.{lowest}
use Rattle.fault.proofs.Any.{none_in, first-here, first-none}

-- the last number stands behind the others
in_front : (a n : ℕ) → range_with_len a (suc n) ≡ range_with_len a n ++ (a + n) ∷ []
in_front a zero = ap (λ (x : ℕ). x ∷ []) (sym (add-zero a))
in_front a (suc n) =
    let e : a + 1 + n ≡ a + suc n = omega arith in
    ap (λ l. a ∷ l) (in_front (a + 1) n ∙ ap (λ (x : ℕ). range_with_len (a + 1) n ++ x ∷ []) e)

module _ (p : ℕ → Bool) where
  all-list : (n : ℕ) → list_all p (range_with_len 0 n) ≡ all_below n p
  unfolding all_below
  all-list zero = refl
  all-list (suc n) =
      ap (list_all p) (in_front 0 n) ∙ list_all-append p (range_with_len 0 n) _ ∙ (λ i. all-list n i && and-true (p (zero-add n i)) i) ∙ and_comm (all_below n p) (p n)

  any-list : (n : ℕ) → list_any p (range_with_len 0 n) ≡ any_below n p
  unfolding any_below
  any-list zero = refl
  any-list (suc n) =
      ap (list_any p) (in_front 0 n) ∙ list_any-append p (range_with_len 0 n) _ ∙ (λ i. any-list n i || or-false (p (zero-add n i)) i) ∙ or_comm (any_below n p) (p n)

  module _ {F : Type 0} {g : Mut F (ℕ × Unit {0}) Bool} (f : F) (n : ℕ) (u : Range ℕ) (r : Bool) where
    pub all_range : (xs : List ℕ) × (o : Option ℕ) × (j : F) × YieldsThen nat_range_steps (record { start = 0; end = n }) xs o u × FoldsTo (λ k x q. Called g k (x, tt) true q) f xs j × MatchOption o (r ≡ true) (λ x. (r ≡ false) × ((h : F) × Called g j (x, tt) false h)) → ((x : ℕ) (b : Bool) (q : F) → Called g f (x, tt) b q → (q ≡ f) × (b ≡ p x)) → r ≡ all_below n p
    all_range ran k = all_from_yields_List p u f r ran (YieldsList-from_range 0 n n refl (omega arith)) k ∙ all-list n

    pub any_range : (xs : List ℕ) × (o : Option ℕ) × (j : F) × YieldsThen nat_range_steps (record { start = 0; end = n }) xs o u × FoldsTo (λ k x q. Called g k (x, tt) false q) f xs j × MatchOption o (r ≡ false) (λ x. (r ≡ true) × ((h : F) × Called g j (x, tt) true h)) → ((x : ℕ) (b : Bool) (q : F) → Called g f (x, tt) b q → (q ≡ f) × (b ≡ p x)) → r ≡ any_below n p
    any_range ran k = any_from_yields_List p u f r ran (YieldsList-from_range 0 n n refl (omega arith)) k ∙ any-list n

  found : (n : ℕ) (r : Option ℕ) → MatchOption r ((k : ℕ) → 0 ≤ k → k < n → p k ≡ false) (λ i. (0 ≤ i) × (i < n) × (p i ≡ true) × ((k : ℕ) → 0 ≤ k → k < i → p k ≡ false)) → r ≡ lowest n p
  unfolding lowest
  found n None h =
      let e = first-none p n (none_in p n (λ j l. h j (omega arith) l)) in
      sym (ap (λ (d : ℕ). cond (ltb d n) (Some d) None) (sym e) ∙ ap (λ t. cond t (Some n) None) (le-ltb n n (le_refl n)))
  found n (Some i) h =
      let e = first-here p n i (none_in p i (λ j l. h.3 j (omega arith) l)) h.1 h.2 in
      sym (ap (λ (d : ℕ). cond (ltb d n) (Some d) None) (sym e) ∙ ap (λ t. cond t (Some i) None) (lt-ltb i n h.1))

  pub find_range : {F : Type 0} {g : Mut F (Bor ℕ × Unit {0}) Bool} (f : F) (n : ℕ) (u : Range ℕ) (r : Option ℕ)
      → (xs : List ℕ) × (j : F) × YieldsThen nat_range_steps (record { start = 0; end = n }) xs r u × FoldsTo (λ k x q. CalledAt g k x false q) f xs j × MatchOption r (Unit {0}) (λ x. (h : F) × CalledAt g j x true h)
      → ((x : ℕ) (b : Bool) (q : F) → CalledAt g f x b q → (q ≡ f) × (b ≡ p x)) → r ≡ lowest n p
  find_range f n u r ran k =
      found n r
      (first_from_Range (record { start = 0; end = n }) u f r (λ x. p x ≡ true) (λ x. p x ≡ false) ran (λ x q h. sym (k x true q h).1)
      (λ x q h. let a = k x false q h in (a.0, sym a.1)))
