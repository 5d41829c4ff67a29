-- The refusals 6 to 11 over raw tables are paper's, on the map that the tables hold.
--     judged           the first that is met is paper's
--     lowest-some, lowest-none     the first dart that passes a test, or that none does
--     order            the refusals that the loop goes over have the numbers from 6 on
--     from-hit, from_more, from_end     the loop over the numbers: one is met, it is not, all were tried
--     from-none        where no dart meets any, the answer is 0
use Rattle.std.proofs.Common.{◌≡◌, ℕ, zero, suc, ◌+◌, ◌-◌, ◌<◌, ◌≤◌, Bool, true, false, cond, not, ◌&&◌, ◌||◌, eqb, ltb, leb, List, ℤ, sym, refl, ap, ◌∙◌, subst, suc-le-suc, le_refl, le_of_suc-le-suc, add-one, arith, ltb-false, le-ltb, lt-ltb, leb-false, Some, None, get_or, [], ◌∷◌, ltb-true}
use Rattle.paper.specs.Below.{any_below, first_below}
use Rattle.paper.specs.Map.{Map, link, place, owned, eq_place, eq_row}
use Rattle.paper.specs.Table.{owned_at, lent}
use Rattle.paper.specs.Refusal.{number, answer, judge}
use Rattle.paper.specs.declared.refusal.Refusal.{Refusal}
use Rattle.paper.specs.declared.refusal.Refusal.TheVariants.{LinkBeyond, LinkNotUndone, PairNotUndone, PlacesDiffer, BadRow, RowsDiffer}
use Rattle.paper.specs.Call.{held, has_bad_row, faults}
use Rattle.paper.specs.declared.Answer.{Answer}
use Rattle.theory.proofs.Below.{any_same}
use Rattle.theory.proofs.Table.{held_link, held_place, held-owned}
use Rattle.kernel.specs.Link.{alpha}
use Rattle.fault.specs.Fault.{unpaired, fault_along, fault_of, lowest, first_from, LinksIn}
use Rattle.fault.proofs.Any.{none_in, none_below, first-none, first-same, first_off}

-- ---- the first dart that passes a test
module _ (n : ℕ) (p : ℕ → Bool) where
  pub lowest-some : (d : ℕ) → lowest n p ≡ Some d → (d ≡ first_below n p) × (d < n)
  unfolding lowest
  lowest-some d e = go (ltb (first_below n p) n) refl e
    where
      go : (b : Bool) → ltb (first_below n p) n ≡ b → cond b (Some (first_below n p)) None ≡ Some d → (d ≡ first_below n p) × (d < n)
      go true q e = let c : d ≡ first_below n p = cc in (c, subst (λ (x : ℕ). x < n) (sym c) (ltb-true (first_below n p) n q))
      go false q e = absurd (cc)

  pub lowest-none : lowest n p ≡ None → n ≤ first_below n p
  unfolding lowest
  lowest-none e = go (ltb (first_below n p) n) refl e
    where
      go : (b : Bool) → ltb (first_below n p) n ≡ b → cond b (Some (first_below n p)) None ≡ None → n ≤ first_below n p
      go true q e = absurd (cc)
      go false q e = ltb-false (first_below n p) n q

-- ---- the loop over the numbers
module _ (f : ℕ → ℕ → Bool) (n : ℕ) where
  from_step : (k : ℕ) → k ≤ 11 → first_from (12 - k) k f n ≡ cond (ltb (first_below n (f k)) n) (answer k (first_below n (f k))) (first_from (12 - (k + 1)) (k + 1) f n)
  unfolding first_from
  from_step k h =
      let e : 12 - k ≡ suc (12 - (k + 1)) = omega arith in
      ap (λ j. first_from j k f n) e ∙ ap (λ (j : ℕ). cond (ltb (first_below n (f k)) n) (answer k (first_below n (f k))) (first_from (12 - (k + 1)) j f n)) (sym (add-one k))

  pub from-hit : (k d : ℕ) (r : Refusal) (W : Answer) → k ≤ 11 → number r ≡ k → lowest n (f (number r)) ≡ Some d → first_from (12 - k) k f n ≡ W → answer (number r) d ≡ W
  from-hit k d r W h q e w =
      let a = lowest-some n (f k) d (ap (λ (j : ℕ). lowest n (f j)) (sym q) ∙ e) in
      ap (λ (j : ℕ). answer j d) q
      ∙ ap (answer k) a.0
      ∙ sym (ap (λ t. cond t (answer k (first_below n (f k))) (first_from (12 - (k + 1)) (k + 1) f n)) (lt-ltb (first_below n (f k)) n (subst (λ (x : ℕ). x < n) a.0 a.1)))
      ∙ sym (from_step k h) ∙ w

  pub from_more : (k : ℕ) (r : Refusal) (W : Answer) → k ≤ 11 → number r ≡ k → lowest n (f (number r)) ≡ None → first_from (12 - k) k f n ≡ W → first_from (12 - (k + 1)) (k + 1) f n ≡ W
  from_more k r W h q e w =
      sym (ap (λ t. cond t (answer k (first_below n (f k))) (first_from (12 - (k + 1)) (k + 1) f n)) (le-ltb (first_below n (f k)) n (lowest-none n (f k) (ap (λ (j : ℕ). lowest n (f j)) (sym q) ∙ e))))
      ∙ sym (from_step k h) ∙ w

  pub from_end : (k : ℕ) (W : Answer) → 12 ≤ k → first_from (12 - k) k f n ≡ W → answer 0 0 ≡ W
  unfolding first_from
  from_end k W h w = let e : 0 ≡ 12 - k = omega arith in ap (λ j. first_from j k f n) e ∙ w

  -- none of so many is met by a dart
  pub from-none : (left k : ℕ) → ((j : ℕ) → k ≤ j → j < k + left → (d : ℕ) → d < n → f j d ≡ false) → answer 0 0 ≡ first_from left k f n
  unfolding first_from
  from-none zero k h = refl
  from-none (suc left) k h =
      let e = first-none (f k) n (none_in (f k) n (h k (le_refl k) (omega arith))) in
      from-none left (suc k) (λ j a b. h j (omega arith) (omega arith))
      ∙ sym (ap (λ t. cond t (answer k (first_below n (f k))) (first_from left (suc k) f n)) (le-ltb (first_below n (f k)) n (subst (λ (x : ℕ). n ≤ x) e (le_refl n))))

pub order : (z : Refusal) (k : ℕ) → k < 6 → number (get_or (LinkBeyond ∷ (LinkNotUndone ∷ (PairNotUndone ∷ (PlacesDiffer ∷ (BadRow ∷ (RowsDiffer ∷ [])))))) k z) ≡ 6 + k
order z zero h = refl
order z (suc zero) h = refl
order z (suc (suc zero)) h = refl
order z (suc (suc (suc zero))) h = refl
order z (suc (suc (suc (suc zero)))) h = refl
order z (suc (suc (suc (suc (suc zero))))) h = refl
order z (suc (suc (suc (suc (suc (suc k)))))) h = absurd (omega arith)

-- ---- number by number
meets : (n k d e : ℕ) (r s : Answer) → d ≡ e → (n ≤ d → r ≡ s) → cond (ltb d n) (answer k d) r ≡ cond (ltb e n) (answer k e) s
meets n k d e r s p f = go (ltb d n) refl ∙ ap (λ x. cond (ltb x n) (answer k x) s) p
  where
    go : (b : Bool) → ltb d n ≡ b → cond b (answer k d) r ≡ cond b (answer k d) s
    go true q = refl
    go false q = f (ltb-false d n q)

module _ (ls : List ℕ) (ps ss : List ℤ) (w m n : ℕ) where
  abbrev M : Map
  M = held (lent ls ps ss w) m n

  abbrev first : ℕ → ℕ
  first k = first_below n (fault_of k ls ps ss m n)

  one : (i d : ℕ) → d < n → i < suc m → alpha ls i d ≡ link M i d
  one i d h l = sym (held_link ls ps ss m n i d h (le_of_suc-le-suc l))

  beyond-same : first 6 ≡ first_below n (λ d. any_below (suc m) (λ i. leb n (link M i d)))
  unfolding fault_of fault_along
  beyond-same = first-same n _ _ (λ d h. any_same (suc m) _ _ (λ i l. ap (leb n) (one i d h l)))

  in_all : n ≤ first 6 → LinksIn ls m n
  unfolding fault_of fault_along
  in_all e d h i l = leb-false n (alpha ls i d) (none_below (fault_along 6 ls ps ss m n d) (suc m) (first_off (fault_of 6 ls ps ss m n) n e d h) i (suc-le-suc l))

  bad-same : first 10 ≡ first_below n (has_bad_row ss)
  unfolding fault_of
  bad-same = first-same n _ _ (λ d h. refl)

  module _ (L : LinksIn ls m n) where
    two : (i j d : ℕ) → d < n → i < suc m → j < suc m → alpha ls i (alpha ls j d) ≡ link M i (link M j d)
    two i j d h a b = one i (alpha ls j d) (L d h j (le_of_suc-le-suc b)) a ∙ ap (link M i) (one j d h b)

    undone-same : first 7 ≡ first_below n (λ d. any_below (suc m) (λ i. not (eqb (link M i (link M i d)) d)))
    unfolding fault_of fault_along
    undone-same = first-same n _ _ (λ d h. any_same (suc m) _ _ (λ i l. ap (λ x. not (eqb x d)) (two i i d h l l)))

    four : (i j d : ℕ) → d < n → i < suc m → j < suc m → alpha ls i (alpha ls j (alpha ls i (alpha ls j d))) ≡ link M i (link M j (link M i (link M j d)))
    four i j d h a b =
        two i j (alpha ls i (alpha ls j d)) (L (alpha ls j d) (L d h j (le_of_suc-le-suc b)) i (le_of_suc-le-suc a)) a b ∙ ap (λ x. link M i (link M j x)) (two i j d h a b)

    pair_same : first 8
        ≡ first_below n (λ d. any_below (suc m) (λ j. any_below (suc m) (λ i. leb (i + 2) j && not (eqb (link M i (link M j (link M i (link M j d)))) d))))
    unfolding fault_of fault_along unpaired
    pair_same =
        first-same n _ _ (λ d h. any_same (suc m) _ _ (λ j b. any_same (suc m) _ _ (λ i a. ap (λ x. leb (i + 2) j && not (eqb x d)) (four i j d h a b))))

    place_same : first 9 ≡ first_below n (λ d. any_below (suc m) (λ j. leb 1 j && not (eq_place (place M d) (place M (link M j d)))))
    unfolding fault_of fault_along
    place_same =
        first-same n _ _
        (λ d h. any_same (suc m) _ _
        (λ j b. let p = sym (held_place ls ps ss m n d h) in
        let q = sym (held_place ls ps ss m n (alpha ls j d) (L d h j (le_of_suc-le-suc b))) ∙ ap (place M) (one j d h b) in
        λ i. leb 1 j && not (eq_place (p i) (q i))))

    row_same : first 11 ≡ first_below n (λ d. any_below m (λ j. not (eq_row (owned M d) (owned M (link M j d)))))
    unfolding fault_of fault_along any_below
    row_same =
        first-same n _ _
        (λ d h. ap (λ t. (t && not (eq_row (owned_at ss d) (owned_at ss (alpha ls m d)))) || any_below m (fault_along 11 ls ps ss m n d)) (le-ltb m m (le_refl m))
        ∙ any_same m _ _
        (λ j b. let p = sym (held-owned ls ps ss m n d h) in
        let q = sym (held-owned ls ps ss m n (alpha ls j d) (L d h j (omega arith))) ∙ ap (owned M) (one j d h (omega arith)) in
        λ i. lt-ltb j m b i && not (eq_row (p i) (q i))))

  pub judged : first_from 6 6 (λ k. fault_of k ls ps ss m n) n ≡ judge n (faults (lent ls ps ss w) m n)
  unfolding first_from judge faults
  judged =
      meets n 6 (first 6) _ _ _ beyond-same
      (λ e. let L = in_all e in
      meets n 7 (first 7) _ _ _ (undone-same L)
      (λ _. meets n 8 (first 8) _ _ _ (pair_same L)
      (λ _. meets n 9 (first 9) _ _ _ (place_same L) (λ _. meets n 10 (first 10) _ _ _ bad-same (λ _. meets n 11 (first 11) _ _ _ (row_same L) (λ _. refl))))))
