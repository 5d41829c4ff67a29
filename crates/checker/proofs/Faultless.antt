-- Where all is well at every dart, none is at fault by any of 6 to 11: the answer is 0.
use Rattle.std.proofs.Common.{◌≡◌, ℕ, zero, suc, ◌+◌, ◌-◌, ◌<◌, ◌≤◌, Bool, true, false, not, ◌&&◌, ◌||◌, T, eqb, ltb, leb, List, ℤ, sym, ap, ◌∙◌, subst, ⊎_elim, suc-le-suc, lt_of_lt_of_le, le_of_suc-le-suc, le_of_lt, arith, ltb-true, le-ltb, lt-ltb, eq-eqb, eqb-true, leb-true}
use borrow.Author.Tests.{lt-leb}
use Rattle.paper.specs.Below.{all_below, any_below, any_of, same_list}
use Rattle.paper.specs.Map.{spans_of, eq_z, eq_owned, eq_place, eq_row}
use Rattle.paper.specs.Span.{ordered}
use Rattle.paper.specs.Table.{count_fits, object_fits, owned_at}
use Rattle.paper.specs.Refusal.{answer}
use Rattle.paper.specs.Call.{has_bad_row}
use Rattle.paper.proofs.Same.{same-list, same-list-refl, same-ℤ, same-ℤ-refl, same-owned, same-owned-refl}
use Rattle.theory.proofs.Bool.{or_case, and_both, imp_use, decided, clash, off, T-eq, eq-T, eq-or, lt-or, less-or}
use Rattle.theory.proofs.Below.{all-out}
use Rattle.kernel.specs.Link.{alpha}
use Rattle.fault.specs.Fault.{place_in, count_in, unpaired_by, unpaired, fault_along, fault_of, first_from, Tried, places_agree}
use Rattle.well.specs.Well.{commutes, rows_agree, linked_along, agrees_along, has_lower, good_row, well_at}
use Rattle.fault.proofs.Any.{and_left, and_right, none_in}
use Rattle.well.proofs.Asked.{agreed-rest, links-before}
use Rattle.checker.proofs.Judged.{from-none}
use Rattle.fault.proofs.Tried.{tried-none, tried-more}

-- a test of two parts, whose second fails where the first passes
both-off : (a b : Bool) → (a ≡ true → b ≡ false) → (a && b) ≡ false
both-off a b f = ⊎_elim (λ q. and_right a b (f q)) (λ q. and_left a b q) (decided a)

none_differ : {A : Type 0} (same : A → A → Bool) → ((x : A) → T (same x x)) → (k l : List A) → k ≡ l → not (same_list same k l) ≡ false
none_differ same r k l e = ap (λ x. not (same_list same k x)) (sym e) ∙ ap not (T-eq (same_list same k k) (same-list-refl same r k))

module _ (ls : List ℕ) (ps ss : List ℤ) (m n : ℕ) (M : 1 ≤ m) (W : all_below n (well_at ls ps ss m n) ≡ true) where
  -- what was asked of a dart
  asked : (d : ℕ) → d < n → (good_row ls ss m d ≡ true) × (all_below (suc m) (linked_along ls n d) ≡ true) × (all_below (suc m) (agrees_along ls ps ss m d) ≡ true)
  unfolding well_at
  asked d h =
      let a = and_both (count_fits (count_in ss d)) _ (all-out n (well_at ls ps ss m n) W d h) in
      let b = and_both (good_row ls ss m d) _ a.1 in
      let g = and_both (all_below (suc m) (linked_along ls n d)) (all_below (suc m) (agrees_along ls ps ss m d)) b.1 in
      (b.0, g.0, g.1)

  inside : (d j : ℕ) → d < n → j ≤ m → alpha ls j d < n
  inside d j h l = links-before ls n d (suc m) (asked d h).1 j (suc-le-suc l)

  linked : (d j : ℕ) → d < n → j ≤ m → (alpha ls j (alpha ls j d) ≡ d) × ((ltb (alpha ls j d) d || all_below (j - 1) (commutes ls d j)) ≡ true)
  linked d j h l =
      let a = and_both (ltb (alpha ls j d) n) _ (all-out (suc m) (linked_along ls n d) (asked d h).1 j (suc-le-suc l)) in
      let b = and_both (eqb (alpha ls j (alpha ls j d)) d) _ a.1 in
      (eqb-true (alpha ls j (alpha ls j d)) d b.0, b.1)

  agreed : (d j : ℕ) → d < n → j ≤ m → d < alpha ls j d → (places_agree ps m j d (alpha ls j d) ≡ true) × (rows_agree ss m j d (alpha ls j d) ≡ true)
  agreed d j h l g =
      let e = alpha ls j d in
      and_both (places_agree ps m j d e) (rows_agree ss m j d e) (agreed-rest ps ss m d j e g ∙ all-out (suc m) (agrees_along ls ps ss m d) (asked d h).2 j (suc-le-suc l))

  -- a dart commutes where its link is no lower one, and where it is: there the link does
  commuting-low : (d i j : ℕ) → d < n → j ≤ m → i + 2 ≤ j → d ≤ alpha ls j d → alpha ls j (alpha ls i d) ≡ alpha ls i (alpha ls j d)
  commuting-low d i j h l g q =
      ⊎_elim (λ t. absurd (clash t (le-ltb (alpha ls j d) d q))) (λ t. eqb-true (alpha ls j (alpha ls i d)) (alpha ls i (alpha ls j d)) (all-out (j - 1) (commutes ls d j) t i (omega arith)))
      (or_case (ltb (alpha ls j d) d) (all_below (j - 1) (commutes ls d j)) (linked d j h l).1)

  commuting : (d i j : ℕ) → d < n → j ≤ m → i + 2 ≤ j → alpha ls j (alpha ls i d) ≡ alpha ls i (alpha ls j d)
  commuting d i j h l g =
      let e = alpha ls j d in
      let b : alpha ls j e ≡ d = (linked d j h l).0 in
      let k = inside d j h l in
      let low : e < d → alpha ls j (alpha ls i e) ≡ alpha ls i d =
      λ q. commuting-low e i j k l g (subst (λ x. e ≤ x) (sym b) (le_of_lt q)) ∙ ap (alpha ls i) b in
      ⊎_elim (λ q. ap (alpha ls j) (sym (low q)) ∙ (linked (alpha ls i e) j (inside e i k (omega arith)) l).0) (λ q. commuting-low d i j h l g q) (less-or e d)

  -- links that commute, and undo themselves, taken together twice lead back
  twice : (d i j : ℕ) → d < n → j ≤ m → i + 2 ≤ j → alpha ls i (alpha ls j (alpha ls i (alpha ls j d))) ≡ d
  twice d i j h l g =
      let k : i ≤ m = omega arith in
      ap (λ x. alpha ls i (alpha ls j x)) (sym (commuting d i j h l g)) ∙ ap (alpha ls i) (linked (alpha ls i d) j (inside d i h k) l).0 ∙ (linked d i h k).0

  -- what the lower of two linked darts tells holds of the higher too
  sides : {A : Type 0} (f : ℕ → A) (j : ℕ) → j ≤ m → ((d : ℕ) → d < n → d < alpha ls j d → f d ≡ f (alpha ls j d)) → (d : ℕ) → d < n → f d ≡ f (alpha ls j d)
  sides f j l low d h =
      let e = alpha ls j d in
      let b = (linked d j h l).0 in
      ⊎_elim (λ q. ap f q) (λ ne. ⊎_elim (λ q. low d h q) (λ q. sym (low e (inside d j h l) (subst (λ x. e < x) (sym b) q) ∙ ap f b)) (lt-or d e ne)) (eq-or d e)

  places_same : (d j : ℕ) → d < n → j ≤ m → leb 1 j ≡ true → place_in ps m d ≡ place_in ps m (alpha ls j d)
  places_same d j h l u =
      sides (place_in ps m) j l
      (λ x k g. same-list eq_z same-ℤ (place_in ps m x) (place_in ps m (alpha ls j x)) (eq-T (imp_use (leb 1 j) (eq_place (place_in ps m x) (place_in ps m (alpha ls j x))) (agreed x j k l g).0 u))) d h

  -- the counts of two linked darts, and their rows
  rows-asked : (d j : ℕ) → d < n → j ≤ m → ltb j m ≡ true → d < alpha ls j d → (eq_z (count_in ss d) (count_in ss (alpha ls j d)) ≡ true) × (eq_row (owned_at ss d) (owned_at ss (alpha ls j d)) ≡ true)
  rows-asked d j h l u g =
      let e = alpha ls j d in
      and_both (eq_z (count_in ss d) (count_in ss e)) (eq_row (owned_at ss d) (owned_at ss e)) (imp_use (ltb j m) _ (agreed d j h l g).1 u)

  counts_same : (d j : ℕ) → d < n → j ≤ m → ltb j m ≡ true → count_in ss d ≡ count_in ss (alpha ls j d)
  counts_same d j h l u = sides (count_in ss) j l (λ x k g. same-ℤ (count_in ss x) (count_in ss (alpha ls j x)) (eq-T (rows-asked x j k l u g).0)) d h

  rows_same : (d j : ℕ) → d < n → j ≤ m → ltb j m ≡ true → owned_at ss d ≡ owned_at ss (alpha ls j d)
  rows_same d j h l u =
      sides (owned_at ss) j l
      (λ x k g. same-list eq_owned same-owned (owned_at ss x) (owned_at ss (alpha ls j x)) (eq-T (rows-asked x j k l u g).1)) d h

  none : (k d : ℕ) → ((j : ℕ) → j ≤ m → fault_along k ls ps ss m n d j ≡ false) → any_below (suc m) (fault_along k ls ps ss m n d) ≡ false
  none k d f = none_in (fault_along k ls ps ss m n d) (suc m) (λ j h. f j (le_of_suc-le-suc h))

  no-beyond : (d : ℕ) → d < n → fault_of 6 ls ps ss m n d ≡ false
  unfolding fault_of fault_along
  no-beyond d h = none 6 d (λ j l. lt-leb n (alpha ls j d) (inside d j h l))

  no-unlinked : (d : ℕ) → d < n → fault_of 7 ls ps ss m n d ≡ false
  unfolding fault_of fault_along
  no-unlinked d h = none 7 d (λ j l. ap not (eq-eqb (alpha ls j (alpha ls j d)) d (linked d j h l).0))

  no-unpaired : (d : ℕ) → d < n → fault_of 8 ls ps ss m n d ≡ false
  unfolding fault_of fault_along unpaired
  no-unpaired d h =
      none 8 d
      (λ j l. none_in (λ i. leb (i + 2) j && unpaired_by ls d j i) (suc m)
      (λ i _. both-off (leb (i + 2) j) (unpaired_by ls d j i) (λ q. ap not (eq-eqb _ d (twice d i j h l (leb-true (i + 2) j q))))))

  no-displaced : (d : ℕ) → d < n → fault_of 9 ls ps ss m n d ≡ false
  unfolding fault_of fault_along
  no-displaced d h = none 9 d (λ j l. both-off (leb 1 j) _ (λ q. none_differ eq_z same-ℤ-refl (place_in ps m d) (place_in ps m (alpha ls j d)) (places_same d j h l q)))

  bad-same : (d e : ℕ) → count_in ss d ≡ count_in ss e → owned_at ss d ≡ owned_at ss e → has_bad_row ss d ≡ has_bad_row ss e
  unfolding has_bad_row
  bad-same d e c r = λ i. not (count_fits (c i)) || (not (ordered (spans_of (r i))) || any_of (λ x. not (object_fits x.object)) (r i))

  good-along : (d j : ℕ) → d < n → j < m → has_bad_row ss (alpha ls j d) ≡ false → has_bad_row ss d ≡ false
  good-along d j h l q =
      let k = le_of_lt l in
      let u = lt-ltb j m l in
      bad-same d (alpha ls j d) (counts_same d j h k u) (rows_same d j h k u) ∙ q

  -- a row was looked through, or a lower dart has the same: from dart to dart down to one whose row was
  good-below : (k d : ℕ) → d < k → d < n → has_bad_row ss d ≡ false
  good-below zero d g h = absurd (omega arith)
  good-below (suc k) d g h =
      let down : (j : ℕ) → j < m → alpha ls j d < d → has_bad_row ss d ≡ false =
      λ j l q. good-along d j h l (good-below k (alpha ls j d) (lt_of_lt_of_le q (le_of_suc-le-suc g)) (inside d j h (le_of_lt l))) in
      let first : ltb (alpha ls 0 d) d ≡ true → has_bad_row ss d ≡ false = λ q. down 0 M (ltb-true (alpha ls 0 d) d q) in
      let second : (leb 2 m && ltb (alpha ls 1 d) d) ≡ true → has_bad_row ss d ≡ false =
      λ q. let b = and_both (leb 2 m) (ltb (alpha ls 1 d) d) q in down 1 (leb-true 2 m b.0) (ltb-true (alpha ls 1 d) d b.1) in
      ⊎_elim (λ t. ⊎_elim first second (or_case (ltb (alpha ls 0 d) d) (leb 2 m && ltb (alpha ls 1 d) d) t)) (λ t. off (has_bad_row ss d) t) (or_case (has_lower ls m d) (not (has_bad_row ss d)) (asked d h).0)

  no-bad : (d : ℕ) → d < n → fault_of 10 ls ps ss m n d ≡ false
  unfolding fault_of
  no-bad d h = good-below n d h h

  no-respanned : (d : ℕ) → d < n → fault_of 11 ls ps ss m n d ≡ false
  unfolding fault_of fault_along
  no-respanned d h = none 11 d (λ j l. both-off (ltb j m) _ (λ q. none_differ eq_owned same-owned-refl (owned_at ss d) (owned_at ss (alpha ls j d)) (rows_same d j h l q)))

  tried : Tried 12 ls ps ss m n
  tried =
      let more = tried-more ls ps ss m n in
      more 11 (more 10 (more 9 (more 8 (more 7 (more 6 (tried-none ls ps ss m n) no-beyond) no-unlinked) no-unpaired) no-displaced) no-bad) no-respanned

  pub faultless : answer 0 0 ≡ first_from 6 6 (λ k. fault_of k ls ps ss m n) n
  faultless = from-none (λ k. fault_of k ls ps ss m n) n 6 6 (λ k a b. tried k a b)
