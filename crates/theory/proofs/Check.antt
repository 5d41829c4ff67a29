-- Demand 2: a table is accepted exactly where it holds a generalised map with agreeing corners and spans.
--     check-valid      what the check accepts is such a map
--     valid-check      such a map is accepted
use Rattle.std.proofs.Common.{◌≡◌, ℕ, suc, ◌+◌, ◌*◌, ◌<◌, ◌≤◌, Bool, true, false, not, ◌&&◌, ◌||◌, eqb, ltb, leb, List, length, get_or, ℤ, pos, sym, refl, ap, ◌∙◌, subst, suc-le-suc, le_of_suc-le-suc, arith, ltb-false, ltb-true, le-ltb, eq-eqb, eqb-true, le-leb, leb-false, leb-true}
use borrow.Author.Tests.{lt-leb}
use Rattle.paper.specs.Width.{place_width, span_width, dim_limit}
use Rattle.paper.specs.Below.{any_below, first_below, any_of}
use Rattle.paper.specs.Map.{Owned, Map, count, link, place, owned, eq_place, eq_row}
use Rattle.paper.specs.Span.{ordered, row_fits}
use Rattle.paper.specs.Table.{Tables, count_fits, object_fits, owned_at, row_at}
use Rattle.paper.specs.Refusal.{answer}
use Rattle.paper.specs.Call.{held, capacity, has_bad_row, faults, check}
use Rattle.paper.proofs.Same.{same_place, same_row, same-place-refl, same-row-refl}
use Rattle.theory.specs.Local.{Local}
use Rattle.theory.specs.Member.{◌∈◌}
use Rattle.theory.specs.Fit.{ObjectsFit}
use Rattle.theory.specs.Accepted.{Accepted}
use Rattle.theory.proofs.Bool.{or_off, and_intro, not-true, clash, on, eq-T, T-eq}
use Rattle.theory.proofs.Below.{any-in, any_out, list_length, first-before, first_passes}
use Rattle.theory.proofs.Member.{any-of-in, any-of-out}
use Rattle.theory.proofs.Valid.{local-valid, valid-local}
use Rattle.theory.proofs.Table.{held-dim, held-count, held-axes, held_place, held-owned, held-row, row-short}
use Rattle.theory.proofs.Judge.{Off, judge-off, off-judge}

-- ---- none of the darts is at fault
none_out : (n : ℕ) (p : ℕ → Bool) → ltb (first_below n p) n ≡ false → (d : ℕ) → d < n → p d ≡ false
none_out n p e d h = first-before n p d (let g = ltb-false (first_below n p) n e in omega arith)

none_in : (n : ℕ) (p : ℕ → Bool) → ((d : ℕ) → d < n → p d ≡ false) → ltb (first_below n p) n ≡ false
none_in n p f = not-true (ltb (first_below n p) n) (λ t. let h = ltb-true (first_below n p) n t in clash (first_passes n p h) (f (first_below n p) h))

any_none : (n : ℕ) (p : ℕ → Bool) → any_below n p ≡ false → (j : ℕ) → j < n → p j ≡ false
any_none n p e j h = not-true (p j) (λ t. clash (any-in n p j h t) e)

none_any : (n : ℕ) (p : ℕ → Bool) → ((j : ℕ) → j < n → p j ≡ false) → any_below n p ≡ false
none_any n p f = not-true (any_below n p) (λ t. let r = any_out n p t in clash r.2 (f r.0 r.1))

-- a test that fails together with one that passes
and_none : (a b : Bool) → (a && b) ≡ false → a ≡ true → b ≡ false
and_none a b e t = not-true b (λ u. clash (and_intro a b t u) e)

none-and : (a b : Bool) → (a ≡ true → b ≡ false) → (a && b) ≡ false
none-and true b f = f refl
none-and false b f = refl

module _ (T : Tables) (m n : ℕ) where
  abbrev M : Map
  M = held T m n

  abbrev Counts : Type 0
  Counts = (d : ℕ) → d < n → count_fits (get_or T.spans (d * span_width) (pos 0)) ≡ true

  -- the span's object is none
  abbrev lost : Owned → Bool
  lost x = not (object_fits x.object)

  -- ---- accepted: valid
  accepted-local : Off n (faults T m n) → Local M × (Counts × ObjectsFit M)
  unfolding faults has_bad_row
  accepted-local o = (
    record {
      axes = λ d h. held-axes L P S m n d (dn d h) ∙ ap suc (sym dm);
      coordinates = λ d h. ap length (held_place L P S m n d (dn d h)) ∙ list_length m (λ x. get_or P (d * place_width + x) (pos 0)) ∙ sym dm;
      within = λ i d h l. subst (λ (k : ℕ). link M i d < k) (sym cn) (leb-false n (link M i d) (any_none (suc m) (λ i. leb n (link M i d)) (none_out n _ o.0 d (dn d h)) i (im i l)));
      undo =
          λ i d h l. eqb-true (link M i (link M i d)) d
          (on (eqb (link M i (link M i d)) d) (any_none (suc m) (λ i. not (eqb (link M i (link M i d)) d)) (none_out n _ o.1.0 d (dn d h)) i (im i l)));
      pair =
          λ i j d h f l. eqb-true (link M i (link M j (link M i (link M j d)))) d
          (on (eqb (link M i (link M j (link M i (link M j d)))) d)
          (and_none (leb (i + 2) j) (not (eqb (link M i (link M j (link M i (link M j d)))) d))
          (any_none (suc m) (λ i. leb (i + 2) j && not (eqb (link M i (link M j (link M i (link M j d)))) d))
          (any_none (suc m) (λ j. any_below (suc m) (λ i. leb (i + 2) j && not (eqb (link M i (link M j (link M i (link M j d)))) d)))
          (none_out n _ o.1.1.0 d (dn d h)) j (im j l)) i (let g = im j l in omega arith)) (le-leb (i + 2) j f)));
      places =
          λ j d h q l. sym (same_place (place M d) (place M (link M j d))
          (eq-T (on (eq_place (place M d) (place M (link M j d)))
          (and_none (leb 1 j) (not (eq_place (place M d) (place M (link M j d))))
          (any_none (suc m) (λ j. leb 1 j && not (eq_place (place M d) (place M (link M j d)))) (none_out n _ o.1.1.1.0 d (dn d h)) j (im j l)) (le-leb 1 j q)))));
      rows =
          λ j d h l. sym (same_row (owned M d) (owned M (link M j d))
          (eq-T (on (eq_row (owned M d) (owned M (link M j d)))
          (any_none m (λ j. not (eq_row (owned M d) (owned M (link M j d)))) (none_out n _ o.1.1.1.1.1.0 d (dn d h)) j (subst (λ (k : ℕ). j < k) dm l)))));
      short = λ d h. ap row_fits (held-row L P S m n d (dn d h)) ∙ row-short S d;
      order = λ d h. ap ordered (held-row L P S m n d (dn d h)) ∙ on (ordered (row_at S d)) (fine d (dn d h)).1.0;
    },
    (
      λ d h. on (count_fits (get_or S (d * span_width) (pos 0))) (fine d h).0,
      λ d h x w. on (object_fits x.object)
          (not-true (lost x) (λ t. clash (any-of-in lost (owned_at S d) x (subst (λ r. x ∈ r) (held-owned L P S m n d (dn d h)) w) t) (fine d (dn d h)).1.1)),
    ),
  )
    where
      L : List ℕ
      L = T.links

      P : List ℤ
      P = T.places

      S : List ℤ
      S = T.spans

      dm : M.dim ≡ m
      dm = held-dim T.links T.places T.spans m n

      cn : count M ≡ n
      cn = held-count T.links T.places T.spans m n

      dn : (d : ℕ) → d < count M → d < n
      dn d h = subst (λ (k : ℕ). d < k) cn h

      im : (i : ℕ) → i ≤ M.dim → i < suc m
      im i l = suc-le-suc (subst (λ (k : ℕ). i ≤ k) dm l)

      fine : (d : ℕ) → d < n → (not (count_fits (get_or S (d * span_width) (pos 0))) ≡ false) × ((not (ordered (row_at S d)) ≡ false) × (any_of lost (owned_at S d) ≡ false))
      fine d h =
          let a = or_off (not (count_fits (get_or S (d * span_width) (pos 0)))) (not (ordered (row_at S d)) || any_of lost (owned_at S d)) (none_out n _ o.1.1.1.1.0 d h) in
          (a.0, or_off (not (ordered (row_at S d))) (any_of lost (owned_at S d)) a.1)

  -- ---- valid: accepted
  local-accepted : Local M → Counts → ObjectsFit M → Off n (faults T m n)
  unfolding faults has_bad_row
  local-accepted W c b = (
    none_in n _ (λ d h. none_any (suc m) (λ i. leb n (link M i d))
        (λ i l. lt-leb n (link M i d) (subst (λ (k : ℕ). link M i d < k) cn (W.within i d (nd d h) (mi i l))))),
    (
      none_in n _ (λ d h. none_any (suc m) (λ i. not (eqb (link M i (link M i d)) d))
          (λ i l. ap not (eq-eqb (link M i (link M i d)) d (W.undo i d (nd d h) (mi i l))))),
      (
        none_in n _ (λ d h. none_any (suc m) (λ j. any_below (suc m) (λ i. leb (i + 2) j && not (eqb (link M i (link M j (link M i (link M j d)))) d)))
            (λ j l. none_any (suc m) (λ i. leb (i + 2) j && not (eqb (link M i (link M j (link M i (link M j d)))) d))
            (λ i g. none-and (leb (i + 2) j) (not (eqb (link M i (link M j (link M i (link M j d)))) d))
            (λ t. ap not (eq-eqb (link M i (link M j (link M i (link M j d)))) d (W.pair i j d (nd d h) (leb-true (i + 2) j t) (mi j l))))))),
        (
          none_in n _ (λ d h. none_any (suc m) (λ j. leb 1 j && not (eq_place (place M d) (place M (link M j d))))
              (λ j l. none-and (leb 1 j) (not (eq_place (place M d) (place M (link M j d))))
              (λ t. ap not (equal-place (place M d) (place M (link M j d)) (sym (W.places j d (nd d h) (leb-true 1 j t) (mi j l))))))),
          (
            none_in n _ (λ d h. both-none (not (count_fits (get_or T.spans (d * span_width) (pos 0)))) (not (ordered (row_at T.spans d)) || any_of lost (owned_at T.spans d))
                (ap not (c d h))
                (both-none (not (ordered (row_at T.spans d))) (any_of lost (owned_at T.spans d))
                (ap not (sym (ap ordered (held-row T.links T.places T.spans m n d h)) ∙ W.order d (nd d h)))
                (not-true (any_of lost (owned_at T.spans d))
                (λ t. let x = any-of-out lost (owned_at T.spans d) t in
                clash x.2 (ap not (b d (nd d h) x.0 (subst (λ r. x.0 ∈ r) (sym (held_at d h)) x.1))))))),
            (
              none_in n _ (λ d h. none_any m (λ j. not (eq_row (owned M d) (owned M (link M j d))))
                  (λ j l. ap not (equal-row (owned M d) (owned M (link M j d)) (sym (W.rows j d (nd d h) (subst (λ (k : ℕ). j < k) (sym dm) l)))))),
              tt,
            ),
          ),
        ),
      ),
    ),
  )
    where
      dm : M.dim ≡ m
      dm = held-dim T.links T.places T.spans m n

      cn : count M ≡ n
      cn = held-count T.links T.places T.spans m n

      nd : (d : ℕ) → d < n → d < count M
      nd d h = subst (λ (k : ℕ). d < k) (sym cn) h

      mi : (i : ℕ) → i < suc m → i ≤ M.dim
      mi i l = subst (λ (k : ℕ). i ≤ k) (sym dm) (le_of_suc-le-suc l)

      equal-place : (p q : List ℤ) → p ≡ q → eq_place p q ≡ true
      equal-place p q e = ap (eq_place p) (sym e) ∙ T-eq (eq_place p p) (same-place-refl p)

      held_at : (d : ℕ) → d < n → owned M d ≡ owned_at T.spans d
      held_at d h = held-owned T.links T.places T.spans m n d h

      equal-row : (p q : List Owned) → p ≡ q → eq_row p q ≡ true
      equal-row p q e = ap (eq_row p) (sym e) ∙ T-eq (eq_row p p) (same-row-refl p)

      both-none : (a b : Bool) → a ≡ false → b ≡ false → (a || b) ≡ false
      both-none a b p q = rw (p, q) refl

  -- ---- the check
  pub check-valid : (check T m n).number ≡ 0 → Accepted T m n
  unfolding check
  check-valid e =
      let o = judge-off n _ e in
      let b = or_off (ltb m 1) (ltb dim_limit m) o.0 in
      let a = accepted-local o.1.1 in
      record {
        low = ltb-false m 1 b.0;
        high = ltb-false dim_limit m b.1;
        fits = ltb-false (capacity T) n o.1.0;
        counts = a.1.0;
        objects = a.1.1;
        valid = local-valid M a.0;
      }

  pub valid-check : Accepted T m n → check T m n ≡ answer 0 0
  unfolding check
  valid-check A =
      off-judge n _
      ((λ i. le-ltb m 1 A.low i || le-ltb dim_limit m A.high i), (le-ltb (capacity T) n A.fits, local-accepted (valid-local M A.valid) A.counts A.objects))
