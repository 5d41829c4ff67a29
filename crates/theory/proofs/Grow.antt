-- Maps with no darts, with one dart more, and without spans are valid.
--     empty-local      NEW, and the blank map
--     grown-count, grown-dim      how many darts DART leaves, and of which dimension
--     free_local       a map of free darts
--     grown-told       the links, places and rows that DART leaves
--     grown-local      DART
--     adopted-told     the links, places and rows that ADOPT leaves
--     adopted-local    ADOPT
use Rattle.std.proofs.Common.{◌≡◌, ℕ, suc, ◌<◌, ◌≤◌, true, cond, ltb, List, [], ◌∷◌, ◌++◌, map, length, get_or, replicate, ℤ, pos, sym, refl, ap, ◌∙◌, subst, ⊎_elim, suc-le-suc, not-suc-le-zero, add-one, arith, length-append, le-ltb, lt-ltb}
use lib.ListN.{length-replicate, length-map, get_or-replicate, get_or-append, get_or-map}
use lib.Seq.{get_or-append_seam}
use Rattle.paper.specs.Map.{Owned, Dart, Map, spans_of, owned_of, with_row, fresh_dart, no_dart, count, dart, link, place, owned, row}
use Rattle.paper.specs.Span.{ordered, row_fits}
use Rattle.paper.specs.Edit.{empty, grown, adopted}
use Rattle.theory.specs.Local.{Local}
use Rattle.theory.specs.Told.{Told, Laws}
use Rattle.theory.proofs.Below.{less-cases}
use Rattle.theory.proofs.Told.{told-local, local-laws}

pub empty-local : (m : ℕ) → Local (empty m)
empty-local m = record {
  axes = λ d h. absurd (not-suc-le-zero h);
  coordinates = λ d h. absurd (not-suc-le-zero h);
  within = λ i d h l. absurd (not-suc-le-zero h);
  undo = λ i d h l. absurd (not-suc-le-zero h);
  pair = λ i j d h f l. absurd (not-suc-le-zero h);
  places = λ j d h o l. absurd (not-suc-le-zero h);
  rows = λ j d h l. absurd (not-suc-le-zero h);
  short = λ d h. absurd (not-suc-le-zero h);
  order = λ d h. absurd (not-suc-le-zero h);
}

empty-ordered : ordered [] ≡ true
unfolding ordered
empty-ordered = refl

-- a map whose darts are all free, with its places and rows in order
pub free_local : (M : Map) → ((d : ℕ) → d < count M → length (dart M d).links ≡ suc M.dim) → ((d : ℕ) → d < count M → length (place M d) ≡ M.dim)
    → ((i d : ℕ) → d < count M → i ≤ M.dim → link M i d ≡ d) → ((d : ℕ) → d < count M → (row_fits (row M d) ≡ true) × (ordered (row M d) ≡ true)) → Local M
free_local M a p f r = record {
  axes = a;
  coordinates = p;
  within = λ i d h l. subst (λ (k : ℕ). k < count M) (sym (f i d h l)) h;
  undo = λ i d h l. ap (link M i) (f i d h l) ∙ f i d h l;
  pair =
      λ i j d h g l. let li : i ≤ M.dim = omega arith in
      ap (λ (x : ℕ). link M i (link M j (link M i x))) (f j d h l) ∙ ap (λ (x : ℕ). link M i (link M j x)) (f i d h li) ∙ ap (link M i) (f j d h l) ∙ f i d h li;
  places = λ j d h o l. ap (place M) (f j d h l);
  rows = λ j d h l. ap (owned M) (f j d h (omega arith));
  short = λ d h. (r d h).0;
  order = λ d h. (r d h).1;
}

-- ---- DART: the new dart has the number N and is free
module _ (M : Map) where
  abbrev N : ℕ
  N = count M

  abbrev m : ℕ
  m = M.dim

  abbrev new : Dart
  new = fresh_dart m N

  -- the links, places and rows of the old darts, and of the new one
  abbrev γ : ℕ → ℕ → ℕ
  γ j d = cond (ltb d N) (link M j d) d

  abbrev p : ℕ → List ℤ
  p d = cond (ltb d N) (place M d) (replicate m (pos 0))

  abbrev r : ℕ → List Owned
  r d = cond (ltb d N) (owned M d) []

  pub grown-count : count (grown M) ≡ suc N
  unfolding grown
  grown-count = length-append M.darts (new ∷ []) ∙ add-one N

  old-dart : (d : ℕ) → d < N → dart (grown M) d ≡ dart M d
  unfolding grown
  old-dart d h = get_or-append M.darts (new ∷ []) no_dart d h

  new-dart : (d : ℕ) → d ≡ N → dart (grown M) d ≡ new
  unfolding grown
  new-dart d e = ap (λ (k : ℕ). get_or (M.darts ++ (new ∷ [])) k no_dart) e ∙ get_or-append_seam M.darts new [] no_dart

  is-old : {A : Type 0} (x y : A) (d : ℕ) → d < N → cond (ltb d N) x y ≡ x
  is-old x y d h = rw (lt-ltb d N h) refl

  is-new : {A : Type 0} (x y : A) (d : ℕ) → d ≡ N → cond (ltb d N) x y ≡ y
  is-new x y d e = rw (le-ltb d N (omega arith)) refl

  pub grown-told : Local M → Told (grown M) m (suc N) γ p r
  unfolding grown
  grown-told L = record {
    dims = refl;
    darts = grown-count;
    axes =
        λ d h. ⊎_elim (λ e. ap (λ x. length x.links) (new-dart d e) ∙ length-replicate (suc m) N) (λ l. ap (λ x. length x.links) (old-dart d l) ∙ L.axes d l)
        (less-cases h);
    links =
        λ j d h l. ⊎_elim
        (λ e. ap (λ x. get_or x.links j 0) (new-dart d e) ∙ get_or-replicate (suc m) j N 0 (suc-le-suc l) ∙ sym e ∙ sym (is-new (link M j d) d d e))
        (λ o. ap (λ x. get_or x.links j 0) (old-dart d o) ∙ sym (is-old (link M j d) d d o)) (less-cases h);
    places =
        λ d h. ⊎_elim (λ e. ap (λ x. x.place) (new-dart d e) ∙ sym (is-new (place M d) (replicate m (pos 0)) d e))
        (λ o. ap (λ x. x.place) (old-dart d o) ∙ sym (is-old (place M d) (replicate m (pos 0)) d o)) (less-cases h);
    rows =
        λ d h. ⊎_elim (λ e. ap owned_of (new-dart d e) ∙ sym (is-new (owned M d) [] d e)) (λ o. ap owned_of (old-dart d o) ∙ sym (is-old (owned M d) [] d o))
        (less-cases h);
  }

  grown-laws : Local M → Laws m (suc N) γ p r
  grown-laws L =
      let w = local-laws M L in
      record {
        coordinates =
            λ d h. ⊎_elim (λ e. ap length (is-new (place M d) (replicate m (pos 0)) d e) ∙ length-replicate m (pos 0))
            (λ o. ap length (is-old (place M d) (replicate m (pos 0)) d o) ∙ L.coordinates d o) (less-cases h);
        within =
            λ j d h l. ⊎_elim (λ e. subst (λ z. z < suc N) (sym (new-γ j d e)) h)
            (λ o. subst (λ z. z < suc N) (sym (old-γ j d o)) (let q = L.within j d o l in omega arith)) (less-cases h);
        undo =
            λ j d h l. ⊎_elim (λ e. ap (γ j) (new-γ j d e) ∙ new-γ j d e) (λ o. ap (γ j) (old-γ j d o) ∙ old-γ j (link M j d) (L.within j d o l) ∙ L.undo j d o l)
            (less-cases h);
        far =
            λ i j d h f l. ⊎_elim (λ e. ap (γ i) (new-γ j d e) ∙ new-γ i d e ∙ sym (ap (γ j) (new-γ i d e) ∙ new-γ j d e))
            (λ o. let li : i ≤ m = omega arith in
            ap (γ i) (old-γ j d o) ∙ old-γ i (link M j d) (L.within j d o l) ∙ w.far i j d o f l
            ∙ sym (ap (γ j) (old-γ i d o) ∙ old-γ j (link M i d) (L.within i d o li)))
            (less-cases h);
        places =
            λ j d h o l. ⊎_elim (λ e. ap p (new-γ j d e))
            (λ q. ap p (old-γ j d q) ∙ is-old (place M (link M j d)) (replicate m (pos 0)) (link M j d) (L.within j d q l) ∙ L.places j d q o l
            ∙ sym (is-old (place M d) (replicate m (pos 0)) d q))
            (less-cases h);
        rows =
            λ j d h l. ⊎_elim (λ e. ap r (new-γ j d e))
            (λ q. ap r (old-γ j d q) ∙ is-old (owned M (link M j d)) [] (link M j d) (L.within j d q (omega arith)) ∙ L.rows j d q l ∙ sym (is-old (owned M d) [] d q))
            (less-cases h);
        short =
            λ d h. ⊎_elim (λ e. ap (λ r. row_fits (spans_of r)) (is-new (owned M d) [] d e)) (λ o. ap (λ r. row_fits (spans_of r)) (is-old (owned M d) [] d o) ∙ L.short d o)
            (less-cases h);
        order =
            λ d h. ⊎_elim (λ e. ap (λ r. ordered (spans_of r)) (is-new (owned M d) [] d e) ∙ empty-ordered)
            (λ o. ap (λ r. ordered (spans_of r)) (is-old (owned M d) [] d o) ∙ L.order d o) (less-cases h);
      }
    where
      new-γ : (j d : ℕ) → d ≡ N → γ j d ≡ d
      new-γ j d e = is-new (link M j d) d d e

      old-γ : (j d : ℕ) → d < N → γ j d ≡ link M j d
      old-γ j d h = is-old (link M j d) d d h

  pub grown-dim : {k : ℕ} → m ≤ k → (grown M).dim ≤ k
  unfolding grown
  grown-dim h = h

  pub grown-local : Local M → Local (grown M)
  grown-local L = told-local (grown-told L) (grown-laws L)

  -- ---- ADOPT: the same links and places, no spans
  pub adopted-told : Local M → Told (adopted M) m N (link M) (place M) (λ d. [])
  unfolding adopted
  adopted-told L = record {
    dims = refl;
    darts = length-map M.darts bare;
    axes = λ d h. ap (λ x. length x.links) (at d) ∙ L.axes d h;
    links = λ i d h l. ap (λ x. get_or x.links i 0) (at d);
    places = λ d h. ap (λ x. x.place) (at d);
    rows = λ d h. ap owned_of (at d);
  }
    where
      bare : Dart → Dart
      bare = with_row []

      at : (d : ℕ) → get_or (map bare M.darts) d no_dart ≡ bare (dart M d)
      at d = get_or-map bare M.darts d no_dart

  pub adopted-local : Local M → Local (adopted M)
  adopted-local L =
      told-local (adopted-told L) (record {
        coordinates = L.coordinates;
        within = L.within;
        undo = L.undo;
        far = (local-laws M L).far;
        places = L.places;
        rows = λ j d h l. refl;
        short = λ d h. refl;
        order = λ d h. empty-ordered;
      })
