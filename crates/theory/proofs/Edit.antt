-- Edits of whole cells and of one axis keep a map valid.
--     Apart, far-in, far-out      two axes at distance 2 or more, and the test of it
--     swap             links along such axes can be taken in either order
--     orbit-closed, wing-closed, cell-closed     an orbit is closed under its axes
--     relinked-told    what a map has where one axis is relinked
--     relinked-local   one axis relinked by a function that undoes itself and goes along with the axes far from it
--     loose, freed-at  what UNSEW frees: the darts of A and their partners
--     unsewn-local     UNSEW
--     placed_local     PLACE
--     respanned-local  SPAN and CLEAR, where the new row is in order
use Rattle.std.proofs.Common.{◌≡◌, ℕ, ◌+◌, ◌<◌, ◌≤◌, Bool, true, false, cond, ◌||◌, eqb, leb, ◌⊎◌, List, length, get_or, set, ℤ, sym, refl, ap, ◌∙◌, subst, inl, inr, ⊎_elim, suc-le-suc, arith, length-set, get_or-set_other, get_or-set_same, eq-eqb, ne_eqb, le-leb, leb-true}
use mathlib.Core.Bool.{or_comm}
use Rattle.paper.specs.Map.{Owned, Map, spans_of, with_links, with_place, with_row, count, dart, link, place, owned}
use Rattle.paper.specs.Orbit.{step, marked, orbit}
use Rattle.paper.specs.Cell.{but, cell, corner, top}
use Rattle.paper.specs.Span.{ordered, row_fits}
use Rattle.paper.specs.Sew.{far, wing}
use Rattle.paper.specs.Edit.{relinked, freed, unsewn, placed, respanned}
use Rattle.theory.specs.Local.{Local}
use Rattle.theory.specs.Told.{Told}
use Rattle.theory.proofs.Bool.{or_case, or_left, or_right, bool-ext, eq-or}
use Rattle.theory.proofs.Below.{list_at}
use Rattle.theory.proofs.Valid.{commute, in-orbit, of-orbit, but_in}
use Rattle.theory.proofs.Told.{told-local, local-laws, remade-told}

-- two axes at distance 2 or more, and the test of it
abbrev pub Apart : ℕ → ℕ → Type 0
Apart i j = (j + 2 ≤ i) ⊎ (i + 2 ≤ j)

pub far-in : (i j : ℕ) → Apart i j → far i j ≡ true
far-in i j (inl h) = or_left (leb (j + 2) i) (leb (i + 2) j) (le-leb _ _ h)
far-in i j (inr h) = or_right (leb (j + 2) i) (leb (i + 2) j) (le-leb _ _ h)

pub far-out : (i j : ℕ) → far i j ≡ true → Apart i j
far-out i j t = ⊎_elim (λ e. inl (leb-true _ _ e)) (λ e. inr (leb-true _ _ e)) (or_case (leb (j + 2) i) (leb (i + 2) j) t)

module _ (M : Map) (L : Local M) where
  abbrev N : ℕ
  N = count M

  abbrev m : ℕ
  m = M.dim

  abbrev α : ℕ → ℕ → ℕ
  α = link M

  pub swap : (i j d : ℕ) → d < N → i ≤ m → j ≤ m → Apart i j → α i (α j d) ≡ α j (α i d)
  swap i j d h l g (inl f) = sym (commute M L j i d h f l)
  swap i j d h l g (inr f) = commute M L i j d h f g

  pub orbit-closed : (S : ℕ → Bool) (a j d : ℕ) → a < N → d < N → j ≤ m → S j ≡ true → marked (orbit α m S N a) (α j d) ≡ marked (orbit α m S N a) d
  orbit-closed S a j d h l jl x =
      bool-ext (marked (orbit α m S N a) (α j d)) (marked (orbit α m S N a) d)
      (λ u. in-orbit M L S a d h (step (of-orbit M L S a (α j d) h (L.within j d l jl) u) j jl x (L.undo j d l jl)))
      (λ u. in-orbit M L S a (α j d) h (step (of-orbit M L S a d h l u) j jl x refl))

  pub wing-closed : (i a j d : ℕ) → a < N → d < N → j ≤ m → Apart i j → marked (wing M i a) (α j d) ≡ marked (wing M i a) d
  unfolding wing
  wing-closed i a j d h l jl x = orbit-closed (far i) a j d h l jl (far-in i j x)

  pub cell-closed : (k a j d : ℕ) → a < N → d < N → j ≤ m → (j ≡ k → ⊥) → marked (cell M k a) (α j d) ≡ marked (cell M k a) d
  unfolding cell
  cell-closed k a j d h l jl ne = orbit-closed (but k) a j d h l jl (but_in k j ne)

  -- ---- one axis relinked
  module _ (i : ℕ) (φ : ℕ → ℕ) (il : i ≤ m) where
    abbrev pub β : ℕ → ℕ → ℕ
    β j d = cond (eqb j i) (φ d) (α j d)

    at_i : (j d : ℕ) → j ≡ i → β j d ≡ φ d
    at_i j d e = rw (eq-eqb j i e) refl

    off-i : (j d : ℕ) → (j ≡ i → ⊥) → β j d ≡ α j d
    off-i j d e = rw (ne_eqb j i e) refl

    pub relinked-told : Told (relinked M i φ) m N β (place M) (owned M)
    unfolding relinked
    relinked-told =
        let X =
        remade-told M (λ d. with_links (set (dart M d).links i (φ d)) (dart M d))
        (λ d h. length-set (dart M d).links i (φ d) ∙ L.axes d h) in
        record { dims = X.dims; darts = X.darts; axes = X.axes; links = λ j d h l. X.links j d h l ∙ set_at j d h (eq-or j i); places = X.places; rows = X.rows }
      where
        set_at : (j d : ℕ) → d < N → (j ≡ i) ⊎ (j ≡ i → ⊥) → get_or (set (dart M d).links i (φ d)) j 0 ≡ β j d
        set_at j d h (inl e) =
            ap (λ (x : ℕ). get_or (set (dart M d).links i (φ d)) x 0) e
            ∙ get_or-set_same (dart M d).links i (φ d) 0 (subst (λ (k : ℕ). i < k) (sym (L.axes d h)) (suc-le-suc il))
            ∙ sym (at_i j d e)
        set_at j d h (inr n) = get_or-set_other (dart M d).links i j (φ d) 0 n ∙ sym (off-i j d n)

    pub relinked-local : ((d : ℕ) → d < N → φ d < N) → ((d : ℕ) → d < N → φ (φ d) ≡ d)
        → ((j d : ℕ) → d < N → j ≤ m → Apart i j → φ (α j d) ≡ α j (φ d))
        → (1 ≤ i → (d : ℕ) → d < N → place M (φ d) ≡ place M d) → (i < m → (d : ℕ) → d < N → owned M (φ d) ≡ owned M d) → Local (relinked M i φ)
    relinked-local w u c p r = told-local relinked-told (record {
      coordinates = L.coordinates;
      within = λ j d h l. ⊎_elim (λ e. subst (λ z. z < N) (sym (at_i j d e)) (w d h)) (λ e. subst (λ z. z < N) (sym (off-i j d e)) (L.within j d h l)) (eq-or j i);
      undo =
          λ j d h l. ⊎_elim (λ e. at_i j (β j d) e ∙ ap φ (at_i j d e) ∙ u d h) (λ e. off-i j (β j d) e ∙ ap (α j) (off-i j d e) ∙ L.undo j d h l) (eq-or j i);
      far = λ j k d h f l. both j k d h f l (eq-or j i) (eq-or k i);
      places =
          λ j d h g l. ⊎_elim (λ e. ap (place M) (at_i j d e) ∙ p (subst (λ z. 1 ≤ z) e g) d h) (λ e. ap (place M) (off-i j d e) ∙ L.places j d h g l) (eq-or j i);
      rows = λ j d h l. ⊎_elim (λ e. ap (owned M) (at_i j d e) ∙ r (subst (λ z. z < m) e l) d h) (λ e. ap (owned M) (off-i j d e) ∙ L.rows j d h l) (eq-or j i);
      short = L.short;
      order = L.order;
    })
      where
        both : (j k d : ℕ) → d < N → j + 2 ≤ k → k ≤ m → (j ≡ i) ⊎ (j ≡ i → ⊥) → (k ≡ i) ⊎ (k ≡ i → ⊥) → β j (β k d) ≡ β k (β j d)
        both j k d h f l (inl e) (inl e') = absurd (omega arith)
        both j k d h f l (inl e) (inr n) =
            at_i j (β k d) e ∙ ap φ (off-i k d n) ∙ c k d h l (inr (subst (λ z. z + 2 ≤ k) e f)) ∙ ap (α k) (sym (at_i j d e)) ∙ sym (off-i k (β j d) n)
        both j k d h f l (inr n) (inl e) =
            off-i j (β k d) n ∙ ap (α j) (at_i k d e) ∙ sym (c j d h (omega arith) (inl (subst (λ z. j + 2 ≤ z) e f))) ∙ ap φ (sym (off-i j d n)) ∙ sym (at_i k (β j d) e)
        both j k d h f l (inr n) (inr n') =
            off-i j (β k d) n ∙ ap (α j) (off-i k d n') ∙ commute M L j k d h f l ∙ ap (α k) (sym (off-i j d n)) ∙ sym (off-i k (β j d) n')

  -- ---- UNSEW: A with its partners is closed under J and along i
  module _ (i a : ℕ) (il : i ≤ m) (an : a < N) where
    -- d is freed
    pub loose : ℕ → Bool
    loose d = marked (wing M i a) d || marked (wing M i a) (α i d)

    pub freed-at : (d : ℕ) → d < N → marked (freed M i a) d ≡ loose d
    unfolding freed loose
    freed-at d h = list_at N (λ d. marked (wing M i a) d || marked (wing M i a) (α i d)) false d h

    φ : ℕ → ℕ
    φ d = cond (marked (freed M i a) d) d (α i d)

    free-yes : (d : ℕ) → d < N → loose d ≡ true → φ d ≡ d
    unfolding φ
    free-yes d h e = simp (freed-at d h, e)

    free-no : (d : ℕ) → d < N → loose d ≡ false → φ d ≡ α i d
    unfolding φ
    free-no d h e = simp (freed-at d h, e)

    loose-i : (d : ℕ) → d < N → loose (α i d) ≡ loose d
    unfolding loose
    loose-i d h =
        ap (λ z. marked (wing M i a) (α i d) || marked (wing M i a) z) (L.undo i d h il) ∙ or_comm (marked (wing M i a) (α i d)) (marked (wing M i a) d)

    loose-far : (j d : ℕ) → d < N → j ≤ m → Apart i j → loose (α j d) ≡ loose d
    unfolding loose
    loose-far j d h l f =
        λ t. wing-closed i a j d an h l f t || (ap (marked (wing M i a)) (swap i j d h il l f) ∙ wing-closed i a j (α i d) an (L.within i d h il) l f) t

    pub unsewn-local : Local (unsewn M i a)
    unfolding unsewn φ
    unsewn-local =
        relinked-local i φ il (λ d h. go1 d h (loose d) refl) (λ d h. go2 d h (loose d) refl) (λ j d h l f. go3 j d h l f (loose d) refl)
        (λ g d h. go4 d h (loose d) refl g) (λ g d h. go5 d h (loose d) refl g)
      where
        go1 : (d : ℕ) → d < N → (b : Bool) → loose d ≡ b → φ d < N
        go1 d h true e = subst (λ z. z < N) (sym (free-yes d h e)) h
        go1 d h false e = subst (λ z. z < N) (sym (free-no d h e)) (L.within i d h il)

        go2 : (d : ℕ) → d < N → (b : Bool) → loose d ≡ b → φ (φ d) ≡ d
        go2 d h true e = ap φ (free-yes d h e) ∙ free-yes d h e
        go2 d h false e = ap φ (free-no d h e) ∙ free-no (α i d) (L.within i d h il) (loose-i d h ∙ e) ∙ L.undo i d h il

        go3 : (j d : ℕ) → d < N → j ≤ m → Apart i j → (b : Bool) → loose d ≡ b → φ (α j d) ≡ α j (φ d)
        go3 j d h l f true e = free-yes (α j d) (L.within j d h l) (loose-far j d h l f ∙ e) ∙ ap (α j) (sym (free-yes d h e))
        go3 j d h l f false e = free-no (α j d) (L.within j d h l) (loose-far j d h l f ∙ e) ∙ swap i j d h il l f ∙ ap (α j) (sym (free-no d h e))

        go4 : (d : ℕ) → d < N → (b : Bool) → loose d ≡ b → 1 ≤ i → place M (φ d) ≡ place M d
        go4 d h true e g = ap (place M) (free-yes d h e)
        go4 d h false e g = ap (place M) (free-no d h e) ∙ L.places i d h g il

        go5 : (d : ℕ) → d < N → (b : Bool) → loose d ≡ b → i < m → owned M (φ d) ≡ owned M d
        go5 d h true e g = ap (owned M) (free-yes d h e)
        go5 d h false e g = ap (owned M) (free-no d h e) ∙ L.rows i d h g

  -- ---- PLACE: a whole corner
  pub placed_local : (d x : ℕ) (z : ℤ) → d < N → Local (placed M d x z)
  unfolding placed
  placed_local d x z dn =
      let w = local-laws M L in
      told-local (remade-told M (λ e. with_place (new e) (dart M e)) L.axes) (record {
        coordinates = λ e h. long e h (marked (corner M d) e);
        within = w.within;
        undo = w.undo;
        far = w.far;
        places = λ j e h o l. λ t. cond (cell-closed 0 d j e dn h l (λ q. omega arith) t) (set (L.places j e h o l t) x z) (L.places j e h o l t);
        rows = w.rows;
        short = w.short;
        order = w.order;
      })
    where
      new : ℕ → List ℤ
      new e = cond (marked (corner M d) e) (set (place M e) x z) (place M e)

      long : (e : ℕ) → e < N → (b : Bool) → length (cond b (set (place M e) x z) (place M e)) ≡ m
      long e h true = length-set (place M e) x z ∙ L.coordinates e h
      long e h false = L.coordinates e h

  -- ---- SPAN and CLEAR: a whole top cell
  pub respanned-local : (d : ℕ) (f : List Owned → List Owned) → d < N
      → ((e : ℕ) → e < N → marked (top M d) e ≡ true → (row_fits (spans_of (f (owned M e))) ≡ true) × (ordered (spans_of (f (owned M e))) ≡ true)) → Local (respanned M d f)
  unfolding respanned
  respanned-local d f dn ok =
      let w = local-laws M L in
      told-local (remade-told M (λ e. with_row (cond (marked (top M d) e) (f (owned M e)) (owned M e)) (dart M e)) L.axes) (record {
        coordinates = w.coordinates;
        within = w.within;
        undo = w.undo;
        far = w.far;
        places = w.places;
        rows = λ j e h l. λ t. cond (cell-closed m d j e dn h (omega arith) (λ q. omega arith) t) (f (L.rows j e h l t)) (L.rows j e h l t);
        short = λ e h. fits e h (marked (top M d) e) refl;
        order = λ e h. tidy e h (marked (top M d) e) refl;
      })
    where
      fits : (e : ℕ) → e < N → (b : Bool) → marked (top M d) e ≡ b → row_fits (spans_of (cond b (f (owned M e)) (owned M e))) ≡ true
      fits e h true q = (ok e h q).0
      fits e h false q = L.short e h

      tidy : (e : ℕ) → e < N → (b : Bool) → marked (top M d) e ≡ b → ordered (spans_of (cond b (f (owned M e)) (owned M e))) ≡ true
      tidy e h true q = (ok e h q).1
      tidy e h false q = L.order e h
