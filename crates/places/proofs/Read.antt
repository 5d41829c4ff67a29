-- What the write of pieces leaves, row by row.
--     coords-in, coords-other      the coordinates of a row, and of others
--     pair-foot, pair-head, pair-other     the rows of a pair, and others
--     pieces-length                the table keeps its length
--     pieces-other                 rows before the first and behind the last
--     placed                       the reading of the write
use Rattle.std.proofs.Common.{◌≡◌, ℕ, zero, suc, ◌+◌, ◌*◌, ◌<◌, ◌≤◌, ◌⊎◌, List, [], ◌∷◌, length, get_or, ℤ, pos, refl, ◌∙◌, inl, inr, ⊎_elim, le_of_suc-le-suc, not-suc-le-zero, arith, get_or-set_other, get_or-set_same}
use Rattle.paper.specs.Width.{place_width}
use Rattle.paper.specs.Map.{Span}
use Rattle.theory.proofs.Below.{less-cases}
use Rattle.number.specs.First.{no_piece}
use Rattle.places.specs.Write.{coord_at, coord_of, put_coords, put_place, put_pair, put_pieces, Placed}
use Rattle.places.proofs.Writing.{coords-length, pair-length}

module _ (places : List ℤ) (d m : ℕ) where
  coords-other : (b : ℕ) (t : ℤ) (x : ℕ) (op : List ℤ) (q : ℕ) → ((a : ℕ) → a < b → q ≡ x * place_width + a → ⊥)
      → get_or (put_coords b places d m t x op) q (pos 0) ≡ get_or op q (pos 0)
  unfolding put_coords
  coords-other zero t x op q ne = refl
  coords-other (suc b) t x op q ne =
      get_or-set_other (put_coords b places d m t x op) (x * place_width + b) q (coord_of places d m t b) (pos 0) (ne b (omega arith))
      ∙ coords-other b t x op q (λ a h. ne a (omega arith))

  coords-in : (b : ℕ) (t : ℤ) (x : ℕ) (op : List ℤ) (a : ℕ) → x * place_width + b ≤ length op → a < b → coord_at (put_coords b places d m t x op) x a ≡ coord_of places d m t a
  unfolding put_coords
  coords-in zero t x op a l h = absurd (not-suc-le-zero h)
  coords-in (suc b) t x op a l h = ⊎_elim
      (λ (e : a ≡ b).
      let k = coords-length places d m b t x op in
      rw e (get_or-set_same (put_coords b places d m t x op) (x * place_width + b) (coord_of places d m t b) (pos 0) (rw k (omega arith))))
      (λ l'. get_or-set_other (put_coords b places d m t x op) (x * place_width + b) (x * place_width + a) (coord_of places d m t b) (pos 0) (λ e. omega arith)
      ∙ coords-in b t x op a (omega arith) l')
      (less-cases h)

  place_other : (t : ℤ) (x : ℕ) (op : List ℤ) (z a : ℕ) → a < place_width → (z ≡ x → ⊥) → coord_at (put_place places d m t x op) z a ≡ coord_at op z a
  place_other t x op z a h ne = coords-other place_width t x op (z * place_width + a) (λ b k e. ne (omega arith))

  module _ (f g : ℤ) (x : ℕ) (op : List ℤ) (a : ℕ) (h : a < place_width) where
    pair-other : (z : ℕ) → (z < x) ⊎ (x + 2 ≤ z) → coord_at (put_pair places d m f g x op) z a ≡ coord_at op z a
    unfolding put_pair
    pair-other z k =
        place_other g (x + 1) (put_place places d m f x op) z a h (λ e. ⊎_elim (λ l. omega arith) (λ l. omega arith) k)
        ∙ place_other f x op z a h (λ e. ⊎_elim (λ l. omega arith) (λ l. omega arith) k)

    pair-foot : (x + 2) * place_width ≤ length op → coord_at (put_pair places d m f g x op) x a ≡ coord_of places d m f a
    unfolding put_pair
    pair-foot l =
        place_other g (x + 1) (put_place places d m f x op) x a h (λ e. omega arith) ∙ coords-in place_width f x op a (omega arith) h

    pair-head : (x + 2) * place_width ≤ length op → coord_at (put_pair places d m f g x op) (x + 1) a ≡ coord_of places d m g a
    unfolding put_pair
    pair-head l =
        let k = coords-length places d m place_width f x op in
        coords-in place_width g (x + 1) (put_place places d m f x op) a (rw k (omega arith)) h

  pub pieces-length : (P : List Span) (x : ℕ) (op : List ℤ) → length (put_pieces places d m P x op) ≡ length op
  unfolding put_pieces
  pieces-length [] x op = refl
  pieces-length (q ∷ P) x op = pieces-length P (x + 2) (put_pair places d m q.lo q.hi x op) ∙ pair-length places d m q.lo q.hi x op

  pieces-other : (P : List Span) (x : ℕ) (op : List ℤ) (z a : ℕ) → a < place_width → (z < x) ⊎ (x + length P * 2 ≤ z) → coord_at (put_pieces places d m P x op) z a ≡ coord_at op z a
  unfolding put_pieces
  pieces-other [] x op z a h k = refl
  pieces-other (q ∷ P) x op z a h k =
      pieces-other P (x + 2) (put_pair places d m q.lo q.hi x op) z a h (⊎_elim (λ l. inl (omega arith)) (λ l. inr (omega arith)) k)
      ∙ pair-other q.lo q.hi x op a h z (⊎_elim (λ l. inl l) (λ l. inr (omega arith)) k)

  pieces-foot : (P : List Span) (x : ℕ) (op : List ℤ) (j a : ℕ) → (x + length P * 2) * place_width ≤ length op → j < length P → a < place_width
      → coord_at (put_pieces places d m P x op) (x + j * 2) a ≡ coord_of places d m (get_or P j no_piece).lo a
  unfolding put_pieces
  pieces-foot [] x op j a l h k = absurd (not-suc-le-zero h)
  pieces-foot (q ∷ P) x op zero a l h k =
      let e : x + 0 * 2 ≡ x = omega arith in
      rw e (pieces-other P (x + 2) (put_pair places d m q.lo q.hi x op) x a k (inl (omega arith)) ∙ pair-foot q.lo q.hi x op a k (omega arith))
  pieces-foot (q ∷ P) x op (suc j) a l h k =
      let e : x + suc j * 2 ≡ x + 2 + j * 2 = omega arith in
      let o = pair-length places d m q.lo q.hi x op in
      rw e (pieces-foot P (x + 2) (put_pair places d m q.lo q.hi x op) j a (rw o (omega arith)) (le_of_suc-le-suc h) k)

  pieces-head : (P : List Span) (x : ℕ) (op : List ℤ) (j a : ℕ) → (x + length P * 2) * place_width ≤ length op → j < length P → a < place_width
      → coord_at (put_pieces places d m P x op) (x + j * 2 + 1) a ≡ coord_of places d m (get_or P j no_piece).hi a
  unfolding put_pieces
  pieces-head [] x op j a l h k = absurd (not-suc-le-zero h)
  pieces-head (q ∷ P) x op zero a l h k =
      let e : x + 0 * 2 ≡ x = omega arith in
      rw e (pieces-other P (x + 2) (put_pair places d m q.lo q.hi x op) (x + 1) a k (inl (omega arith)) ∙ pair-head q.lo q.hi x op a k (omega arith))
  pieces-head (q ∷ P) x op (suc j) a l h k =
      let e : x + suc j * 2 ≡ x + 2 + j * 2 = omega arith in
      let o = pair-length places d m q.lo q.hi x op in
      rw e (pieces-head P (x + 2) (put_pair places d m q.lo q.hi x op) j a (rw o (omega arith)) (le_of_suc-le-suc h) k)

  pub placed : (P : List Span) (x : ℕ) (op : List ℤ) → (x + length P * 2) * place_width ≤ length op → Placed places d m P x op (put_pieces places d m P x op)
  unfolding coord_of
  placed P x op l = record {
    long = pieces-length P x op;
    foot = λ j a h k. pieces-foot P x op j a l h k;
    head = λ j a h k. pieces-head P x op j a l h k;
    other = λ z a h k. pieces-other P x op z a h k;
  }
