-- Darts whose pieces are known without their cell, and the cells of the level below the top.
--     row-none         a row of no spans is empty
--     none-covered     it covers nothing
--     bare-count       a bare dart has no pieces
--     count-bare       a dart without pieces at some level is bare
--     bare-first       all blocks of a bare dart start at one row
--     cell-rows        at the level below the top a cell has two rows, that of a dart and that of its neighbour over the boundary
use Rattle.std.proofs.Common.{◌≡◌, ℕ, suc, ◌<◌, ◌≤◌, true, false, eqb, ◌⊎◌, List, [], ◌∷◌, length, sym, refl, ap, ◌∙◌, inl, inr, ⊎_elim, le_refl, arith, eqb-true}
use mathlib.Core.List.Memᴰ
use Rattle.paper.specs.Below.{any_of, only}
use Rattle.paper.specs.Map.{Map, Span, count, link, owned, row}
use Rattle.paper.specs.Orbit.{here, step}
use Rattle.paper.specs.Cell.{Cell}
use Rattle.paper.specs.Ends.{stretches, covered_by, ends}
use Rattle.paper.specs.Lift.{at}
use Rattle.theory.specs.Local.{Local}
use Rattle.theory.specs.Member.{◌∈◌}
use Rattle.theory.proofs.Bool.{clash, decided, eq-or, lt-or}
use Rattle.theory.proofs.Member.{end-in}
use Rattle.theory.proofs.Height.{covered-in, span-ends, foot-covered}
use Rattle.theory.proofs.Row.{ordered-proper}
use Rattle.theory.proofs.Ends.{ends-own}
use Rattle.theory.proofs.Valid.{commute, but_out, reach-within}
use Rattle.number.specs.Count.{piece_count}
use Rattle.number.specs.First.{first}
use Rattle.number.specs.Own.{bare}
use Rattle.number.proofs.First.{first_next, dart-found}

pub row-none : (r : List Span) → length r ≡ 0 → r ≡ []
row-none [] e = refl
row-none (x ∷ r) e = absurd (let z : ⊥ = omega arith in z)

inhabited : {A : Type 0} (l : List A) → eqb (length l) 0 ≡ false → (x : A) × (x ∈ l)
inhabited [] e = absurd (clash refl e)
inhabited (x ∷ l) e = (x, Memᴰ.head refl)

bare-row : (M : Map) (d : ℕ) → bare M d ≡ true → row M d ≡ []
bare-row M d b = row-none (row M d) (eqb-true (length (row M d)) 0 b)

-- no span, no piece
pub none-covered : (l : List Span) → length (covered_by [] l) ≡ 0
unfolding covered_by any_of only
none-covered [] = refl
none-covered (p ∷ l) = none-covered l

pub bare-count : (M : Map) (d k : ℕ) → bare M d ≡ true → piece_count M d k ≡ 0
unfolding piece_count
bare-count M d k b = ap (λ (r : List Span). length (covered_by r (stretches (ends M k d)))) (bare-row M d b) ∙ none-covered (stretches (ends M k d))

pub bare-first : (M : Map) (d k : ℕ) → bare M d ≡ true → first M d (suc k) ≡ first M d k
bare-first M d k b = let a = first_next M d k in let c = bare-count M d k b in omega arith

module _ (M : Map) (L : Local M) where
  pub count-bare : (d k : ℕ) → d < count M → k ≤ M.dim → piece_count M d k ≡ 0 → bare M d ≡ true
  count-bare d k h l z = ⊎_elim (λ b. b) (λ b. absurd (some (inhabited (row M d) b))) (decided (bare M d))
    where
      some : (x : Span) × (x ∈ row M d) → ⊥
      some x =
          let t = x.0.lo in
          let c = covered-in (row M d) x.0 t true x.1 (foot-covered x.0 (ordered-proper (row M d) x.0 (L.order d h) x.1)) in
          let e = end-in (ends M k d) t (ends-own M L k d t h (span-ends (row M d) x.0 x.1).0) in
          let j = dart-found M L (at d k t true) (record { dart = h; level = l; end = e; side = c }) in
          let g = j.1 in
          omega arith

  -- ---- the level below the top: a cell has the rows of a dart and of its neighbour over the boundary, and so has each of its darts
  abbrev over : ℕ → ℕ
  over d = link M M.dim d

  abbrev SameTwo : ℕ → ℕ → Type 0
  SameTwo d e = ((owned M e ≡ owned M d) × (owned M (over e) ≡ owned M (over d))) ⊎ ((owned M e ≡ owned M (over d)) × (owned M (over e) ≡ owned M d))

  -- a link along another axis leaves both rows, and that over the boundary changes them
  shift : (d e g : ℕ) → owned M g ≡ owned M e → owned M (over g) ≡ owned M (over e) → SameTwo d e → SameTwo d g
  shift d e g a b = ⊎_elim (λ r. inl (a ∙ r.0, b ∙ r.1)) (λ r. inr (a ∙ r.0, b ∙ r.1))

  swap : (d e g : ℕ) → owned M g ≡ owned M (over e) → owned M (over g) ≡ owned M e → SameTwo d e → SameTwo d g
  swap d e g a b = ⊎_elim (λ r. inr (a ∙ r.1, b ∙ r.0)) (λ r. inl (a ∙ r.1, b ∙ r.0))

  pub cell-rows : (k d e : ℕ) → suc k ≡ M.dim → d < count M → Cell M k d e → SameTwo d e
  cell-rows k d e p h here = inl (refl, refl)
  cell-rows k d e p h (step {e = f} {g = g} r j l x q) = ⊎_elim along across (eq-or j M.dim) (cell-rows k d f p h r)
    where
      fn : f < count M
      fn = reach-within M L h r

      along : j ≡ M.dim → SameTwo d f → SameTwo d g
      along z =
          let a : over f ≡ g = ap (λ (i : ℕ). link M i f) (sym z) ∙ q in
          swap d f g (ap (owned M) (sym a)) (ap (λ (y : ℕ). owned M (over y)) (sym a) ∙ ap (owned M) (L.undo M.dim f fn (le_refl M.dim)))

      across : (j ≡ M.dim → ⊥) → SameTwo d f → SameTwo d g
      across z =
          let a = but_out k j x in
          let b : j < k = ⊎_elim (λ y. y) (λ y. absurd (z (omega arith))) (lt-or j k a) in
          shift d f g (ap (owned M) (sym q) ∙ L.rows j f fn (omega arith))
          (ap (λ (y : ℕ). owned M (over y)) (sym q)
          ∙ ap (owned M) (sym (commute M L j M.dim f fn (omega arith) (le_refl M.dim)))
          ∙ L.rows j (over f) (L.within M.dim f fn (le_refl M.dim)) (omega arith))
