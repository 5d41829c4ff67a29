-- `cells` is the number of cells: each cell has exactly one lowest dart.
--     lowest-of-cell   a cell has a lowest dart
--     lowest-unique    it has no other
use Rattle.std.proofs.Common.{◌≡◌, ℕ, ◌<◌, true, not, ap, ◌∙◌, ⊎_elim, arith}
use Rattle.paper.specs.Below.{any_below, first_below}
use Rattle.paper.specs.Map.{Map, count}
use Rattle.paper.specs.Orbit.{here, marked}
use Rattle.paper.specs.Cell.{but, Cell, cell, lowest}
use Rattle.theory.specs.Local.{Local}
use Rattle.theory.proofs.Bool.{clash, not-true, off, eq-or, lt-or}
use Rattle.theory.proofs.Below.{any-in, any_out, first_passes, first-before, first_found}
use Rattle.theory.proofs.Orbit.{reach-trans}
use Rattle.theory.proofs.Valid.{reach-within, reach-sym, orbit-same, in_cell, of-cell}

module _ (M : Map) (L : Local M) (i d : ℕ) (h : d < count M) where
  pub lowest-of-cell : (e : ℕ) × Cell M i d e × (lowest M i e ≡ true)
  unfolding lowest cell
  lowest-of-cell =
      let l = first_found (count M) (marked (cell M i d)) d h (in_cell M L i d d h here) in
      let g : e < count M = omega arith in
      let r = of-cell M L i d e h g (first_passes (count M) (marked (cell M i d)) g) in
      (e, r, ap not (not-true (any_below e (marked (cell M i e))) (λ t. none r (any_out e (marked (cell M i e)) t))))
    where
      e : ℕ
      e = first_below (count M) (marked (cell M i d))

      -- a lower dart of e's cell would be one of d's
      none : Cell M i d e → (x : ℕ) × (x < e) × (marked (cell M i e) x ≡ true) → ⊥
      none r x = unfold cell in
          let g = reach-within M L h r in
          let y = x.1 in
          clash (orbit-same M L (but i) d e x.0 h (omega arith) r ∙ x.2) (first-before (count M) (marked (cell M i d)) x.0 x.1)

  pub lowest-unique : (e g : ℕ) → Cell M i d e → Cell M i d g → lowest M i e ≡ true → lowest M i g ≡ true → e ≡ g
  lowest-unique e g r q p u = ⊎_elim (λ s. s) (λ ne. absurd (⊎_elim (lower e g r q u) (lower g e q r p) (lt-or e g ne))) (eq-or e g)
    where
      -- the lowest dart of the cell has none below it
      lower : (e g : ℕ) → Cell M i d e → Cell M i d g → lowest M i g ≡ true → e < g → ⊥
      lower e g r q u l = unfold lowest in
          clash (any-in g (marked (cell M i g)) e l (in_cell M L i g e (reach-within M L h q) (reach-trans (reach-sym M L h q) r)))
          (off (any_below g (marked (cell M i g))) u)
