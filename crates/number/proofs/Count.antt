-- The number of lifted darts, as a sum of pieces.
--     level-number     the lifted darts of d at the levels below k
--     first-number     the lifted darts of the plan darts below d: `number-block` counts from there
--     lifted-length    all of them
use Rattle.std.proofs.Common.{◌≡◌, ℕ, zero, suc, ◌*◌, ◌<◌, ◌≤◌, List, length, refl, ◌∙◌, le_refl, arith, length-append}
use Rattle.paper.specs.Below.{sum_below, join_below}
use Rattle.paper.specs.Map.{Map, count}
use Rattle.paper.specs.Lift.{lifted_at, lifted_darts}
use Rattle.theory.specs.Local.{Local}
use Rattle.theory.proofs.Block.{block-length}
use Rattle.theory.proofs.Number.{lifted_of}
use Rattle.number.specs.Count.{piece_count, below}

-- lists of twice so many members as numbers say
join-twice : {A : Type 0} (n : ℕ) (f : ℕ → List A) (g : ℕ → ℕ) → ((d : ℕ) → d < n → length (f d) ≡ 2 * g d) → length (join_below n f) ≡ 2 * sum_below n g
unfolding join_below sum_below
join-twice zero f g e = refl
join-twice (suc n) f g e =
    let a = join-twice n f g (λ d h. e d (omega arith)) in
    let b = e n (le_refl (suc n)) in
    length-append (join_below n f) (f n) ∙ omega arith

module _ (M : Map) (L : Local M) where
  pub level-number : (d k : ℕ) → d < count M → length (join_below k (lifted_at M d)) ≡ 2 * below M k d
  level-number d k h = join-twice k (lifted_at M d) (piece_count M d) (λ j _. unfold piece_count in block-length M L d j h)

  pub first-number : (d : ℕ) → d ≤ count M → length (join_below d (lifted_of M)) ≡ 2 * sum_below d (below M (suc M.dim))
  first-number d h = join-twice d (lifted_of M) (below M (suc M.dim)) (λ e l. level-number e (suc M.dim) (omega arith))

  pub lifted-length : length (lifted_darts M) ≡ 2 * sum_below (count M) (below M (suc M.dim))
  unfolding lifted_darts
  lifted-length = first-number (count M) (le_refl (count M))
