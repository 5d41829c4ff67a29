-- The pieces of a dart at the level below the top.
--     pieces-beside    they are the spans of its row, cut at the ends of its neighbour over the boundary
use Rattle.std.proofs.Common.{◌≡◌, ℕ, suc, ◌<◌, ◌⊎◌, ℤ, refl, subst, inl, inr, ⊎_elim, le_refl, arith}
use Rattle.paper.specs.Map.{Map, spans_of, count, link, row}
use Rattle.paper.specs.Orbit.{here, step}
use Rattle.paper.specs.Cell.{Cell}
use Rattle.paper.specs.Span.{ends_of}
use Rattle.paper.specs.Ends.{ends}
use Rattle.theory.specs.Local.{Local}
use Rattle.theory.specs.Member.{◌∈◌}
use Rattle.theory.proofs.Ends.{ends-ascends, ends-in, ends-out, ends-own}
use Rattle.theory.proofs.Row.{row-rises}
use Rattle.theory.proofs.Valid.{but_in}
use Rattle.number.specs.Beside.{cut_row}
use Rattle.number.specs.First.{pieces_at}
use Rattle.number.proofs.Own.{cell-rows}
use Rattle.number.proofs.CutRow.{covered-cut}

pub pieces-beside : (M : Map) → Local M → (k d : ℕ) → suc k ≡ M.dim → d < count M → pieces_at M d k ≡ cut_row (row M d) (ends_of (row M (link M M.dim d)))
pieces-beside M L k d p h = covered-cut (row M d) (ends_of (row M g)) (ends M k d) (L.order d h) (row-rises (row M g) (L.order g gn)) (ends-ascends M k d)
    both
    (λ b w. ends-own M L k d b h w)
    (λ b w. ends-in M L k d g b h beside w)
  where
    g : ℕ
    g = link M M.dim d

    gn : g < count M
    gn = L.within M.dim d h (le_refl M.dim)

    -- the neighbour is in the cell
    beside : Cell M k d g
    beside = step here M.dim (le_refl M.dim) (but_in k M.dim (λ e. omega arith)) refl

    -- and each dart of the cell has its row or that of d
    both : (b : ℤ) → b ∈ ends M k d → (b ∈ ends_of (row M d)) ⊎ (b ∈ ends_of (row M g))
    both b w =
        let c = ends-out M L k d b h w in
        ⊎_elim
        (λ r. inl (subst (λ y. b ∈ ends_of (spans_of y)) r.0 c.2))
        (λ r. inr (subst (λ y. b ∈ ends_of (spans_of y)) r.0 c.2))
        (cell-rows M L k d c.0 p h c.1)
