-- The rows of a plan in its tables: that of a dart and that of its neighbour over the boundary.
--     reads-rows       both stand there, in order
--     reads-cut        the one cut by the ends of the other has the pieces of the dart at the level below the top
use Rattle.std.proofs.Common.{◌≡◌, ℕ, suc, ◌<◌, List, ℤ, sym, ap, ◌∙◌, le_refl, arith}
use Rattle.paper.specs.Map.{Map, link, row}
use Rattle.paper.specs.Span.{ends_of}
use Rattle.paper.specs.Table.{row_at}
use Rattle.kernel.specs.Link.{alpha}
use Rattle.hold.specs.Hold.{Reads}
use Rattle.hold.proofs.Hold.{reads-row, reads-order}
use Rattle.number.specs.Beside.{cut_row}
use Rattle.number.specs.First.{pieces_at}
use Rattle.number.proofs.Beside.{pieces-beside}
use Rattle.beside.specs.Beside.{TwoRows}

module _ {M : Map} {m n d e : ℕ} {ls : List ℕ} {s : List ℤ} (P : Reads M m n ls s) (h : d < n) (is : e ≡ alpha ls m d) where
  neighbour : link M M.dim d ≡ e
  neighbour = ap (λ (i : ℕ). link M i d) P.holds.dims ∙ P.holds.links m d h (le_refl m) ∙ sym is

  near : e < n
  near = let c = P.holds.darts in let g = P.valid.within M.dim d (omega arith) (le_refl M.dim) in let q = neighbour in omega arith

  pub reads-rows : TwoRows s d e
  reads-rows = record { own = P.rows d h; other = P.rows e near; order = reads-order P d h; other_order = reads-order P e near }

  pub reads-cut : {k : ℕ} → suc k ≡ m → cut_row (row_at s d) (ends_of (row_at s e)) ≡ pieces_at M d k
  reads-cut {k} p =
      let c = P.holds.darts in
      sym (pieces-beside M P.valid k d (p ∙ sym P.holds.dims) (omega arith)
      ∙ (λ i. cut_row (reads-row P d h i) (ends_of ((ap (row M) neighbour ∙ reads-row P e near) i))))
