-- The lifted darts of a plan dart at a level stand together: piece after piece upwards, the foot of each before its head.
--     pieces_at M d k        the pieces of d at level k: the stretches between neighbours in B_k(d) that its row covers
--     end_of M d k j s       the end of piece j from which side s is covered: the foot for the side above, the head for the side below
--     dart_of M d k j s      the lifted dart there
--     first M d k           the number of the first lifted dart of d at level k
--     number_of M d k j s    the number of dart_of
use Rattle.std.specs.Prelude.{ℕ, suc, ◌+◌, ◌*◌, Bool, true, false, cond, List, ℤ, pos, slice_index_or}
use Rattle.paper.specs.Below.{sum_below}
use Rattle.paper.specs.Map.{Map, Span, row}
use Rattle.paper.specs.Ends.{ends, stretches, covered_by}
use Rattle.paper.specs.Lift.{Lifted, at}
use Rattle.number.specs.Count.{below}

abbrev pub pieces_at : Map → ℕ → ℕ → List Span
pieces_at M d k = covered_by (row M d) (stretches (ends M k d))

-- what is read past the last piece
abbrev pub no_piece : Span
no_piece = record { lo = pos 0; hi = pos 0 }

unfoldable pub end_of : Map → ℕ → ℕ → ℕ → Bool → ℤ
end_of M d k j s = let p = slice_index_or (pieces_at M d k) j no_piece in cond s p.lo p.hi

abbrev pub dart_of : Map → ℕ → ℕ → ℕ → Bool → Lifted
dart_of M d k j s = at d k (end_of M d k j s) s

unfoldable pub first : Map → ℕ → ℕ → ℕ
first M d k = 2 * (sum_below d (below M (suc M.dim)) + below M k d)

abbrev pub side : Bool → ℕ
side true = 0
side false = 1

abbrev pub number_of : Map → ℕ → ℕ → ℕ → Bool → ℕ
number_of M d k j s = first M d k + j * 2 + side s
