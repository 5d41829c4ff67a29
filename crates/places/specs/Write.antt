-- Places of lifted darts, two rows for each piece.
--     pieces_in r B         the stretches between neighbours in B that the row r covers
--     coord_at op z a       what stands at coordinate a of row z of a table of places
--     place_of places d m   the place of d, of m coordinates
--     coord_of              coordinate a of the place of d, then t; 0 behind them
--     put_coords, put_place  the first coordinates of row x, and all of them
--     put_pair              rows x and x + 1: foot and head of a piece
--     put_pieces            the pairs of some pieces, from row x on
--     Wrote                the pairs of some pieces were written from row x on, and r is how many pieces they are
--     Writable             room for the pairs of some pieces from row x on, and a place of d
--     Placed               what the write leaves, row by row
use Rattle.std.specs.Prelude.{◌≡◌, ℕ, zero, suc, ◌+◌, ◌*◌, ◌<◌, ◌≤◌, ◌⊎◌, List, [], ◌∷◌, ◌++◌, length, get_or, ℤ, pos, slice_index_or, slice_set}
use Rattle.paper.specs.Width.{place_width, dart_limit}
use Rattle.paper.specs.Below.{list_below}
use Rattle.paper.specs.Map.{Span}
use Rattle.paper.specs.Ends.{stretches, covered_by}
use Rattle.number.specs.First.{no_piece}

abbrev pub pieces_in : List Span → List ℤ → List Span
pieces_in r B = covered_by r (stretches B)

abbrev pub coord_at : List ℤ → ℕ → ℕ → ℤ
coord_at op z a = slice_index_or op (z * place_width + a) (pos 0)

abbrev pub place_of : List ℤ → ℕ → ℕ → List ℤ
place_of places d m = list_below m (λ a. get_or places (d * place_width + a) (pos 0))

unfoldable pub coord_of : List ℤ → ℕ → ℕ → ℤ → ℕ → ℤ
coord_of places d m t a = slice_index_or (place_of places d m ++ (t ∷ [])) a (pos 0)

unfoldable pub put_coords : ℕ → List ℤ → ℕ → ℕ → ℤ → ℕ → List ℤ → List ℤ
put_coords zero places d m t x op = op
put_coords (suc a) places d m t x op = slice_set (put_coords a places d m t x op) (x * place_width + a) (coord_of places d m t a)

abbrev pub put_place : List ℤ → ℕ → ℕ → ℤ → ℕ → List ℤ → List ℤ
put_place places d m t x op = put_coords place_width places d m t x op

unfoldable pub put_pair : List ℤ → ℕ → ℕ → ℤ → ℤ → ℕ → List ℤ → List ℤ
put_pair places d m foot head x op = put_place places d m head (x + 1) (put_place places d m foot x op)

unfoldable pub put_pieces : List ℤ → ℕ → ℕ → List Span → ℕ → List ℤ → List ℤ
put_pieces places d m [] x op = op
put_pieces places d m (q ∷ P) x op = put_pieces places d m P (x + 2) (put_pair places d m q.lo q.hi x op)

abbrev pub Wrote : List ℤ → ℕ → ℕ → List Span → ℕ → List ℤ → List ℤ → ℕ → Type 0
Wrote places d m P x op op' r = (r ≡ length P) × (op' ≡ put_pieces places d m P x op)

pub record Writable (op : List ℤ) (x : ℕ) (P : List Span) (places : List ℤ) (d : ℕ) : Type 0 where
  pub place : d * place_width + place_width ≤ length places
  pub few : x + length P * 2 ≤ dart_limit
  pub room : (x + length P * 2) * place_width ≤ length op

pub record Placed (places : List ℤ) (d m : ℕ) (P : List Span) (x : ℕ) (op₀ op : List ℤ) : Type 0 where
  pub long : length op ≡ length op₀
  -- the place of d, then the foot of piece j, or its head; 0 behind them
  pub foot : (j a : ℕ) → j < length P → a < place_width → coord_at op (x + j * 2) a ≡ slice_index_or (place_of places d m ++ ((get_or P j no_piece).lo ∷ [])) a (pos 0)
  pub head : (j a : ℕ) → j < length P → a < place_width → coord_at op (x + j * 2 + 1) a ≡ slice_index_or (place_of places d m ++ ((get_or P j no_piece).hi ∷ [])) a (pos 0)
  -- other rows
  pub other : (z a : ℕ) → a < place_width → (z < x) ⊎ (x + length P * 2 ≤ z) → coord_at op z a ≡ coord_at op₀ z a
