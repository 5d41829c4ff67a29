-- Links between two stretches of rows by equal heights.
--     height_at op m x      what stands in column m of row x of a table of places
--     link_of ol x a        what stands at axis a of row x of a table of links
--     feet_from op m x c    the heights of every second row, c of them from row x on
--     Put                  what is done to a table of links for two rows of equal heights
--     walk_one              it is done for row x and the row of height p in the second stretch, from y on; nothing where p is not there
--     walk_all              the same for each row of the first stretch, from x on
--     way                  axis a of row x is set to y
--     ways                 axis a of row x is set to y, and of row y to x
--     piece                the same for the rows after them as well: the feet and the heads of two pieces
--     rows                 the one or the other of these two
--     Overable             what the walk needs: rows in their tables, heights that ascend in both stretches
use Rattle.std.specs.Prelude.{ℕ, zero, suc, ◌+◌, ◌*◌, ◌<◌, ◌≤◌, Bool, true, false, cond, List, [], ◌∷◌, length, ℤ, pos, int_lt, slice_index, slice_index_or, slice_set}
use Rattle.paper.specs.Width.{link_width, place_width, dart_limit}
use Rattle.paper.specs.Map.{eq_z}
use Rattle.theory.specs.Ascending.{Ascends}

abbrev pub height_at : List ℤ → ℕ → ℕ → ℤ
height_at op m x = slice_index_or op (x * place_width + m) (pos 0)

abbrev pub link_of : List ℕ → ℕ → ℕ → ℕ
link_of ol x a = slice_index ol (x * link_width + a)

unfoldable pub feet_from : List ℤ → ℕ → ℕ → ℕ → List ℤ
feet_from op m x zero = []
feet_from op m x (suc c) = height_at op m x ∷ feet_from op m (x + 2) c

abbrev pub Put : Type 0
Put = ℕ → ℕ → List ℕ → List ℕ

unfoldable pub walk_one : Put → ℕ → ℤ → List ℤ → ℕ → List ℕ → List ℕ
walk_one f x p [] y ol = ol
walk_one f x p (q ∷ Q) y ol = elim (eq_z p q) [ true ↦ f x y ol | false ↦ walk_one f x p Q (y + 2) ol ]

unfoldable pub walk_all : Put → List ℤ → List ℤ → ℕ → ℕ → List ℕ → List ℕ
walk_all f [] Q x y ol = ol
walk_all f (p ∷ P) Q x y ol = walk_all f P Q (x + 2) y (walk_one f x p Q y ol)

abbrev pub way : ℕ → Put
way a x y ol = slice_set ol (x * link_width + a) y

abbrev pub ways : ℕ → Put
ways a x y ol = way a y x (way a x y ol)

abbrev pub piece : ℕ → Put
piece a x y ol = ways a (x + 1) (y + 1) (ways a x y ol)

abbrev pub rows : Bool → ℕ → Put
rows heads a x y ol = cond heads (piece a x y ol) (ways a x y ol)

-- The last row of a stretch is two before its end, so a stretch of heads may end one row past the table.
pub record Overable (op : List ℤ) (m : ℕ) (ol : List ℕ) (a x c y e : ℕ) : Type 0 where
  pub axis : a < link_width
  pub column : m < place_width
  pub own : x + c * 2 ≤ dart_limit + 1
  pub other : y + e * 2 ≤ dart_limit + 1
  pub own_links : (x + c * 2) * link_width ≤ length ol + link_width
  pub own_places : (x + c * 2) * place_width ≤ length op + place_width
  pub other_places : (y + e * 2) * place_width ≤ length op + place_width
  pub up : Ascends int_lt (feet_from op m x c)
  pub other_up : Ascends int_lt (feet_from op m y e)
