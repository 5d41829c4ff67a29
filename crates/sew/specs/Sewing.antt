-- SEW on lent tables.
--     Sewing           what it asks of the tables
--     agrees           the darts of a pair agree, by the tables
--     operand_tests     the refusals that look at the command and its two darts
--     pair_tests        those behind them, which look at the pairing
use Rattle.std.specs.Prelude.{ℕ, ◌+◌, ◌<◌, ◌≤◌, Bool, not, ◌&&◌, ◌||◌, List, [], ◌∷◌, length, ℤ, ◌==◌, nat_le, nat_lt}
use Rattle.paper.specs.Map.{Map, count, free, eq_place, eq_row}
use Rattle.paper.specs.Table.{owned_at}
use Rattle.paper.specs.Sew.{implies, sewable, agreeing}
use Rattle.paper.specs.Refusal.{Test, ◌if◌}
use Rattle.paper.specs.declared.refusal.Refusal.TheVariants.{OutOfRange, NoSuchDart, NoPlan, AlreadyLinked, NoPairing, PairDisagrees}
use Rattle.span.specs.Row.{RowIn}
use Rattle.fault.specs.Fault.{place_in, PlacesFit}
use Rattle.orbit.specs.Flood.{Ready}

pub record Sewing (m n : ℕ) (ls : List ℕ) (ps ss : List ℤ) (w : List ℕ) : Type 0 where
  -- the links can be walked along
  pub ready : Ready m n ls w
  -- work has an index, a dart of A and a partner for each dart
  pub blocks : n + n + n ≤ length w
  -- a row of places and one of spans for each dart
  pub places : PlacesFit ps m n
  pub rows : (d : ℕ) → d < n → RowIn ss d

-- in their places, unless the axis is 0, and in their rows with objects, unless it is m
abbrev pub agrees : List ℤ → List ℤ → ℕ → ℕ → ℕ → ℕ → Bool
agrees ps ss m i d e = implies (nat_le 1 i) (eq_place (place_in ps m d) (place_in ps m e)) && implies (nat_lt i m) (eq_row (owned_at ss d) (owned_at ss e))

unfoldable pub operand_tests : Map → ℕ → ℕ → ℕ → List Test
operand_tests M i a b =
    NoPlan if (M.dim == 0)
    ∷ OutOfRange if nat_lt M.dim i
    ∷ NoSuchDart if (nat_le (count M) a || nat_le (count M) b)
    ∷ AlreadyLinked if not (free M i a && free M i b)
    ∷ []

unfoldable pub pair_tests : Map → ℕ → ℕ → ℕ → List Test
pair_tests M i a b = NoPairing if not (sewable M i a b) ∷ PairDisagrees if not (agreeing M i a b) ∷ []
