-- The pieces of the darts of a cell, over the lists that stand in the tables.
--     pieces_of s B e          how many stretches between neighbours in B the row of e covers
--     sum_of c w from j        the sum of c over the j darts that stand in w from a place on
--     counted c n w from j    w with c added to base 0 of each of them, one after the other
--     Nextable                what counting the next dart's pieces asks: those of the dart before it are known
--     Countable, Counted      what counting a cell asks and gives
use Rattle.std.specs.Prelude.{◌≡◌, ℕ, zero, suc, ◌+◌, ◌-◌, ◌*◌, ◌<◌, ◌≤◌, List, length, ℤ, slice_index, slice_index_or, slice_set}
use Rattle.paper.specs.Width.{dart_limit}
use Rattle.paper.specs.Below.{sum_below}
use Rattle.paper.specs.Ends.{stretches, covered_by}
use Rattle.paper.specs.Table.{row_at}
use Rattle.span.specs.Row.{RowIn}
use Rattle.ends.specs.Key.{ends_at}
use Rattle.walk.specs.Walk.{Walkable}
use Rattle.base.specs.Base.{slot, base, Bases}

abbrev pub pieces_of : List ℤ → List ℤ → ℕ → ℕ
pieces_of s B e = length (covered_by (row_at s e) (stretches B))

abbrev pub sum_of : (ℕ → ℕ) → List ℕ → ℕ → ℕ → ℕ
sum_of c w from j = sum_below j (λ i. c (slice_index w (from + i)))

unfoldable pub counted : (ℕ → ℕ) → ℕ → List ℕ → ℕ → ℕ → List ℕ
counted c n w from zero = w
counted c n w from (suc j) =
    let u = counted c n w from j in
    let e = slice_index_or w (from + j) 0 in
    slice_set u (slot n 0 e) (base u n 0 e + c e)

pub record Nextable (v : List ℕ) (p ends : ℕ) (s : List ℤ) (w : List ℕ) (from q last : ℕ) : Type 0 where
  pub here : q < length w
  pub walk : Walkable v p ends s (slice_index w q)
  -- unless it is the first
  pub before : from < q → RowIn s (slice_index w (q - 1))
  pub known : from < q → last ≡ pieces_of s (ends_at v p ends) (slice_index w (q - 1))

pub record Countable (v : List ℕ) (p ends : ℕ) (s : List ℤ) (w : List ℕ) (n from to total room : ℕ) : Type 0 where
  pub bases : Bases w n
  -- the darts stand in the queue
  pub first : n ≤ from
  pub order : from ≤ to
  pub last : to ≤ n + n
  pub darts : (q : ℕ) → from ≤ q → q < to → slice_index w q < n
  -- each row may be walked beside the ends
  pub walks : (q : ℕ) → from ≤ q → q < to → Walkable v p ends s (slice_index w q)
  -- what was counted before is in the bases
  pub adds : total ≡ 2 * sum_below n (base w n 0)
  pub fits : total ≤ room
  pub few : room ≤ dart_limit

pub record Counted (c : ℕ → ℕ) (n : ℕ) (w : List ℕ) (from to total room : ℕ) (w' : List ℕ) (r : ℕ) : Type 0 where
  pub sum : total + 2 * sum_of c w from (to - from) ≤ room → r ≡ total + 2 * sum_of c w from (to - from)
  pub made : total + 2 * sum_of c w from (to - from) ≤ room → w' ≡ counted c n w from (to - from)
  pub over : room < total + 2 * sum_of c w from (to - from) → r ≡ room + 1
