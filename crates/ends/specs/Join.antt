-- The join of a row's ends to the ends gathered.
--     ends_with         the first n ends of half p and those of a dart's row, ascending
--     NextEnd, NextOfRow       the key of what is next on either side; the limit where nothing is left
--     Passed           what a step passes and keeps
--     Copyable, Copied         what a run of copies asks and gives: k keys of half p from place i on, each below y, went to the other half from place m on
--     Stopped          why it ends at place i: nothing is left, there is no room, or the next key is not below y
--     Held             a list of ends stands in half p and `ends` is its length; or it has no room, and `ends` is one more than that
--     Joinable         what the join asks
use Rattle.std.specs.Prelude.{◌≡◌, ℕ, ◌+◌, ◌-◌, ◌*◌, ◌<◌, ◌≤◌, true, ◌≢◌, ◌⊎◌, List, ◌++◌, length, ℤ, pos, int_lt, slice_index_or}
use Rattle.paper.specs.Width.{work_width, dart_limit}
use Rattle.paper.specs.Span.{ordered, ends_of}
use Rattle.paper.specs.Ends.{ascending}
use Rattle.paper.specs.Table.{row_at}
use Rattle.theory.specs.Ascending.{Ascends}
use Rattle.span.specs.Row.{RowIn}
use Rattle.ends.specs.Key.{key_limit, height_of, key_at, put_key, ends_at}

-- `ascending` inserts the row's ends one after the other; the ends gathered ascend, so it leaves those as they are
abbrev pub ends_with : List ℕ → ℕ → ℕ → List ℤ → ℕ → List ℤ
ends_with v p n s e = ascending (ends_of (row_at s e) ++ ends_at v p n)

abbrev pub NextEnd : List ℕ → ℕ → ℕ → ℕ → ℕ → Type 0
NextEnd v p i n r = ((i < n) × ((r ≡ key_at v p i) × (r < key_limit))) ⊎ ((n ≤ i) × (r ≡ key_limit))

abbrev pub NextOfRow : List ℤ → ℕ → ℕ → Type 0
NextOfRow l j r = ((j < length l) × ((height_of r ≡ slice_index_or l j (pos 0)) × (r < key_limit))) ⊎ ((length l ≤ j) × (r ≡ key_limit))

abbrev pub Passed : ℕ → ℕ → ℕ → ℕ → ℕ → ℕ → Type 0
Passed x y z gathered row kept =
    ((y ≡ z) × ((gathered ≡ 0) × ((row ≡ 1) × (kept ≡ 0))))
    ⊎ (((x ≡ y) × ((y ≢ z) × ((gathered ≡ 1) × ((row ≡ 1) × (kept ≡ 1)))))
    ⊎ ((x ≢ y) × ((y ≢ z) × ((gathered ≡ 0) × ((row ≡ 1) × (kept ≡ 1))))))

pub record Copyable (v : List ℕ) (p n room i m : ℕ) : Type 0 where
  pub half : p ≤ 1
  pub within : n ≤ room
  pub few : room ≤ dart_limit
  pub long : room * work_width ≤ length v
  pub il : i ≤ n
  pub ml : m ≤ room

-- from the table v to the table v', one key after the other
pub data Copied (v : List ℕ) (p n room i m y : ℕ) : List ℕ → ℕ → Type 0 where
  none : Copied v p n room i m y v 0
  one : {u v' : List ℕ} {k l : ℕ} (x : ℕ) → Copied v p n room i m y u k → i + k < n → m + k < room → (x ≡ key_at u p (i + k)) × (x < key_limit) → x < y
      → v' ≡ put_key u (1 - p) (m + k) x → l ≡ k + 1 → Copied v p n room i m y v' l

abbrev pub Stopped : List ℕ → ℕ → ℕ → ℕ → ℕ → ℕ → ℕ → Type 0
Stopped v p n room i m y = (n ≤ i) ⊎ ((m ≡ room) ⊎ ((y ≤ key_at v p i) × (key_at v p i < key_limit)))

pub record Held (u : List ℤ) (v : List ℕ) (p room ends : ℕ) : Type 0 where
  pub half : p ≤ 1
  pub count : length u ≤ room → ends ≡ length u
  pub held : length u ≤ room → ends_at v p ends ≡ u
  pub over : room < length u → ends ≡ room + 1

-- Touching spans have an end in common: the ends of a row in order rise, and one may stand twice.
pub record Joinable (v : List ℕ) (p n room : ℕ) (s : List ℤ) (e : ℕ) : Type 0 where
  pub half : p ≤ 1
  pub within : n ≤ room
  pub few : room ≤ dart_limit
  pub long : room * work_width ≤ length v
  pub ascend : Ascends int_lt (ends_at v p n)
  pub row : RowIn s e
  pub order : ordered (row_at s e) ≡ true
