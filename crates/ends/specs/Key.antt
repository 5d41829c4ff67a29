-- Heights in a table of work. A key is a height plus 2^31; it takes two numbers of 16 bits, the high one first.
-- The table has two halves, side by side: each row of work has a key of half 0 and then one of half 1.
--     key_zero, key_limit, key_base      the key of height 0, the first number that is no key, the values of 16 bits
--     height_of         the height of a key
--     key_at v p i      key i of half p
--     put_key v p i u   the table with u put there
--     ends_at v p n     the heights of the first n keys of half p
use Rattle.std.specs.Prelude.{ℕ, zero, suc, ◌+◌, ◌*◌, ◌/◌, ◌%◌, List, [], ◌∷◌, ℤ, pos, ◌-ℤ◌, slice_index, slice_set}
use Rattle.paper.specs.Width.{work_width}

abbrev pub key_zero : ℕ
key_zero = 2147483648

abbrev pub key_limit : ℕ
key_limit = 4294967296

abbrev pub key_base : ℕ
key_base = 65536

unfoldable pub height_of : ℕ → ℤ
height_of u = pos u -ℤ pos key_zero

-- where the key's two numbers start
abbrev pub slot : ℕ → ℕ → ℕ
slot p i = i * work_width + p * 2

abbrev pub key_at : List ℕ → ℕ → ℕ → ℕ
key_at v p i = slice_index v (slot p i) * key_base + slice_index v (slot p i + 1)

unfoldable pub put_key : List ℕ → ℕ → ℕ → ℕ → List ℕ
put_key v p i u = slice_set (slice_set v (slot p i) (u / key_base)) (slot p i + 1) (u % key_base)

-- the n heights of half p from place i on
unfoldable pub ends_from : List ℕ → ℕ → ℕ → ℕ → List ℤ
ends_from v p i zero = []
ends_from v p i (suc n) = height_of (key_at v p i) ∷ ends_from v p (suc i) n

abbrev pub ends_at : List ℕ → ℕ → ℕ → List ℤ
ends_at v p n = ends_from v p 0 n
