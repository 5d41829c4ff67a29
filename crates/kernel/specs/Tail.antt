-- The rows of a table that were in use and are no more: it had rows of width w up to row old, and has k.
--     tail_end          where they end: past row old, or past row k where that is the greater, or at the table's end where it has no row behind row old
--     tail_cleared      the table with 0 for them
use Rattle.std.specs.Prelude.{ℕ, ◌*◌, ◌/◌, cond, List, length, nat_le, nat_lt}
use Rattle.kernel.specs.Blank.{filled}

-- of a table of so many numbers
unfoldable pub tail_end : ℕ → ℕ → ℕ → ℕ → ℕ
tail_end len w k old = cond (nat_le (len / w) old) len (cond (nat_lt old k) (k * w) (old * w))

abbrev pub tail_cleared : {A : Type 0} → A → ℕ → ℕ → ℕ → List A → List A
tail_cleared z w k old l = filled z (k * w) (tail_end (length l) w k old) l
