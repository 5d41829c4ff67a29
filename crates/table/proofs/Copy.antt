-- What is written of a row.
--     short, fitting   the memory is shorter than the row, or is not
use Rattle.std.proofs.Common.{◌≡◌, ℕ, ◌<◌, ◌≤◌, List, [], length, le-leb}
use borrow.Author.Tests.{lt-leb}
use Rattle.table.specs.Copy.{written}

pub short : (row out : List ℕ) → length out < length row → written row out ≡ []
unfolding written
short row out h = rw (lt-leb (length row) (length out) h)

pub fitting : (row out : List ℕ) → length row ≤ length out → written row out ≡ row
unfolding written
fitting row out h = rw (le-leb (length row) (length out) h)
