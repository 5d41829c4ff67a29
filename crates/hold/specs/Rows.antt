-- The writes that edits make in a table of rows of width w, as the loops make them.
--     columned         number a of the rows of darts e 0, e 1, .. is set, for dart d to v d
--     row_put           the first numbers of a dart's row are set to g 0, g 1, ..
--     rows_put          so are all w numbers in the rows of darts e 0, e 1, ..
--     listed           a dart is one of e 0, e 1, ..
use Rattle.std.specs.Prelude.{ℕ, zero, suc, ◌+◌, ◌*◌, Bool, List, nat_eq, slice_set}
use Rattle.paper.specs.Below.{any_below}

-- for the first t darts of e
unfoldable pub columned : {A : Type 0} → ℕ → ℕ → (ℕ → ℕ) → (ℕ → A) → ℕ → List A → List A
columned w a e v zero l = l
columned w a e v (suc t) l = slice_set (columned w a e v t l) (e t * w + a) (v (e t))

-- the first q numbers of dart d's row
unfoldable pub row_put : {A : Type 0} → ℕ → ℕ → (ℕ → A) → ℕ → List A → List A
row_put w d g zero l = l
row_put w d g (suc q) l = slice_set (row_put w d g q l) (d * w + q) (g q)

-- for the first t darts of e
unfoldable pub rows_put : {A : Type 0} → ℕ → (ℕ → ℕ) → (ℕ → A) → ℕ → List A → List A
rows_put w e g zero l = l
rows_put w e g (suc t) l = row_put w (e t) g w (rows_put w e g t l)

-- dart d is one of the first t darts of e
abbrev pub listed : (ℕ → ℕ) → ℕ → ℕ → Bool
listed e t d = any_below t (λ i. nat_eq d (e i))
