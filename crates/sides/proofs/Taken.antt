-- Rows of a table replaced by those of another, and cleared past them.
--     rows-taken       a table of n rows with the first k of another in place of them is the table of these
use Rattle.std.proofs.Common.{◌≡◌, ℕ, ◌+◌, ◌*◌, ◌<◌, ◌≤◌, List, length, get_or, ap, ◌∙◌}
use Rattle.paper.specs.Table.{table_of}
use Rattle.hold.proofs.Rows.{table_at, held-past, table-tail}
use Rattle.sides.specs.Rows.{rows_taken}

module _ {A : Type 0} (z : A) (w n k : ℕ) (f g : ℕ → ℕ → A) (p : 0 < w) {c : ℕ} (a : c ≡ n) {l : List A} (hl : l ≡ table_of w c f z (length l))
    (y : k * w ≤ length l) where
  pub rows-taken : {e : ℕ} (s : List A) {l' : List A} → e ≡ k → k * w ≤ length s → s ≡ table_of w e g z (length s) → l' ≡ rows_taken z w n k s l
      → l' ≡ table_of w k g z (length l)
  rows-taken s b u hs q =
      q
      ∙ table-tail z w k n g s l p u y
      (λ d i h j. ap (λ t. get_or t (d * w + i) z) (hs ∙ ap (λ (x : ℕ). table_of w x g z (length s)) b) ∙ table_at z w k g (length s) d i u h j)
      (held-past z w n f p a hl)
