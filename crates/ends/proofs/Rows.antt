-- The ends of rows, as members.
--     rows_in, rows_out       the ends of the rows of some darts
--     rows_more        one dart more
--     rows_same        lists whose darts' rows have the same ends
--     rows_long        a list with all darts of another has no fewer ends
--     gathered-ends    the darts of d's k-cell have the ends B_k(d)
use Rattle.std.proofs.Common.{◌≡◌, ℕ, ◌<◌, ◌≤◌, ◌⊎◌, List, ◌++◌, length, ℤ, sym, refl, subst, inl, inr, ⊎_elim}
use mathlib.Core.List.Memᴰ
use lib.Signed.{lt_z}
use Rattle.paper.specs.Below.{join_of}
use Rattle.paper.specs.Map.{Map, count, row}
use Rattle.paper.specs.Cell.{Cell}
use Rattle.paper.specs.Span.{ends_of}
use Rattle.paper.specs.Ends.{ascending, ends}
use Rattle.paper.specs.Table.{row_at}
use Rattle.theory.specs.Local.{Local}
use Rattle.theory.specs.Member.{◌∈◌}
use Rattle.theory.proofs.Member.{join-of-in, join-of-out}
use Rattle.theory.proofs.Order.{Z-order, asym, ascends-ext}
use Rattle.theory.proofs.Ascending.{ascending-ascends, ascending-in, ascending-out}
use Rattle.theory.proofs.Height.{end-span, span-end}
use Rattle.theory.proofs.Valid.{reach-within}
use Rattle.theory.proofs.Ends.{ends-ascends, ends-in, ends-out}
use Rattle.ends.specs.Gather.{row_ends}
use Rattle.ends.proofs.Union.{ascending-same, ascending-long}

-- ---- the rows of some darts
module _ (s : List ℤ) where
  pub rows_in : (l : List ℕ) (e : ℕ) (b : ℤ) → e ∈ l → b ∈ ends_of (row_at s e) → b ∈ ends_of (join_of l (λ e. row_at s e))
  rows_in l e b h w = let x = end-span (row_at s e) b w in span-end (join_of l (λ e. row_at s e)) x.0 b (join-of-in l (λ e. row_at s e) h x.1) x.2

  pub rows_out : (l : List ℕ) (b : ℤ) → b ∈ ends_of (join_of l (λ e. row_at s e)) → (e : ℕ) × (e ∈ l) × (b ∈ ends_of (row_at s e))
  rows_out l b w =
      let x = end-span (join_of l (λ e. row_at s e)) b w in
      let j = join-of-out l (λ e. row_at s e) x.1 in
      (j.0, j.1, span-end (row_at s j.0) x.0 b j.2 x.2)

  pub rows_more : (l m : List ℕ) (e : ℕ) → ((d : ℕ) → (d ≡ e) ⊎ (d ∈ l) → d ∈ m) → ((d : ℕ) → d ∈ m → (d ≡ e) ⊎ (d ∈ l))
      → ascending (ends_of (row_at s e) ++ row_ends s l) ≡ row_ends s m
  rows_more l m e f g =
      ascending-same (ends_of (row_at s e) ++ row_ends s l) (ends_of (join_of m (λ e. row_at s e)))
      (λ b h. ⊎_elim (λ u. rows_in m e b (f e (inl refl)) u)
      (λ u. let x = rows_out l b (ascending-out b (ends_of (join_of l (λ e. row_at s e))) u) in rows_in m x.0 b (f x.0 (inr x.1)) x.2)
      (Memᴰ.append_cases (ends_of (row_at s e)) h))
      (λ b h. let x = rows_out m b h in
      ⊎_elim (λ (p : x.0 ≡ e). Memᴰ.append_left (row_ends s l) (subst (λ k. b ∈ ends_of (row_at s k)) p x.2))
      (λ u. Memᴰ.append_right (ends_of (row_at s e)) (ascending-in b (ends_of (join_of l (λ e. row_at s e))) (rows_in l x.0 b u x.2)))
      (g x.0 x.1))

  pub rows_same : (l m : List ℕ) → ((d : ℕ) (b : ℤ) → d ∈ l → b ∈ ends_of (row_at s d) → (e : ℕ) × (e ∈ m) × (b ∈ ends_of (row_at s e))) → ((d : ℕ) → d ∈ m → d ∈ l)
      → row_ends s l ≡ row_ends s m
  rows_same l m f g =
      ascending-same (ends_of (join_of l (λ e. row_at s e))) (ends_of (join_of m (λ e. row_at s e)))
      (λ b h. let x = rows_out l b h in let y = f x.0 b x.1 x.2 in rows_in m y.0 b y.1 y.2)
      (λ b h. let x = rows_out m b h in rows_in l x.0 b (g x.0 x.1) x.2)

  pub rows_long : (l m : List ℕ) → ((d : ℕ) → d ∈ l → d ∈ m) → length (row_ends s l) ≤ length (row_ends s m)
  rows_long l m f =
      ascending-long (ends_of (join_of l (λ e. row_at s e))) (ends_of (join_of m (λ e. row_at s e)))
      (λ b h. let x = rows_out l b h in rows_in m x.0 b (f x.0 x.1) x.2)

  -- ---- the ends of a cell
  pub gathered-ends : (M : Map) (L : Local M) (k d : ℕ) (l : List ℕ) → d < count M → ((e : ℕ) → e ∈ l → Cell M k d e) → ((e : ℕ) → Cell M k d e → e ∈ l)
      → ((e : ℕ) → e < count M → row M e ≡ row_at s e) → row_ends s l ≡ ends M k d
  gathered-ends M L k d l h f g same =
      let all = ends_of (join_of l (λ e. row_at s e)) in
      ascends-ext lt_z (asym lt_z Z-order) (row_ends s l) (ends M k d) (ascending-ascends all) (ends-ascends M k d)
      (λ b w. let x = rows_out l b (ascending-out b all w) in
      let r = f x.0 x.1 in
      ends-in M L k d x.0 b h r (subst (λ z. b ∈ ends_of z) (sym (same x.0 (reach-within M L h r))) x.2))
      (λ b w. let x = ends-out M L k d b h w in
      ascending-in b all (rows_in l x.0 b (g x.0 x.1) (subst (λ z. b ∈ ends_of z) (same x.0 (reach-within M L h x.1)) x.2)))
