-- What the lift reads of a plan, and the laws that make the lift valid: between them nothing of lists, orders and orbits is left.
--     Cut              six readings of a plan
--     cut_of            those of a map
--     Lawful           what a cut has to satisfy so that the lifted darts with their links are a valid map
use Rattle.std.specs.Prelude.{◌≡◌, ℕ, suc, ◌+◌, ◌<◌, ◌≤◌, Bool, true, false, not, ℤ, ◌≢◌}
use Rattle.paper.specs.Map.{Map, count, link, row}
use Rattle.paper.specs.Span.{covered}
use Rattle.paper.specs.Ends.{ends, is_end, next}

pub record Cut : Type 0 where
  pub m : ℕ
  pub N : ℕ
  pub α : ℕ → ℕ → ℕ
  -- t is in B_k(d)
  pub end : ℕ → ℕ → ℤ → Bool
  -- side s is covered for d at t
  pub cov : ℕ → ℤ → Bool → Bool
  -- the next member of B_0(d) on side s of t
  pub next : ℕ → ℤ → Bool → ℤ

abbrev pub cut_of : Map → Cut
cut_of M = record {
  m = M.dim;
  N = count M;
  α = link M;
  end = λ k d t. is_end (ends M k d) t;
  cov = λ d t s. covered (row M d) t s;
  next = λ d t s. next s t (ends M 0 d);
}

pub record Lawful (C : Cut) : Type 0 where
  -- links stay among the darts, undo themselves, and commute two or more axes apart
  pub within : (i d : ℕ) → d < C.N → i ≤ C.m → C.α i d < C.N
  pub undo : (i d : ℕ) → d < C.N → i ≤ C.m → C.α i (C.α i d) ≡ d
  pub far : (i j d : ℕ) → d < C.N → i + 2 ≤ j → j ≤ C.m → C.α i (C.α j d) ≡ C.α j (C.α i d)
  -- B_k is the same along every axis but k, and a row along every axis below m
  pub cell : (k i d : ℕ) (t : ℤ) → d < C.N → k ≤ C.m → i ≤ C.m → (i ≢ k) → C.end k (C.α i d) t ≡ C.end k d t
  pub rows : (i d : ℕ) (t : ℤ) (s : Bool) → d < C.N → i < C.m → C.cov (C.α i d) t s ≡ C.cov d t s
  -- a larger cell is cut wherever a smaller one is
  pub nested : (k d : ℕ) (t : ℤ) → d < C.N → suc k ≤ C.m → C.end (suc k) d t ≡ true → C.end k d t ≡ true
  -- where a height is no end, both its sides are covered or neither is
  pub inside : (k d : ℕ) (t : ℤ) (s : Bool) → d < C.N → k ≤ C.m → C.end k d t ≡ false → C.cov d t s ≡ C.cov d t (not s)
  -- the next end on a covered side is an end, covered from there, and leads back
  pub next_end : (d : ℕ) (t : ℤ) (s : Bool) → d < C.N → C.end 0 d t ≡ true → C.cov d t s ≡ true → C.end 0 d (C.next d t s) ≡ true
  pub next_cov : (d : ℕ) (t : ℤ) (s : Bool) → d < C.N → C.end 0 d t ≡ true → C.cov d t s ≡ true → C.cov d (C.next d t s) (not s) ≡ true
  pub next_back : (d : ℕ) (t : ℤ) (s : Bool) → d < C.N → C.end 0 d t ≡ true → C.cov d t s ≡ true → C.next d (C.next d t s) (not s) ≡ t
  pub next_cell : (p d : ℕ) (t : ℤ) (s : Bool) → d < C.N → 1 ≤ p → p ≤ C.m → C.next (C.α p d) t s ≡ C.next d t s
  -- a neighbour covers a stretch between neighbouring ends at both of them or at neither
  pub between : (p d : ℕ) (t : ℤ) (s : Bool) → d < C.N → 1 ≤ p → p ≤ C.m → C.end 0 d t ≡ true → C.cov d t s ≡ true
      → C.cov (C.α p d) t s ≡ C.cov (C.α p d) (C.next d t s) (not s)
