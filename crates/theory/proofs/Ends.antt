-- The ends of the cells of a valid map, and so what the lift needs of a plan.
--     around-in, around-out       the spans around a cell are those of the rows of its darts
--     ends-ascends     B_k(d) ascends
--     ends-in, ends-out           its members are the ends of the rows of the darts of d's k-cell
--     ends-own         it has the ends of d's own row
--     ends_same        B_k is the same along every axis but k
--     high_part        a dart of d's k-cell has the row of one that d reaches by axes above k alone
--     ends-nested      B_{k+1}(d) is within B_k(d)
--     lawful           the laws that the lift needs
use Rattle.std.proofs.Common.{◌≡◌, ℕ, suc, ◌<◌, ◌≤◌, cond, ltb, ◌⊎◌, [], ℤ, sym, refl, ap, ◌∙◌, subst, inl, inr, arith, ltb-true, lt-ltb}
use lib.Signed.{lt_z}
use Rattle.paper.specs.Map.{Span, Map, count, link, row}
use Rattle.paper.specs.Orbit.{Reach, here, step, marked}
use Rattle.paper.specs.Cell.{Cell, cell}
use Rattle.paper.specs.Span.{covered, ends_of}
use Rattle.paper.specs.Ends.{around, ends, is_end, next}
use Rattle.theory.specs.Local.{Local}
use Rattle.theory.specs.Cut.{cut_of, Lawful}
use Rattle.theory.specs.Member.{◌∈◌}
use Rattle.theory.specs.Ascending.{Ascends}
use Rattle.theory.proofs.Bool.{clash, not-true, lt-or}
use Rattle.theory.proofs.Member.{cond-in, cond-out, join-in, join-out, end-in, end-out}
use Rattle.theory.proofs.Order.{Z-order, asym, ascends-ext}
use Rattle.theory.proofs.Ascending.{ascending-ascends, ascending-in, ascending-out}
use Rattle.theory.proofs.Orbit.{reach-trans, reach-more}
use Rattle.theory.proofs.Valid.{but_in, but_out, commute, local-row, reach-within, reach-sym, in_cell, of-cell}
use Rattle.theory.proofs.Height.{span-end, end-span, inside, next-next, between, next-member, next-covered, next_back}

pub ends-ascends : (M : Map) (k d : ℕ) → Ascends lt_z (ends M k d)
unfolding ends
ends-ascends M k d = ascending-ascends (ends_of (around M k d))

-- ---- the spans around a cell, and their ends
module _ (M : Map) (L : Local M) where
  pub around-in : (k d e : ℕ) (x : Span) → d < count M → Cell M k d e → x ∈ row M e → x ∈ around M k d
  unfolding around
  around-in k d e x h r w =
      join-in (count M) (λ e. cond (marked (cell M k d) e) (row M e) []) e (reach-within M L h r) (cond-in (marked (cell M k d) e) (row M e) (in_cell M L k d e h r) w)

  pub around-out : (k d : ℕ) (x : Span) → d < count M → x ∈ around M k d → (e : ℕ) × Cell M k d e × (x ∈ row M e)
  unfolding around
  around-out k d x h w =
      let j = join-out (count M) (λ e. cond (marked (cell M k d) e) (row M e) []) w in
      let c = cond-out (marked (cell M k d) j.0) (row M j.0) j.2 in
      (j.0, of-cell M L k d j.0 h j.1 c.0, c.1)

  pub ends-in : (k d e : ℕ) (t : ℤ) → d < count M → Cell M k d e → t ∈ ends_of (row M e) → t ∈ ends M k d
  unfolding ends
  ends-in k d e t h r w =
      let x = end-span (row M e) t w in
      ascending-in t (ends_of (around M k d)) (span-end (around M k d) x.0 t (around-in k d e x.0 h r x.1) x.2)

  pub ends-out : (k d : ℕ) (t : ℤ) → d < count M → t ∈ ends M k d → (e : ℕ) × Cell M k d e × (t ∈ ends_of (row M e))
  unfolding ends
  ends-out k d t h w =
      let x = end-span (around M k d) t (ascending-out t (ends_of (around M k d)) w) in
      let j = around-out k d x.0 h x.1 in
      (j.0, j.1, span-end (row M j.0) x.0 t j.2 x.2)

  pub ends-own : (k d : ℕ) (t : ℤ) → d < count M → t ∈ ends_of (row M d) → t ∈ ends M k d
  ends-own k d t h w = ends-in k d d t h here w

  pub ends_same : (k i d : ℕ) → d < count M → i ≤ M.dim → (i ≡ k → ⊥) → ends M k (link M i d) ≡ ends M k d
  ends_same k i d h l ne =
      let there : Cell M k d (link M i d) = step here i l (but_in k i ne) refl in
      let w = L.within i d h l in
      ascends-ext lt_z (asym lt_z Z-order) (ends M k (link M i d)) (ends M k d) (ends-ascends M k (link M i d)) (ends-ascends M k d)
      (λ t z. let c = ends-out k (link M i d) t w z in ends-in k d c.0 t h (reach-trans there c.1) c.2)
      (λ t z. let c = ends-out k d t h z in ends-in k (link M i d) c.0 t w (reach-trans (reach-sym M L h there) c.1) c.2)

  -- ---- the high part of a path
  -- reached by axes above k, and by axes below k
  abbrev High : ℕ → ℕ → ℕ → Type 0
  High k d e = Reach (link M) M.dim (λ j. ltb k j) d e

  abbrev Low : ℕ → ℕ → ℕ → Type 0
  Low k d e = Reach (link M) M.dim (λ j. ltb j k) d e

  -- a step by a high axis carries a path by low axes along
  carry : (k j : ℕ) {h e : ℕ} → h < count M → k < j → j ≤ M.dim → Low k h e → Low k (link M j h) (link M j e)
  carry k j hn f l here = here
  carry k j hn f l (step {e = e} r i il x p) =
      let z = ltb-true i k x in
      step (carry k j hn f l r) i il x (commute M L i j e (reach-within M L hn r) (omega arith) l ∙ ap (link M j) p)

  -- a dart of the k-cell is reached by axes above k, then by axes below k
  high-low : (k : ℕ) {d e : ℕ} → d < count M → Cell M k d e → (h : ℕ) × High k d h × Low k h e
  high-low k {d} dn here = (d, here, here)
  high-low k {d} dn (step {e = e} {g = g} r j l x p) = go (high-low k dn r) (lt-or j k (but_out k j x))
    where
      go : (h : ℕ) × High k d h × Low k h e → (j < k) ⊎ (k < j) → (h : ℕ) × High k d h × Low k h g
      go i (inl a) = (i.0, i.1, step i.2 j l (lt-ltb j k a) p)
      go i (inr a) =
          (link M j i.0, step i.1 j l (lt-ltb k j a) refl, subst (λ (y : ℕ). Low k (link M j i.0) y) p (carry k j (reach-within M L dn i.1) a l i.2))

  low-row : (k : ℕ) {h e : ℕ} → k ≤ M.dim → h < count M → Low k h e → row M e ≡ row M h
  low-row k l hn here = refl
  low-row k l hn (step {e = e} r j il x p) = let z = ltb-true j k x in ap (row M) (sym p) ∙ local-row M L j e (reach-within M L hn r) (omega arith) ∙ low-row k l hn r

  pub high_part : (k d e : ℕ) → k ≤ M.dim → d < count M → Cell M k d e → (h : ℕ) × High k d h × (row M e ≡ row M h)
  high_part k d e l dn r = let p = high-low k dn r in (p.0, p.1, low-row k l (reach-within M L dn p.1) p.2)

  pub ends-nested : (k d : ℕ) (t : ℤ) → d < count M → suc k ≤ M.dim → t ∈ ends M (suc k) d → t ∈ ends M k d
  ends-nested k d t h l z =
      let c = ends-out (suc k) d t h z in
      let p = high_part (suc k) d c.0 l h c.1 in
      ends-in k d p.0 t h (reach-more (λ j jl x. but_in k j (λ e. let y = ltb-true (suc k) j x in omega arith)) p.1)
      (subst (λ r. t ∈ ends_of r) p.2 c.2)

  pub lawful : Lawful (cut_of M)
  lawful = record {
    within = L.within;
    undo = L.undo;
    far = commute M L;
    cell = λ k i d t h l il ne. ap (λ b. is_end b t) (ends_same k i d h il ne);
    rows = λ i d t s h l. ap (λ r. covered r t s) (local-row M L i d h l);
    nested = λ k d t h l z. end-in (ends M k d) t (ends-nested k d t h l (end-out (ends M (suc k) d) t z));
    inside = λ k d t s h l e. inside (row M d) t s
        (not-true (is_end (ends_of (row M d)) t) (λ w. clash (end-in (ends M k d) t (ends-own k d t h (end-out (ends_of (row M d)) t w))) e));
    next_end = λ d t s h z c. end-in (ends M 0 d) (next s t (ends M 0 d)) (next-member (row M d) (ends M 0 d) (λ b. ends-own 0 d b h) t s c);
    next_cov = λ d t s h z c. next-covered (row M d) (ends M 0 d) (λ b. ends-own 0 d b h) t s c;
    next_back = λ d t s h z c. next_back (row M d) (ends M 0 d) (λ b. ends-own 0 d b h) t s (end-out (ends M 0 d) t z) c;
    next_cell = λ p d t s h g l. ap (λ b. next s t b) (ends_same 0 p d h l (λ e. omega arith));
    between = λ p d t s h g l z c. between (row M (link M p d)) (ends M 0 d)
        (λ b w. ends-in 0 d (link M p d) b h (step here p l (but_in 0 p (λ e. omega arith)) refl) w) t s
        (next-next (row M d) (ends M 0 d) (λ b. ends-own 0 d b h) t s c).past;
  }
