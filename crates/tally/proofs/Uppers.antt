-- Laws of the count of the two upper levels.
--     upper-rows, upper_is     the two rows that are looked at, and what is counted by them
--     upper-few                how many pieces a dart has there at most
--     upper-bare               a dart without spans has none
--     upper-sound              a plan's tables may be counted so
--     Uppering, upper-..       the loop of `count_upper`
--     upper-tally, upper-much  what it gives, for a plan
use Rattle.std.proofs.Common.{◌≡◌, ℕ, suc, ◌+◌, ◌-◌, ◌*◌, ◌<◌, ◌≤◌, List, length, set, ℤ, sym, refl, ap, ◌∙◌, subst, zero-le, le_refl, not-suc-le-zero, add-one, arith, length-set, below_more}
use Rattle.paper.specs.Width.{span_limit}
use Rattle.paper.specs.Below.{sum_below}
use Rattle.paper.specs.Map.{Map, Span}
use Rattle.paper.specs.Span.{ends_of}
use Rattle.paper.specs.Table.{row_at}
use Rattle.paper.specs.Lift.{lifted_darts}
use Rattle.kernel.specs.Link.{alpha}
use Rattle.span.proofs.Row.{row-few}
use Rattle.hold.specs.Hold.{Reads}
use Rattle.hold.proofs.Hold.{reads-row}
use Rattle.number.specs.Count.{piece_count, below}
use Rattle.number.specs.Beside.{cut_row}
use Rattle.number.proofs.Own.{row-none}
use Rattle.number.proofs.Sum.{sum_same, sum-le, sum_more}
use Rattle.number.proofs.Top.{count-top}
use Rattle.base.specs.Base.{slot, base, Bases}
use Rattle.base.proofs.Slots.{base-here, base-other, bases-kept, base-set}
use Rattle.beside.specs.Beside.{TwoRows, piece_limit}
use Rattle.beside.proofs.Cutting.{cut-few}
use Rattle.beside.proofs.Plan.{reads-cut}
use Rattle.tally.specs.Level.{Sound, tally}
use Rattle.tally.specs.Upper.{upper_count, UpperIn, UpperCounted}
use Rattle.tally.proofs.Turns.{plan-length, plan-dart, tally-le}

-- ---- a dart
module _ {m n d : ℕ} {ls : List ℕ} {s : List ℤ} (R : UpperIn m n ls s) (h : d < n) where
  pub upper-rows : {e : ℕ} → e ≡ alpha ls m d → TwoRows s d e
  upper-rows {e} p =
      let g : e < n = subst (λ (x : ℕ). x < n) (sym p) (R.near d h) in
      record { own = R.rows d h; other = R.rows e g; order = R.order d h; other_order = R.order e g }

  pub upper_is : {e c r : ℕ} → e ≡ alpha ls m d → c ≡ length (row_at s d) → r ≡ length (cut_row (row_at s d) (ends_of (row_at s e))) → c + r ≡ upper_count ls s m d
  upper_is p a b i = a i + (b ∙ ap (λ (x : ℕ). length (cut_row (row_at s d) (ends_of (row_at s x)))) p) i

  -- eight spans, and sixteen ends to cut each
  pub upper-few : upper_count ls s m d ≤ span_limit + piece_limit
  upper-few = omega (arith, row-few s d (R.rows d h), cut-few s d (alpha ls m d) (R.rows d h) (R.rows (alpha ls m d) (R.near d h)))

  pub upper-bare : length (row_at s d) ≡ 0 → upper_count ls s m d ≡ 0
  upper-bare z = ap (λ (r : List Span). length r + length (cut_row r (ends_of (row_at s (alpha ls m d))))) (row-none (row_at s d) z) ∙ (unfold cut_row in refl)

-- ---- a plan's tables may be counted so
pub upper-sound : {m n room : ℕ} {ls : List ℕ} {s : List ℤ} {w v : List ℕ} → Sound m n ls s w v room → UpperIn m n ls s
upper-sound {m} S = record {
  few = S.ready.darts;
  dims = S.ready.dims;
  long = S.ready.rows;
  near = λ e h. S.ready.links.within m e h (le_refl m);
  rows = S.rows;
  order = S.order;
}

-- ---- dart by dart
pub record Uppering (m n : ℕ) (ls : List ℕ) (s : List ℤ) (w₀ w : List ℕ) (sum d : ℕ) : Type 0 where
  pub at : d ≤ n
  pub long : length w ≡ length w₀
  pub adds : sum ≡ 2 * sum_below d (upper_count ls s m)
  pub done : (e : ℕ) → e < d → base w n 0 e ≡ upper_count ls s m e

pub upper-none : (m n : ℕ) (ls : List ℕ) (s : List ℤ) (w : List ℕ) → Uppering m n ls s w w 0 0
unfolding sum_below
upper-none m n ls s w = record { at = omega arith; long = refl; adds = refl; done = λ e h. absurd (not-suc-le-zero h) }

module _ {m n sum d : ℕ} {ls : List ℕ} {s : List ℤ} {w₀ w : List ℕ} (B : Bases w₀ n) (T : Uppering m n ls s w₀ w sum d) (h : d < n) (c : ℕ) (is : c ≡ upper_count ls s m d) where
  next : sum + 2 * c ≡ 2 * sum_below (suc d) (upper_count ls s m)
  next =
      let a = T.adds in
      let b = is in
      let z : sum_below (suc d) (upper_count ls s m) ≡ upper_count ls s m d + sum_below d (upper_count ls s m) = (unfold sum_below in refl) in
      omega arith

  pub upper-more : {w' : List ℕ} → w' ≡ set w (slot n 0 d) c → Uppering m n ls s w₀ w' (sum + 2 * c) (d + 1)
  upper-more {w'} put = record {
    at = omega arith;
    long = ap length put ∙ length-set w (slot n 0 d) c ∙ T.long;
    adds = next ∙ ap (λ (k : ℕ). 2 * sum_below k (upper_count ls s m)) (sym (add-one d));
    done = below_more (λ e. base w' n 0 e ≡ upper_count ls s m e) d
        (λ e l. base-set n e put (base-other w n 0 d e c (λ p. omega arith)) ∙ T.done e l)
        (base-set n d put (base-here w n 0 d c (bases-kept T.long B) zero-le h) ∙ is);
  }

  -- the darts so far are more than there is room for, and so are all
  pub upper-over : {room : ℕ} (w' : List ℕ) → room < sum + 2 * c → UpperCounted m n ls s room w' (room + 1)
  upper-over {room} w' f = record {
    total = λ l. absurd (past l);
    bases = λ l. absurd (past l);
    over = λ _. refl;
    much = λ _. let a = next in let b = sum_more (suc d) n (upper_count ls s m) h in omega arith;
  }
    where
      past : room + 1 ≤ room → ⊥
      past l = omega arith

pub upper-done : {m n room sum d : ℕ} {ls : List ℕ} {s : List ℤ} {w₀ w : List ℕ} → Uppering m n ls s w₀ w sum d → n ≤ d → sum ≤ room → UpperCounted m n ls s room w sum
upper-done {m} {n} {room} {sum} {d} {ls} {s} {w₀} {w} T h f = record {
  total = λ _. all;
  bases = λ _ e l. T.done e (omega arith);
  over = λ l. absurd (past l);
  much = λ l. absurd (past l);
}
  where
    past : room < sum → ⊥
    past l = omega arith

    all : sum ≡ 2 * sum_below n (base w n 0)
    all =
        let z : d ≡ n = let a = T.at in omega arith in
        T.adds ∙ ap (λ (k : ℕ). 2 * sum_below k (upper_count ls s m)) z ∙ ap (λ (k : ℕ). 2 * k) (sum_same n (upper_count ls s m) (base w n 0) (λ e l. sym (T.done e (omega arith))))

-- ---- the upper levels of a plan
module _ {m n : ℕ} {ls : List ℕ} {s : List ℤ} (M : Map) (P : Reads M m n ls s) (some : 0 < m) where
  -- its spans, and its pieces at the level below the top
  upper-pieces : (e : ℕ) → e < n → upper_count ls s m e ≡ piece_count M e M.dim + piece_count M e (M.dim - 1)
  unfolding piece_count
  upper-pieces e h =
      let a = ap length (sym (reads-row P e h)) ∙ sym (count-top M P.valid e (plan-dart P h)) in
      let b : suc (M.dim - 1) ≡ m = let z = P.holds.dims in omega arith in
      λ i. a i + length (reads-cut P h refl b i)

  pub upper-tally : (e : ℕ) → e < n → upper_count ls s m e ≡ tally M 0 e
  unfolding tally sum_below
  upper-tally e h = let a = upper-pieces e h in omega arith

  pub upper-much : 2 * sum_below n (upper_count ls s m) ≤ length (lifted_darts M)
  upper-much =
      let a = sum-le n (upper_count ls s m) (below M (suc m)) (λ e h. let p = upper-tally e h in let q = tally-le M m 0 e P.holds.dims some in omega arith) in
      let b = plan-length P in
      omega arith
