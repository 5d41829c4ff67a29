-- Laws of the bases.
--     base-here, base-other    a base after it was put, and the others of its half
--     base-half                those of the other half
--     base_kept                what is behind the queue stays: so do the bases
--     bases-kept               only the length of the table matters
--     base-set                 a base of a table that is equal to another
--     Summed, ..               the loop of `bases`
use Rattle.std.proofs.Common.{◌≡◌, ℕ, zero, suc, ◌+◌, ◌-◌, ◌*◌, ◌<◌, ◌≤◌, List, length, get_or, drop, set, sym, refl, ap, ◌∙◌, zero-le, le_refl, le_of_suc-le-suc, not-suc-le-zero, add-one, arith, length-set, get_or-drop, get_or-set_other, get_or-set_same, below_more}
use Rattle.paper.specs.Width.{dart_limit}
use Rattle.paper.specs.Below.{sum_below}
use Rattle.number.proofs.Sum.{sum_more}
use Rattle.base.specs.Base.{slot, base, Bases}

pub base-here : (w : List ℕ) (n h d x : ℕ) → Bases w n → h ≤ 1 → d < n → base (set w (slot n h d) x) n h d ≡ x
base-here w n h d x B e l = let k = B.long in get_or-set_same w (slot n h d) x 0 (omega arith)

pub base-other : (w : List ℕ) (n h d e x : ℕ) → (e ≡ d → ⊥) → base (set w (slot n h d) x) n h e ≡ base w n h e
base-other w n h d e x ne = get_or-set_other w (slot n h d) (slot n h e) x 0 (λ p. ne (omega arith))

pub base-half : (w : List ℕ) (n h d e x : ℕ) → h ≤ 1 → base (set w (slot n (1 - h) d) x) n h e ≡ base w n h e
base-half w n zero d e x l = get_or-set_other w (slot n 1 d) (slot n 0 e) x 0 (λ p. omega arith)
base-half w n (suc zero) d e x l = get_or-set_other w (slot n 0 d) (slot n 1 e) x 0 (λ p. omega arith)
base-half w n (suc (suc h)) d e x l = absurd (not-suc-le-zero (le_of_suc-le-suc l))

pub base_kept : (w w' : List ℕ) (n h e : ℕ) → drop (n + n) w' ≡ drop (n + n) w → base w' n h e ≡ base w n h e
base_kept w w' n h e p =
    sym (get_or-drop (n + n) w' (e + e + h) 0) ∙ ap (λ (l : List ℕ). get_or l (e + e + h) 0) p ∙ get_or-drop (n + n) w (e + e + h) 0

pub bases-kept : {w w' : List ℕ} {n : ℕ} → length w' ≡ length w → Bases w n → Bases w' n
bases-kept k B = let l = B.long in record { few = B.few; long = omega arith }

-- a base of a table that is equal to another
pub base-set : (n e : ℕ) {w w' : List ℕ} {x : ℕ} → w' ≡ w → base w n 0 e ≡ x → base w' n 0 e ≡ x
base-set n e p q = ap (λ (l : List ℕ). base l n 0 e) p ∙ q

-- ---- bases
pub record Summed (w₀ w : List ℕ) (n d sum : ℕ) : Type 0 where
  pub at : d ≤ n
  pub long : length w ≡ length w₀
  pub adds : sum ≡ 2 * sum_below d (base w₀ n 0)
  pub starts : (e : ℕ) → e < d → base w n 0 e ≡ 2 * sum_below e (base w₀ n 0)
  pub stops : (e : ℕ) → e < d → base w n 1 e ≡ 2 * sum_below (suc e) (base w₀ n 0)
  pub left : (e : ℕ) → d ≤ e → base w n 0 e ≡ base w₀ n 0 e

pub sum-none : (w : List ℕ) (n : ℕ) → Summed w w n 0 0
unfolding sum_below
sum-none w n = record {
  at = omega arith;
  long = refl;
  adds = refl;
  starts = λ e h. absurd (not-suc-le-zero h);
  stops = λ e h. absurd (not-suc-le-zero h);
  left = λ e h. refl;
}

module _ {w₀ w : List ℕ} {n d sum : ℕ} (B : Bases w₀ n) (S : Summed w₀ w n d sum) (h : d < n) where
  pub sum_fits : 2 * sum_below n (base w₀ n 0) ≤ dart_limit → (c : ℕ) → c ≡ base w n 0 d → sum + 2 * c ≤ dart_limit
  unfolding sum_below
  sum_fits f c e =
      let a = S.adds in
      let l = S.left d (le_refl d) in
      let m = sum_more (suc d) n (base w₀ n 0) h in
      omega arith

  pub sum-next : (c : ℕ) → c ≡ base w n 0 d → {w' : List ℕ} → w' ≡ set (set w (slot n 0 d) sum) (slot n 1 d) (sum + 2 * c) → Summed w₀ w' n (d + 1) (sum + 2 * c)
  sum-next c e {w'} put = record {
    at = omega arith;
    long = ap length put ∙ length-set u (slot n 1 d) (sum + 2 * c) ∙ length-set w (slot n 0 d) sum ∙ S.long;
    adds = next ∙ ap (λ (k : ℕ). 2 * sum_below k (base w₀ n 0)) (sym (add-one d));
    starts = below_more (λ e. base w' n 0 e ≡ 2 * sum_below e (base w₀ n 0)) d
        (λ e l. start e ∙ base-other w n 0 d e sum (λ p. omega arith) ∙ S.starts e l)
        (start d ∙ base-here w n 0 d sum (bases-kept S.long B) zero-le h ∙ S.adds);
    stops = below_more (λ e. base w' n 1 e ≡ 2 * sum_below (suc e) (base w₀ n 0)) d
        (λ e l. stop e ∙ base-other u n 1 d e (sum + 2 * c) (λ p. omega arith) ∙ base-half w n 1 d e sum (le_refl 1) ∙ S.stops e l)
        (stop d ∙ base-here u n 1 d (sum + 2 * c) (bases-kept (length-set w (slot n 0 d) sum ∙ S.long) B) (le_refl 1) h ∙ next);
    left = λ e l. start e ∙ base-other w n 0 d e sum (λ p. omega arith) ∙ S.left e (omega arith);
  }
    where
      u : List ℕ
      u = set w (slot n 0 d) sum

      next : sum + 2 * c ≡ 2 * sum_below (suc d) (base w₀ n 0)
      next = let a = S.adds in let l = S.left d (le_refl d) in let z : sum_below (suc d) (base w₀ n 0) ≡ base w₀ n 0 d + sum_below d (base w₀ n 0) = (unfold sum_below in refl) in omega arith

      start : (e : ℕ) → base w' n 0 e ≡ base u n 0 e
      start e = ap (λ (l : List ℕ). base l n 0 e) put ∙ base-half u n 0 d e (sum + 2 * c) zero-le

      stop : (e : ℕ) → base w' n 1 e ≡ base (set u (slot n 1 d) (sum + 2 * c)) n 1 e
      stop e = ap (λ (l : List ℕ). base l n 1 e) put
