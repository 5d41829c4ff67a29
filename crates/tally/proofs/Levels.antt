-- Laws of the count of a level, and of all levels.
--     Sweeping, sweep-..       the loop of `count_level`
--     Rising, rise-..          the loop of `count_all`, after the two upper levels
use Rattle.std.proofs.Common.{◌≡◌, ℕ, suc, ◌+◌, ◌*◌, ◌<◌, ◌≤◌, List, length, ℤ, sym, refl, ap, ◌∙◌, inl, ⊎_elim, not-suc-le-zero, add-one, arith}
use Rattle.paper.specs.Below.{sum_below}
use Rattle.paper.specs.Map.{Map}
use Rattle.paper.specs.Lift.{lifted_darts}
use Rattle.theory.proofs.Bool.{less-or}
use Rattle.hold.specs.Hold.{Reads}
use Rattle.orbit.proofs.Sparse.{none}
use Rattle.number.specs.Count.{below}
use Rattle.number.proofs.Sum.{sum_same}
use Rattle.base.specs.Base.{base}
use Rattle.tally.specs.Level.{front, Sound, Whole, Stage, tally, Upto, Turn, Stepped, Levelled, Tallied}
use Rattle.tally.specs.Upper.{UpperCounted}
use Rattle.tally.proofs.Turns.{plan-length, tally-all}
use Rattle.tally.proofs.Uppers.{upper-tally, upper-much}

-- an empty queue, whatever the work holds
pub whole-none : (m n k : ℕ) (ls w : List ℕ) → Whole m n k ls w 0
whole-none m n k ls w = record { set = none n n (front n w); shut = λ q h. absurd (not-suc-le-zero h) }

-- ---- the sweep over a level
pub record Sweeping (m n k : ℕ) (ls : List ℕ) (s : List ℤ) (w₀ v₀ : List ℕ) (room : ℕ) (w v : List ℕ) (t sum d : ℕ) : Type 0 where
  pub at : d ≤ n
  pub long : length w ≡ length w₀
  pub wide : length v ≡ length v₀
  pub stage : Stage m n k ls w t sum room
  pub upto : (M : Map) → Reads M m n ls s → ((e : ℕ) → e < n → base w₀ n 0 e ≡ tally M k e) → Upto M k n w t d

pub sweep-none : {m n k room total : ℕ} {ls : List ℕ} {s : List ℤ} {w v : List ℕ} → total ≡ 2 * sum_below n (base w n 0) → total ≤ room
    → Sweeping m n k ls s w v room w v 0 total 0
sweep-none {m} {n} {k} {ls = ls} {w = w} a f = record {
  at = omega arith;
  long = refl;
  wide = refl;
  stage = record { whole = whole-none m n k ls w; adds = a; fits = f };
  upto = λ M P b. record {
    done = λ e l i. absurd (⊎_elim (λ h. not-suc-le-zero h) (λ h. not-suc-le-zero h.1) i);
    left = λ e h _ _. b e h;
    passed = λ e h. absurd (not-suc-le-zero h);
  };
}

module _ {m n k room t sum d : ℕ} {ls : List ℕ} {s : List ℤ} {w₀ v₀ w v : List ℕ} (I : Sweeping m n k ls s w₀ v₀ room w v t sum d) where
  pub sweep-turn : Sound m n ls s w v room → d < n → suc k < m → Turn m n k ls s w v d t sum room
  sweep-turn S h g = record { sound = S; dart = h; level = g; stage = I.stage }

  pub sweep-more : d < n → {w' v' : List ℕ} {t' r : ℕ} → length w' ≡ length w → length v' ≡ length v → Stepped m n k ls s d w t room w' t' r → r ≤ room
      → Sweeping m n k ls s w₀ v₀ room w' v' t' r (d + 1)
  sweep-more h a b Q f = record {
    at = omega arith;
    long = a ∙ I.long;
    wide = b ∙ I.wide;
    stage = Q.stage f;
    upto = λ M P y. Q.upto M P (I.upto M P y) f;
  }

  pub sweep-over : {w' : List ℕ} {t' r : ℕ} → Stepped m n k ls s d w t room w' t' r → room < r → Levelled m n k ls s w₀ room w' r
  sweep-over {w'} {t'} {r} Q f = record {
    total = λ l. absurd (past l);
    bases = λ M P y l. absurd (past l);
    over = Q.over;
    much = λ M P y. Q.much M P (I.upto M P y);
  }
    where
      past : r ≤ room → ⊥
      past l = omega arith

  pub sweep-done : n ≤ d → Levelled m n k ls s w₀ room w sum
  sweep-done h = record {
    total = λ _. I.stage.adds;
    bases = λ M P y _ e l. (I.upto M P y).done e l (inl (omega arith));
    over = λ l. absurd (past l);
    much = λ M P y l. absurd (past l);
  }
    where
      past : room < sum → ⊥
      past l = let f = I.stage.fits in omega arith

-- ---- all levels
pub record Rising (m n : ℕ) (ls : List ℕ) (s : List ℤ) (w₀ v₀ : List ℕ) (room : ℕ) (w v : List ℕ) (total k : ℕ) : Type 0 where
  pub at : suc k ≤ m
  pub long : length w ≡ length w₀
  pub wide : length v ≡ length v₀
  -- within the room
  pub adds : total ≤ room → total ≡ 2 * sum_below n (base w n 0)
  pub bases : (M : Map) → Reads M m n ls s → total ≤ room → (e : ℕ) → e < n → base w n 0 e ≡ tally M k e
  -- or past it
  pub over : room < total → total ≡ room + 1
  pub much : (M : Map) → Reads M m n ls s → room < total → room < length (lifted_darts M)

pub rise-none : {m n room r : ℕ} {ls : List ℕ} {s : List ℤ} {w v : List ℕ} → 0 < m → UpperCounted m n ls s room w r → Rising m n ls s w v room w v r 0
rise-none some C = record {
  at = some;
  long = refl;
  wide = refl;
  adds = C.total;
  bases = λ M P l e h. C.bases l e h ∙ upper-tally M P some e h;
  over = C.over;
  much = λ M P l. let b = C.much l in let c = upper-much M P some in omega arith;
}

module _ {m n room total k : ℕ} {ls : List ℕ} {s : List ℤ} {w₀ v₀ w v : List ℕ} (I : Rising m n ls s w₀ v₀ room w v total k) where
  pub rise-more : suc k < m → total ≤ room → {w' v' : List ℕ} {r : ℕ} → length w' ≡ length w → length v' ≡ length v → Levelled m n k ls s w room w' r
      → Rising m n ls s w₀ v₀ room w' v' r (k + 1)
  rise-more h f a b Q = record {
    at = omega arith;
    long = a ∙ I.long;
    wide = b ∙ I.wide;
    adds = Q.total;
    bases = λ M P g e l. Q.bases M P (I.bases M P f) g e l ∙ ap (λ (x : ℕ). tally M x e) (sym (add-one k));
    over = Q.over;
    much = λ M P. Q.much M P (I.bases M P f);
  }

  pub rise-over : room < total → (total ≤ room → total ≡ 2 * sum_below n (base w n 0)) × ((M : Map) → Reads M m n ls s → Tallied M m n room w total)
  rise-over f = (
    I.adds,
    λ M P.
        let y = I.much M P f in
        record { total = λ l. absurd (no l y); bases = λ l. absurd (no l y); over = λ _. I.over f },
  )
    where
      no : {a b : ℕ} → a ≤ b → b < a → ⊥
      no l h = omega arith

  pub rise-done : m ≤ suc k → (total ≤ room → total ≡ 2 * sum_below n (base w n 0)) × ((M : Map) → Reads M m n ls s → Tallied M m n room w total)
  rise-done h = ⊎_elim rise-over within (less-or room total)
    where
      within : total ≤ room → (total ≤ room → total ≡ 2 * sum_below n (base w n 0)) × ((M : Map) → Reads M m n ls s → Tallied M m n room w total)
      within f = (
        I.adds,
        λ M P.
            let z : suc k ≡ m = let a = I.at in omega arith in
            let b : (e : ℕ) → e < n → base w n 0 e ≡ below M (suc m) e =
            λ e l. I.bases M P f e l ∙ tally-all M m k e P.holds.dims z in
            let y : total ≡ length (lifted_darts M) = I.adds f ∙ ap (λ (x : ℕ). 2 * x) (sum_same n (base w n 0) (below M (suc m)) b) ∙ plan-length P in
            record { total = λ _. y; bases = λ _. b; over = λ l. absurd (let x : ⊥ = omega arith in x) },
      )
