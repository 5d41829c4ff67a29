-- Laws of the sweep that lays a level.
--     Sweeping, sweep-..       the loop of `lay_cells`
--     Laying, laying-..        the loop of `lay_upper`
use Rattle.std.proofs.Common.{◌≡◌, ℕ, ◌+◌, ◌<◌, ◌≤◌, List, length, ℤ, refl, ◌∙◌, inl, inr, ⊎_elim, not-suc-le-zero, arith}
use Rattle.paper.specs.Map.{Map}
use Rattle.theory.proofs.Below.{less-cases}
use Rattle.tally.specs.Level.{Whole}
use Rattle.tally.proofs.Levels.{whole-none}
use Rattle.visit.specs.Block.{Lays}
use Rattle.visit.specs.Stead.{Stead}
use Rattle.sweep.specs.Level.{Reached, Spread, Done, Turnable, TurnedTo, Sweepable}
use Rattle.sweep.proofs.Spreading.{spread_same, spread-lay}
use Rattle.visit.proofs.Visiting.{stead-kept}

-- ---- a level below the top
pub record Sweeping (M : Map) (m n k h : ℕ) (links w₀ v₀ : List ℕ) (op₀ : List ℤ) (ol₀ w v : List ℕ) (op : List ℤ) (ol : List ℕ) (t d : ℕ) : Type 0 where
  pub at : d ≤ n
  pub work : length w ≡ length w₀
  pub ends : length v ≡ length v₀
  pub places : length op ≡ length op₀
  pub ways : length ol ≡ length ol₀
  pub whole : Whole m n k links w t
  pub spread : Spread M n k h w (Done n w t d) op ol

module _ {M : Map} {m n k h₀ total : ℕ} {links : List ℕ} {places spans : List ℤ} {w₀ v₀ : List ℕ} {op₀ : List ℤ} {ol₀ : List ℕ} {room : ℕ}
    (S : Stead M m n links places spans w₀ op₀ ol₀ room) (A : Sweepable M m n k h₀ w₀ v₀ op₀ ol₀ total) (low : k < m) where
  -- the queue is empty, and nothing is laid
  pub sweep-none : Sweeping M m n k h₀ links w₀ v₀ op₀ ol₀ w₀ v₀ op₀ ol₀ 0 0
  sweep-none = record {
    at = omega arith;
    work = refl;
    ends = refl;
    places = refl;
    ways = refl;
    whole = whole-none m n k links w₀;
    spread = record { reached = A.reached; laid = λ e l. ⊎_elim (λ i. absurd (not-suc-le-zero i.1)) (λ i. absurd (not-suc-le-zero i)) };
  }

  module _ {w v : List ℕ} {op : List ℤ} {ol : List ℕ} {t d : ℕ} (I : Sweeping M m n k h₀ links w₀ v₀ op₀ ol₀ w v op ol t d) where
    pub sweep-stead : Stead M m n links places spans w op ol room
    sweep-stead = stead-kept I.work I.places I.ways S

    pub sweep-turn : d < n → Turnable M m n k h₀ links w v op ol d t total
    sweep-turn h = record {
      dart = h;
      level = low;
      either = A.either;
      whole = I.whole;
      spread = I.spread;
      all = A.all;
      long = let a = A.long in let b = I.ends in omega arith;
    }

    pub sweep-more : d < n → {w' v' : List ℕ} {op' : List ℤ} {ol' : List ℕ} {t' : ℕ} → length w' ≡ length w → length v' ≡ length v → length op' ≡ length op → length ol' ≡ length ol
        → TurnedTo M m n k h₀ links d w' t' op' ol' → Sweeping M m n k h₀ links w₀ v₀ op₀ ol₀ w' v' op' ol' t' (d + 1)
    sweep-more h a b p q T = record {
      at = omega arith;
      work = a ∙ I.work;
      ends = b ∙ I.ends;
      places = p ∙ I.places;
      ways = q ∙ I.ways;
      whole = T.whole;
      spread = T.spread;
    }

    pub sweep-done : n ≤ d → Spread M n k h₀ w (λ (e : ℕ). e < n) op ol
    sweep-done h = spread_same (λ (e : ℕ). e < n) (λ g e. refl) (λ e l _. inr (omega arith)) I.spread

-- ---- the top level and the one below it
pub record Laying (M : Map) (n k h : ℕ) (w : List ℕ) (op₀ : List ℤ) (ol₀ : List ℕ) (op : List ℤ) (ol : List ℕ) (d : ℕ) : Type 0 where
  pub at : d ≤ n
  pub places : length op ≡ length op₀
  pub links : length ol ≡ length ol₀
  pub spread : Spread M n k h w (λ (e : ℕ). e < d) op ol

module _ {M : Map} {m n k h : ℕ} {links : List ℕ} {places spans : List ℤ} {w : List ℕ} {op₀ : List ℤ} {ol₀ : List ℕ} {room : ℕ}
    (S : Stead M m n links places spans w op₀ ol₀ room) where
  pub laying-none : Reached M n k h w op₀ ol₀ → Laying M n k h w op₀ ol₀ op₀ ol₀ 0
  laying-none R = record { at = omega arith; places = refl; links = refl; spread = record { reached = R; laid = λ e l i. absurd (not-suc-le-zero i) } }

  module _ {op : List ℤ} {ol : List ℕ} {d : ℕ} (I : Laying M n k h w op₀ ol₀ op ol d) where
    pub laying-stead : Stead M m n links places spans w op ol room
    laying-stead = stead-kept refl I.places I.links S

    pub laying-more : k ≤ m → d < n → {op' : List ℤ} {ol' : List ℕ} → length op' ≡ length op → length ol' ≡ length ol → Lays M d k op ol op' ol' → Laying M n k h w op₀ ol₀ op' ol' (d + 1)
    laying-more low l a b N = record {
      at = omega arith;
      places = a ∙ I.places;
      links = b ∙ I.links;
      spread = spread-lay laying-stead low l N (λ (e : ℕ). e < d + 1)
          (λ x _ g. ⊎_elim (λ (p : x ≡ d). inr p) (λ u. inl u) (less-cases (let a = g in omega arith))) I.spread;
    }

    pub laying-done : n ≤ d → Spread M n k h w (λ (e : ℕ). e < n) op ol
    laying-done g = spread_same (λ (e : ℕ). e < n) (λ _ e. refl) (λ e l _. omega arith) I.spread
