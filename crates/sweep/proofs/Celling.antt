-- Laws of the blocks of a cell, dart after dart of the queue.
--     call-layable, call-bare      a dart whose bases differ has a block to be laid; one whose bases are the same has none
--     Celling, ..      the loop of `lay_cell`: what its calls ask, and what they leave
use Rattle.std.proofs.Common.{◌≡◌, ℕ, ◌+◌, ◌-◌, ◌<◌, ◌≤◌, ◌⊎◌, List, length, get_or, ℤ, sym, refl, ap, ◌∙◌, subst, inl, inr, ⊎_elim, le_refl, arith}
use Rattle.paper.specs.Map.{Map}
use Rattle.paper.specs.Ends.{ends}
use Rattle.theory.proofs.Below.{less-cases}
use Rattle.orbit.specs.Sparse.{queue}
use Rattle.walk.specs.Walk.{Walkable}
use Rattle.base.specs.Base.{base}
use Rattle.tally.specs.Level.{front}
use Rattle.tally.proofs.Found.{front-queue}
use Rattle.visit.specs.Block.{Lays}
use Rattle.visit.specs.Stead.{Stead}
use Rattle.visit.specs.Visit.{Layable}
use Rattle.sweep.specs.Level.{Reached, Spread, Done, Called, Celled}
use Rattle.sweep.proofs.Bare.{halves-bare, halves-some, bare-lays}
use Rattle.sweep.proofs.Spreading.{spread-lay}
use Rattle.visit.proofs.Visiting.{stead-kept}

-- ---- a dart that may have no spans
module _ {M : Map} {m n e k h : ℕ} {links : List ℕ} {places spans : List ℤ} {w : List ℕ} {op : List ℤ} {ol : List ℕ} {room : ℕ}
    (S : Stead M m n links places spans w op ol room) (dart : e < n) (level : k ≤ m) (either : h ≤ 1) (R : Reached M n k h w op ol) where
  pub call-layable : (base w n h e ≡ base w n (1 - h) e → ⊥) → Layable M m n e k h w
  call-layable o = record {
    dart = dart;
    level = level;
    either = either;
    own = R.own e dart;
    some = halves-some S h dart level (R.own e dart) (R.before e dart) (R.outset e dart) o;
  }

  pub call-bare : base w n h e ≡ base w n (1 - h) e → Lays M e k op ol op ol
  call-bare p = bare-lays S (halves-bare S h dart level (R.own e dart) (R.before e dart) (R.outset e dart) p)

-- ---- the darts of a cell
pub record Celling (M : Map) (n k h d : ℕ) (op₀ : List ℤ) (ol₀ w : List ℕ) (from to : ℕ) (op : List ℤ) (ol : List ℕ) (q : ℕ) : Type 0 where
  pub first : from ≤ q
  pub last : q ≤ to
  pub places : length op ≡ length op₀
  pub links : length ol ≡ length ol₀
  pub spread : Spread M n k h w (Done n w q d) op ol

module _ {M : Map} {m n k h d half many from to : ℕ} {links : List ℕ} {places spans : List ℤ} {w v : List ℕ} {op₀ : List ℤ} {ol₀ : List ℕ} {room : ℕ}
    (S : Stead M m n links places spans w op₀ ol₀ room) (A : Celled M m n k h d spans w v half many from to op₀ ol₀) where
  pub cell-start : Celling M n k h d op₀ ol₀ w from to op₀ ol₀ from
  cell-start = record { first = le_refl from; last = A.order; places = refl; links = refl; spread = A.spread }

  module _ {op : List ℤ} {ol : List ℕ} {q : ℕ} (I : Celling M n k h d op₀ ol₀ w from to op ol q) where
    pub cell-stead : Stead M m n links places spans w op ol room
    cell-stead = stead-kept refl I.places I.links S

    pub cell-done : to ≤ q → Spread M n k h w (Done n w to d) op ol
    cell-done l =
        let a = I.last in
        let e : q ≡ to = omega arith in
        subst (λ (t : ℕ). Spread M n k h w (Done n w t d) op ol) e I.spread

    module _ (lt : q < to) where
      pub cell-place : (n + q < length w) × (n + q + 1 ≤ n + n)
      cell-place = let a = A.last in let b = S.work in (omega arith, omega arith)

      module _ {e : ℕ} (ee : e ≡ get_or w (n + q) 0) where
        queue-here : queue n (front n w) q ≡ e
        queue-here = front-queue n w q (let a = A.last in omega arith) ∙ sym ee

        below : e < n
        below = subst (λ (x : ℕ). x < n) queue-here (A.set.below q lt)

        pub cell-call : Called M m n e k h spans w v half many op ol
        cell-call = record {
          dart = below;
          level = A.level;
          either = A.either;
          reached = I.spread.reached;
          walk = subst (λ (x : ℕ). Walkable v half many spans x) (sym ee) (A.walks q I.first lt);
          ends = A.ends q I.first lt ∙ ap (ends M k) (sym ee);
        }

        -- a dart of the queue up to here was there before, or is this one
        either : (x : ℕ) → Done n w (q + 1) d x → Done n w q d x ⊎ (x ≡ e)
        either x = ⊎_elim
            (λ i. ⊎_elim (λ (p : i.0 ≡ q). inr (sym i.2 ∙ ap (queue n (front n w)) p ∙ queue-here)) (λ l. inl (inl (i.0, l, i.2))) (less-cases (let a = i.1 in omega arith)))
            (λ l. inl (inr l))

        pub cell-more : {op' : List ℤ} {ol' : List ℕ} → Lays M e k op ol op' ol' → length op' ≡ length op → length ol' ≡ length ol → Celling M n k h d op₀ ol₀ w from to op' ol' (q + 1)
        cell-more N b c = record {
          first = let f = I.first in omega arith;
          last = omega arith;
          places = b ∙ I.places;
          links = c ∙ I.links;
          spread = spread-lay cell-stead A.level below N (Done n w (q + 1) d) (λ x _. either x) I.spread;
        }
