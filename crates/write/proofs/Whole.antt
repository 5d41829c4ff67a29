-- Laws of the write of all levels.
--     Writing, write-..        the loop of `write_all`
use Rattle.std.proofs.Common.{◌≡◌, ℕ, suc, ◌+◌, ◌-◌, ◌*◌, ◌%◌, ◌<◌, ◌≤◌, List, length, ℤ, sym, refl, ap, ◌∙◌, subst, not-suc-le-zero, add-one, arith}
use Rattle.paper.specs.Width.{work_width}
use Rattle.paper.specs.Map.{Map, count}
use Rattle.paper.specs.Lift.{lifted_darts}
use Rattle.number.specs.First.{first}
use Rattle.base.specs.Base.{base}
use Rattle.sweep.specs.Drawn.{Drawn, Complete}
use Rattle.visit.specs.Stead.{Stead}
use Rattle.sweep.specs.Level.{Past, Reached, Filed, Sweepable}
use Rattle.sweep.proofs.Drawing.{drawn-none, drawn-same}
use Rattle.visit.proofs.Visiting.{stead-kept}
use Rattle.write.proofs.Done.{links-done, places-done}

pub record Writing (M : Map) (m n : ℕ) (w₀ v₀ : List ℕ) (op₀ : List ℤ) (ol₀ w v : List ℕ) (op : List ℤ) (ol : List ℕ) (h k : ℕ) : Type 0 where
  pub at : k ≤ m + 1
  pub either : h ≤ 1
  pub parity : h ≡ k % 2
  pub work : length w ≡ length w₀
  pub ends : length v ≡ length v₀
  pub places : length op ≡ length op₀
  pub links : length ol ≡ length ol₀
  pub reached : Reached M n k h w op ol

module _ {M : Map} {m n total : ℕ} {links : List ℕ} {places spans : List ℤ} {w₀ v₀ : List ℕ} {op₀ : List ℤ} {ol₀ : List ℕ} {room : ℕ}
    (S : Stead M m n links places spans w₀ op₀ ol₀ room) (T : (total ≡ length (lifted_darts M)) × (total * work_width ≤ length v₀)) where
  pub write-none : ((d : ℕ) → d < n → base w₀ n 0 d ≡ first M d 0) → ((d : ℕ) → d < n → base w₀ n 1 d ≡ first M d (suc m))
      → Writing M m n w₀ v₀ op₀ ol₀ w₀ v₀ op₀ ol₀ 0 0
  write-none b c = record {
    at = omega arith;
    either = omega arith;
    parity = refl;
    work = refl;
    ends = refl;
    places = refl;
    links = refl;
    reached = record {
      drawn = drawn-same M (Past n 0) (Past n 0) (λ d l u. absurd u) (λ d l u. not-suc-le-zero u.1) (λ d l u. absurd u) (λ d l u. not-suc-le-zero u.1) (drawn-none M op₀ ol₀);
      own = b;
      before = λ d l a p. absurd (let z : ⊥ = omega arith in z);
      outset = λ d l _. c d l ∙ ap (λ (x : ℕ). first M d (suc x)) (sym S.plan.holds.dims);
    };
  }

  module _ {w v : List ℕ} {op : List ℤ} {ol : List ℕ} {h k : ℕ} (I : Writing M m n w₀ v₀ op₀ ol₀ w v op ol h k) where
    pub write-stead : Stead M m n links places spans w op ol room
    write-stead = stead-kept I.work I.places I.links S

    pub write-sweep : k ≤ m → Sweepable M m n k h w v op ol total
    write-sweep l = record {
      level = l;
      either = I.either;
      reached = I.reached;
      all = T.0;
      long = let a = T.1 in let b = I.ends in omega arith;
    }

    pub write-more : k ≤ m → {w' v' : List ℕ} {op' : List ℤ} {ol₁ ol' : List ℕ} → length w' ≡ length w → length v' ≡ length v → length op' ≡ length op → length ol' ≡ length ol
        → Filed M n k h w' op' ol₁ → Drawn M (Past n (suc k)) (Past n (suc k)) op' ol' → Writing M m n w₀ v₀ op₀ ol₀ w' v' op' ol' (1 - h) (k + 1)
    write-more l {w'} {v'} {op'} {ol₁} {ol'} a b c d F D = record {
      at = omega arith;
      either = omega arith;
      parity = let x = I.parity in omega arith;
      work = a ∙ I.work;
      ends = b ∙ I.ends;
      places = c ∙ I.places;
      links = d ∙ I.links;
      reached = subst (λ (x : ℕ). Reached M n x (1 - h) w' op' ol') (sym (add-one k)) (record {
        drawn = D;
        own = F.next;
        before = λ g i j p. ap (λ (x : ℕ). base w' n x g) twice ∙ F.own g i ∙ ap (first M g) (let z : k ≡ j = omega arith in z);
        outset = λ g i p. absurd (let z : ⊥ = omega arith in z);
      });
    }
      where
        twice : 1 - (1 - h) ≡ h
        twice = let x = I.either in omega arith

    -- ---- past the top
    module _ (past : m < k) where
      above : k ≡ suc m
      above = let a = I.at in omega arith

      pub write_done : Complete M op ol
      write_done = record {
        links = links-done M S.plan.valid I.reached.drawn all below;
        places = places-done M S.plan.valid I.reached.drawn all below;
      }
        where
          all : (e l : ℕ) → e < count M → l ≤ M.dim → Past n k e l
          all e l a b = (subst (λ (x : ℕ). e < x) S.plan.holds.darts a, let c = S.plan.holds.dims in let d = above in omega arith)

          below : (e l : ℕ) → e < count M → l < M.dim → Past n k e l
          below e l a b = all e l a (omega arith)

      -- the half that the top level took has the first rows of its blocks still
      pub write-starts : (d : ℕ) → d < n → base w n (m % 2) d ≡ first M d m
      write-starts d g =
          let a = I.parity in
          let b = above in
          let c = I.either in
          let e : m % 2 ≡ 1 - h = omega arith in
          ap (λ (x : ℕ). base w n x d) e ∙ I.reached.before d g m (sym b)
