-- Laws of the sweep over all darts.
--     swept_none             it starts with an empty queue, whatever the work list holds
--     swept-old, swept-new   a turn at a dart that an orbit before has, and at one that begins a new orbit
--     met-yes, met-no        the count of lowest darts after such a turn
use Rattle.std.proofs.Common.{◌≡◌, ℕ, ◌+◌, ◌<◌, ◌≤◌, Bool, true, false, not, List, sym, ap, ◌∙◌, subst, ⊎_elim, le_refl, not-suc-le-zero, add-one, arith, below_more, le-ltb, lt-ltb}
use Rattle.paper.specs.Below.{any_below, count_below}
use Rattle.paper.specs.Orbit.{Reach, marked, orbit}
use Rattle.theory.proofs.Bool.{not-true, less-or}
use Rattle.theory.proofs.Below.{any-in, any_out}
use Rattle.theory.proofs.Orbit.{closed-holds}
use Rattle.orbit.specs.Sparse.{In}
use Rattle.orbit.specs.Flood.{Links, Shut, Flooded, Swept, least, Met}
use Rattle.orbit.proofs.Links.{to-mark, of-mark, reach-back}
use Rattle.orbit.proofs.Sparse.{none, grown-none, in-grown}

-- a set that is closed under the axes holds what is reached from its darts
shut-reach : (α : ℕ → ℕ → ℕ) (m : ℕ) (S : ℕ → Bool) (n : ℕ) (w : List ℕ) (t : ℕ) {e g : ℕ}
    → Shut α m S n w t → In n w t e → Reach α m S e g → In n w t g
shut-reach α m S n w t C = closed-holds (λ e. In n w t e) (λ x j i l s. let a = C i.0 i.1 j l s in (a.0, a.1, a.2 ∙ ap (α j) i.2))

pub swept_none : (α : ℕ → ℕ → ℕ) (m : ℕ) (S : ℕ → Bool) (n : ℕ) (w : List ℕ) → Swept α m S n w 0 0
swept_none α m S n w = record {
  set = none n n w;
  shut = λ q h. absurd (not-suc-le-zero h);
  holds = λ e h. absurd (not-suc-le-zero h);
  from = λ q h. absurd (not-suc-le-zero h);
}

module _ (α : ℕ → ℕ → ℕ) (m : ℕ) (S : ℕ → Bool) (n : ℕ) (K : Links α m n) (d : ℕ) (dn : d < n) {w : List ℕ} {t : ℕ} (A : Swept α m S n w t d) where
  is-least : (In n w t d → ⊥) → least α m S n d ≡ true
  unfolding least
  is-least out = ap not (not-true (any_below d (marked (orbit α m S n d))) (λ s.
      let a = any_out d (marked (orbit α m S n d)) s in
      let l = a.1 in
      out (shut-reach α m S n w t A.shut (A.holds a.0 l) (reach-back K S dn (of-mark K S dn a.0 (omega arith) a.2)))))

  not_least : In n w t d → least α m S n d ≡ false
  unfolding least
  not_least i =
      let f = A.from i.0 i.1 in
      let l = f.1 in
      let r : Reach α m S d f.0 = reach-back K S (omega arith) (subst (λ (x : ℕ). Reach α m S f.0 x) i.2 f.2) in
      ap not (any-in d (marked (orbit α m S n d)) f.0 l (to-mark K S dn r).1)

  pub swept-old : In n w t d → Met α m S n d w t w t
  swept-old i = record {
    swept = record {
      set = A.set;
      shut = A.shut;
      holds = below_more (λ e. In n w t e) d A.holds i;
      from = λ q h. let f = A.from q h in let l = f.1 in (f.0, omega arith, f.2);
    };
    grown = grown-none n w t;
    new = le-ltb t t (le_refl t) ∙ sym (not_least i);
    found = λ h. absurd (no t h);
  }
    where
      no : (a : ℕ) → a < a → ⊥
      no a h = omega arith

  pub swept-new : {w' : List ℕ} {t' : ℕ} → (In n w t d → ⊥) → Flooded α m S n d w t w' t' → Met α m S n d w t w' t'
  swept-new {w'} {t'} out F =
      let G = F.grown in
      record {
        swept = record {
          set = F.set;
          shut = F.shut;
          holds = below_more (λ e. In n w' t' e) d (λ e l. in-grown n G e (A.holds e l)) (t, F.first.0, F.first.1);
          from = λ q h. ⊎_elim
              (λ l. let f = A.from q l in let k = f.1 in (f.0, omega arith, subst (λ (x : ℕ). Reach α m S f.0 x) (sym (G.same q l)) f.2))
              (λ l. (d, omega arith, F.reached q l h))
              (less-or q t);
        };
        grown = G;
        new = lt-ltb t t' F.first.0 ∙ sym (is-least out);
        found = λ _. F;
      }

-- the lowest darts below d + 1
pub met-yes : (α : ℕ → ℕ → ℕ) (m : ℕ) (S : ℕ → Bool) (n d : ℕ) {w w' : List ℕ} {t t' k : ℕ} → Met α m S n d w t w' t' → t < t'
    → k ≡ count_below d (least α m S n) → k + 1 ≡ count_below (d + 1) (least α m S n)
unfolding count_below
met-yes α m S n d {t = t} {t' = t'} B h e = rw (add-one d, sym B.new ∙ lt-ltb t t' h) (omega arith)

pub met-no : (α : ℕ → ℕ → ℕ) (m : ℕ) (S : ℕ → Bool) (n d : ℕ) {w w' : List ℕ} {t t' k : ℕ} → Met α m S n d w t w' t' → t' ≤ t
    → k ≡ count_below d (least α m S n) → k ≡ count_below (d + 1) (least α m S n)
unfolding count_below
met-no α m S n d {t = t} {t' = t'} B h e = rw (add-one d, sym B.new ∙ le-ltb t t' h) (omega arith)
