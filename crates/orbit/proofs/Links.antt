-- Links that undo themselves: marks and paths, and links that agree.
--     to-mark, of-mark       what is reached is marked, and what is marked is reached
--     reach-back             a path leads back
--     agree-links, agree-orbit   links that agree on darts and axes have the same orbits
use Rattle.std.proofs.Common.{◌≡◌, ℕ, ◌<◌, ◌≤◌, Bool, true, false, sym, ap, ◌∙◌, subst, ext_get_or}
use Rattle.paper.specs.Orbit.{Reach, here, step, marked, orbit}
use Rattle.theory.proofs.Bool.{bool-ext}
use Rattle.theory.proofs.Orbit.{orbit-complete, orbit-sound, orbit-length, reach-trans}
use Rattle.orbit.specs.Flood.{Links}

module _ {α : ℕ → ℕ → ℕ} {m n : ℕ} (K : Links α m n) (S : ℕ → Bool) {d : ℕ} (h : d < n) where
  pub to-mark : {e : ℕ} → Reach α m S d e → (e < n) × (marked (orbit α m S n d) e ≡ true)
  to-mark r = orbit-complete α m S n d h K.within K.undo r

  pub of-mark : (e : ℕ) → e < n → marked (orbit α m S n d) e ≡ true → Reach α m S d e
  of-mark e g s = orbit-sound α m S n d h K.within K.undo e g s

  pub reach-back : {e : ℕ} → Reach α m S d e → Reach α m S e d
  reach-back here = here
  reach-back (step {e = e} r j l x p) = reach-trans (step here j l x (ap (α j) (sym p) ∙ K.undo j e (to-mark r).0 l)) (reach-back r)

-- ---- links that agree
abbrev Agree : (ℕ → ℕ → ℕ) → (ℕ → ℕ → ℕ) → ℕ → ℕ → Type 0
Agree α β m n = (j e : ℕ) → e < n → j ≤ m → α j e ≡ β j e

module _ {α β : ℕ → ℕ → ℕ} {m n : ℕ} (K : Links α m n) (A : Agree α β m n) where
  pub agree-links : Links β m n
  agree-links = record {
    within = λ j e h l. subst (λ (x : ℕ). x < n) (A j e h l) (K.within j e h l);
    undo = λ j e h l. ap (β j) (sym (A j e h l)) ∙ sym (A j (α j e) (K.within j e h l) l) ∙ K.undo j e h l;
  }

  agree-reach : {S : ℕ → Bool} {d e : ℕ} → d < n → Reach α m S d e → Reach β m S d e
  agree-reach h here = here
  agree-reach {S} h (step {e = e} r j l x p) = step (agree-reach h r) j l x (sym (A j e (to-mark K S h r).0 l) ∙ p)

pub agree-orbit : {α β : ℕ → ℕ → ℕ} {m n : ℕ} → Links α m n → Agree α β m n → (S : ℕ → Bool) (d : ℕ) → d < n → orbit α m S n d ≡ orbit β m S n d
agree-orbit {α} {β} {m} {n} K A S d h =
    let J = agree-links K A in
    ext_get_or false (orbit α m S n d) (orbit β m S n d) (orbit-length α m S n d ∙ sym (orbit-length β m S n d))
    (λ e g.
    let l : e < n = subst (λ (k : ℕ). e < k) (orbit-length α m S n d) g in
    bool-ext (marked (orbit α m S n d) e) (marked (orbit β m S n d) e)
    (λ s. (to-mark J S h (agree-reach K A h (of-mark K S h e l s))).1)
    (λ s. (to-mark K S h (agree-reach J (λ j e g l. sym (A j e g l)) h (of-mark J S h e l s))).1))
