-- The computed orbit is the darts reached.
--     orbit-complete   every dart that is reached is marked
--     orbit-sound      every dart that is marked is reached
--     orbit-length     there is a mark for each dart
--     rounds, after, after_next, reached     the marks after each round; all that is reached is marked after n
--     reach-..         paths of links
--     closed-holds     what holds of d and is kept by the links holds of all that d reaches
use Rattle.std.proofs.Common.{◌≡◌, ℕ, zero, suc, ◌<◌, ◌≤◌, Bool, true, false, ◌&&◌, ◌||◌, ◌⊎◌, List, length, set, replicate, sym, refl, ap, ◌∙◌, subst, inl, inr, ⊎_elim, suc-le-suc, le_of_suc-le-suc, arith, length-set}
use mathlib.Core.Bool.{beq}
use lib.ListN.{length-replicate}
use Rattle.paper.specs.Below.{any_below, count_below, same_list}
use Rattle.paper.specs.Orbit.{Reach, here, step, marked, near, round, settle, orbit}
use Rattle.paper.proofs.Same.{same-list, same_bool}
use Rattle.theory.proofs.Bool.{or_case, or_left, or_right, and_both, and_intro, clash, eq-or, eq-T}
use Rattle.theory.proofs.Below.{any-in, any_out, any_same, count-le, count-pos, count-grow, list_length, list_at, one_at, one-off}

-- ---- stopping early changes nothing
module _ (α : ℕ → ℕ → ℕ) (m : ℕ) (S : ℕ → Bool) (n : ℕ) where
  -- c rounds from some marks, with no early stop
  unfoldable pub rounds : ℕ → List Bool → List Bool
  rounds zero ms = ms
  rounds (suc c) ms = rounds c (round α m S n ms)

  rounds-out : (c : ℕ) (ms : List Bool) → rounds (suc c) ms ≡ round α m S n (rounds c ms)
  unfolding rounds
  rounds-out zero ms = refl
  rounds-out (suc c) ms = rounds-out c (round α m S n ms)

  rounds-still : (c : ℕ) (ms : List Bool) → ms ≡ round α m S n ms → rounds c ms ≡ ms
  unfolding rounds
  rounds-still zero ms e = refl
  rounds-still (suc c) ms e = ap (rounds c) (sym e) ∙ rounds-still c ms e

  settle-rounds : (c : ℕ) (ms : List Bool) → settle α m S n c ms ≡ rounds c ms
  unfolding settle rounds
  settle-rounds zero ms = refl
  settle-rounds (suc c) ms = go (same_list beq ms (round α m S n ms)) refl (settle-rounds c (round α m S n ms))
    where
      go : (b : Bool) → same_list beq ms (round α m S n ms) ≡ b → settle α m S n c (round α m S n ms) ≡ rounds c (round α m S n ms)
          → ◌≡◌ {A = List Bool} (elim b [ true ↦ ms | false ↦ settle α m S n c (round α m S n ms) ]) (rounds c (round α m S n ms))
      go true e h = sym (rounds-still (suc c) ms (same-list beq same_bool ms (round α m S n ms) (eq-T e)))
      go false e h = h

  -- k rounds from d alone
  unfoldable pub after : ℕ → ℕ → List Bool
  after d k = rounds k (set (replicate n false) d true)

  pub after_next : (d k : ℕ) → after d (suc k) ≡ round α m S n (after d k)
  unfolding after
  after_next d k = rounds-out k (set (replicate n false) d true)

  orbit-after : (d : ℕ) → orbit α m S n d ≡ after d n
  unfolding orbit after
  orbit-after d = settle-rounds n (set (replicate n false) d true)

  after-length : (d k : ℕ) → length (after d k) ≡ n
  unfolding after rounds round
  after-length d zero = length-set (replicate n false) d true ∙ length-replicate n false
  after-length d (suc k) = ap length (after_next d k) ∙ list_length n (near α m S (after d k))

  pub orbit-length : (d : ℕ) → length (orbit α m S n d) ≡ n
  orbit-length d = ap length (orbit-after d) ∙ after-length d n

-- ---- the orbit, for links that stay below n and undo themselves
module _ (α : ℕ → ℕ → ℕ) (m : ℕ) (S : ℕ → Bool) (n d : ℕ) (dn : d < n)
    (C : (j e : ℕ) → e < n → j ≤ m → α j e < n) (Inv : (j e : ℕ) → e < n → j ≤ m → α j (α j e) ≡ e) where
  abbrev M : ℕ → ℕ → Bool
  M k e = marked (after α m S n d k) e

  M-next : (k e : ℕ) → e < n → M (suc k) e ≡ near α m S (after α m S n d k) e
  unfolding round
  M-next k e h = ap (λ l. marked l e) (after_next α m S n d k) ∙ list_at n (near α m S (after α m S n d k)) false e h

  near_same : (ms ms' : List Bool) → ((e : ℕ) → e < n → marked ms e ≡ marked ms' e) → (e : ℕ) → e < n → near α m S ms e ≡ near α m S ms' e
  unfolding near
  near_same ms ms' s e h =
      λ i. s e h i
      || any_same (suc m) (λ j. S j && marked ms (α j e)) (λ j. S j && marked ms' (α j e)) (λ j l. ap (λ b. S j && b) (s (α j e) (C j e h (le_of_suc-le-suc l)))) i

  start : M 0 d ≡ true
  unfolding after rounds
  start = one_at n d true false dn

  start-only : (e : ℕ) → M 0 e ≡ true → e ≡ d
  unfolding after rounds
  start-only e t = ⊎_elim (λ p. p) (λ ne. absurd (clash t (one-off n d e true false ne))) (eq-or e d)

  stays : (k e : ℕ) → e < n → M k e ≡ true → M (suc k) e ≡ true
  unfolding near
  stays k e h t = M-next k e h ∙ or_left (M k e) (any_below (suc m) (λ j. S j && M k (α j e))) t

  Stable : ℕ → Type 0
  Stable k = (e : ℕ) → e < n → M k e ≡ M (suc k) e

  stable-next : (k : ℕ) → Stable k → Stable (suc k)
  unfolding Stable
  stable-next k s e h = M-next k e h ∙ near_same (after α m S n d k) (after α m S n d (suc k)) s e h ∙ sym (M-next (suc k) e h)

  settles : (k : ℕ) → Stable k ⊎ (suc k ≤ count_below n (M k))
  unfolding Stable
  settles zero = inr (count-pos n (M 0) d dn start)
  settles (suc k) = ⊎_elim (λ s. inl (stable-next k s))
      (λ c. ⊎_elim (λ s. inl (stable-next k s.0)) (λ l. inr (omega arith)) (count-grow n (M k) (M (suc k)) (stays k)))
      (settles k)

  stable : Stable n
  stable = ⊎_elim (λ s. s) (λ c. absurd (no (count-le n (M n)) c)) (settles n)
    where
      no : {a b : ℕ} → a ≤ b → suc b ≤ a → ⊥
      no p q = omega arith

  kept : (k e : ℕ) → e < n → M 0 e ≡ true → M k e ≡ true
  kept zero e h t = t
  kept (suc k) e h t = stays k e h (kept k e h t)

  pub reached : {e : ℕ} → Reach α m S d e → (e < n) × (marked (after α m S n d n) e ≡ true)
  unfolding near Stable
  reached here = (dn, kept n d dn start)
  reached (step {e = e} {g = g} r j l x p) =
      let i = reached r in
      let gn : g < n = subst (λ (k : ℕ). k < n) p (C j e i.0 l) in
      let back : α j g ≡ e = ap (α j) (sym p) ∙ Inv j e i.0 l in (
        gn,
        stable g gn ∙ M-next n g gn
            ∙ or_right (M n g) (any_below (suc m) (λ j. S j && M n (α j g)))
            (any-in (suc m) (λ j. S j && M n (α j g)) j (suc-le-suc l) (and_intro (S j) (M n (α j g)) x (ap (M n) back ∙ i.1))),
      )

  -- every dart that is reached is marked
  pub orbit-complete : {e : ℕ} → Reach α m S d e → (e < n) × (marked (orbit α m S n d) e ≡ true)
  orbit-complete {e} r = let i = reached r in (i.0, ap (λ l. marked l e) (orbit-after α m S n d) ∙ i.1)

  sound : (k e : ℕ) → e < n → M k e ≡ true → Reach α m S d e
  unfolding near
  sound zero e h t = subst (λ (x : ℕ). Reach α m S d x) (sym (start-only e t)) here
  sound (suc k) e h t = ⊎_elim (λ s. sound k e h s)
      (λ s. let r = any_out (suc m) (λ j. S j && M k (α j e)) s in let b = and_both (S r.0) (M k (α r.0 e)) r.2 in let l = le_of_suc-le-suc r.1 in
      step (sound k (α r.0 e) (C r.0 e h l) b.1) r.0 l b.0 (Inv r.0 e h l))
      (or_case (M k e) (any_below (suc m) (λ j. S j && M k (α j e))) (sym (M-next k e h) ∙ t))

  -- every dart that is marked is reached
  pub orbit-sound : (e : ℕ) → e < n → marked (orbit α m S n d) e ≡ true → Reach α m S d e
  orbit-sound e h t = sound n e h (sym (ap (λ l. marked l e) (orbit-after α m S n d)) ∙ t)

-- ---- paths of links
module _ {α : ℕ → ℕ → ℕ} {m : ℕ} {S : ℕ → Bool} where
  pub reach-trans : {d e g : ℕ} → Reach α m S d e → Reach α m S e g → Reach α m S d g
  reach-trans r here = r
  reach-trans r (step q j l x p) = step (reach-trans r q) j l x p

  -- more axes reach more
  pub reach-more : {Z : ℕ → Bool} {d e : ℕ} → ((j : ℕ) → j ≤ m → S j ≡ true → Z j ≡ true) → Reach α m S d e → Reach α m Z d e
  reach-more f here = here
  reach-more f (step q j l x p) = step (reach-more f q) j l (f j l x) p

  pub closed-holds : (P : ℕ → Type 0) {d e : ℕ} → ((x j : ℕ) → P x → j ≤ m → S j ≡ true → P (α j x)) → P d → Reach α m S d e → P e
  closed-holds P c h here = h
  closed-holds P c h (step {e = e} r j l x p) = subst P p (c e j (closed-holds P c h r) l x)
