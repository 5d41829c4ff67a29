-- Labels that links carry on.
--     carried-left, carried-right     the dart is reached by the links, the label by the rules
--     carry, carry_back               along a path of links some label is carried, and along one of rules to some dart
--     forced                          labels that go along with the links are those that are carried
use Rattle.std.proofs.Common.{◌≡◌, ℕ, ◌≤◌, Bool, true, sym, refl, ap, ◌∙◌}
use Rattle.paper.specs.Orbit.{Reach, here, step}
use Rattle.theory.specs.Carry.{Carried, stays, goes}

module _ {α ρ : ℕ → ℕ → ℕ} {m : ℕ} {S : ℕ → Bool} {a b : ℕ} where
  pub carried-left : {d x : ℕ} → Carried α ρ m S a b d x → Reach α m S a d
  carried-left stays = here
  carried-left (goes c j l s p q) = step (carried-left c) j l s p

  pub carried-right : {d x : ℕ} → Carried α ρ m S a b d x → Reach ρ m S b x
  carried-right stays = here
  carried-right (goes c j l s p q) = step (carried-right c) j l s q

  pub carry : {d : ℕ} → Reach α m S a d → (x : ℕ) × Carried α ρ m S a b d x
  carry here = (b, stays)
  carry (step r j l s p) = let c = carry r in (ρ j c.0, goes c.1 j l s p refl)

  pub carry_back : {x : ℕ} → Reach ρ m S b x → (d : ℕ) × Carried α ρ m S a b d x
  carry_back here = (a, stays)
  carry_back (step r j l s p) = let c = carry_back r in (α j c.0, goes c.1 j l s refl p)

  pub forced : (f : ℕ → ℕ) → f a ≡ b → ((j d : ℕ) → j ≤ m → S j ≡ true → Reach α m S a d → f (α j d) ≡ ρ j (f d))
      → {d x : ℕ} → Carried α ρ m S a b d x → f d ≡ x
  forced f p h stays = p
  forced f p h (goes {d = d} c j l s u v) = ap f (sym u) ∙ h j d l s (carried-left c) ∙ ap (ρ j) (forced f p h c) ∙ v
