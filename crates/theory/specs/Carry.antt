-- Labels of darts that links carry on, each axis by a rule of its own.
--     Carried          the label b of dart a, carried along links of some axes to dart d, is x there
use Rattle.std.specs.Prelude.{◌≡◌, ℕ, ◌≤◌, Bool, true}

-- Darts go along α, labels change by ρ. In SEW a dart's label is its partner, and ρ is α.
pub data Carried (α ρ : ℕ → ℕ → ℕ) (m : ℕ) (S : ℕ → Bool) (a b : ℕ) : ℕ → ℕ → Type 0 where
  stays : Carried α ρ m S a b a b
  goes : {d x e y : ℕ} → Carried α ρ m S a b d x → (j : ℕ) → j ≤ m → S j ≡ true → α j d ≡ e → ρ j x ≡ y → Carried α ρ m S a b e y
