-- A walk that labels darts: the darts stand in the queue from w[n] on, each one's label at the same index of the queue from w[n + n] on.
-- The label b of dart a is carried along links α of the axes S, by the rules ρ. What the darts and labels so far satisfy is told by X.
--     Beside           x is the label beside dart d
--     Further          there may be more of them, and those that were there stand where they stood
--     Carries          every label so far is carried from a and b
--     Stood            what one more dart with its label leaves
--     Stepped, Around  what is left where dart e with label x is gone along one axis, and along each
--     Stuck            what Z says follows where e with x is reached
--     Labelled         what the whole walk leaves
use Rattle.std.specs.Prelude.{◌≡◌, ℕ, ◌+◌, ◌<◌, ◌≤◌, Bool, true, List}
use Rattle.theory.specs.Carry.{Carried}
use Rattle.orbit.specs.Sparse.{queue, Grown}

-- among the first t
abbrev pub Beside : ℕ → List ℕ → ℕ → ℕ → ℕ → Type 0
Beside n w t d x = (q : ℕ) × (q < t) × (queue n w q ≡ d) × (queue (n + n) w q ≡ x)

pub record Further (n : ℕ) (w : List ℕ) (t : ℕ) (w' : List ℕ) (t' : ℕ) : Type 0 where
  pub darts : Grown n w t w' t'
  pub labels : Grown (n + n) w t w' t'

abbrev pub Carries : (ℕ → ℕ → ℕ) → (ℕ → ℕ → ℕ) → ℕ → (ℕ → Bool) → ℕ → ℕ → ℕ → List ℕ → ℕ → Type 0
Carries α ρ m S n a b w t = (q : ℕ) → q < t → Carried α ρ m S a b (queue n w q) (queue (n + n) w q)

pub record Stood (X : List ℕ → ℕ → Type 0) (n : ℕ) (w : List ℕ) (t g x : ℕ) (w' : List ℕ) (t' : ℕ) : Type 0 where
  pub kept : X w' t'
  pub further : Further n w t w' t'
  -- g stands there with x
  pub beside : Beside n w' t' g x
  -- nothing else is new
  pub only : (q : ℕ) → t ≤ q → q < t' → (g ≡ queue n w' q) × (x ≡ queue (n + n) w' q)

pub record Stepped (α ρ : ℕ → ℕ → ℕ) (S : ℕ → Bool) (X : List ℕ → ℕ → Type 0) (n e x j : ℕ) (w : List ℕ) (t : ℕ) (w' : List ℕ) (t' : ℕ) : Type 0 where
  pub kept : X w' t'
  pub further : Further n w t w' t'
  -- where the link leads stands there with its label, if the axis is one of S
  pub near : S j ≡ true → Beside n w' t' (α j e) (ρ j x)
  -- nothing else is new
  pub only : (q : ℕ) → t ≤ q → q < t' → (S j ≡ true) × ((α j e ≡ queue n w' q) × (ρ j x ≡ queue (n + n) w' q))

pub record Around (α ρ : ℕ → ℕ → ℕ) (m : ℕ) (S : ℕ → Bool) (X : List ℕ → ℕ → Type 0) (n e x : ℕ) (w : List ℕ) (t : ℕ) (w' : List ℕ) (t' : ℕ) : Type 0 where
  pub kept : X w' t'
  pub further : Further n w t w' t'
  -- where links of S lead stands there with its label
  pub near : (j : ℕ) → j ≤ m → S j ≡ true → Beside n w' t' (α j e) (ρ j x)
  -- what is new is carried from wherever x is carried to e
  pub only : (a b q : ℕ) → t ≤ q → q < t' → Carried α ρ m S a b e x → Carried α ρ m S a b (queue n w' q) (queue (n + n) w' q)

abbrev pub Stuck : (ℕ → ℕ → ℕ) → (ℕ → ℕ → ℕ) → ℕ → (ℕ → Bool) → (ℕ → ℕ → Type 0) → ℕ → ℕ → ℕ → List ℕ → ℕ → Type 0
Stuck α ρ m S Z n e x w t = (a b : ℕ) → Carries α ρ m S n a b w t → Carried α ρ m S a b e x → Z a b

pub record Labelled (α ρ : ℕ → ℕ → ℕ) (m : ℕ) (S : ℕ → Bool) (X : List ℕ → ℕ → Type 0) (n a b : ℕ) (w : List ℕ) (t : ℕ) : Type 0 where
  pub kept : X w t
  -- every label is carried
  pub carries : Carries α ρ m S n a b w t
  -- and every label that is carried stands there
  pub all : {d x : ℕ} → Carried α ρ m S a b d x → Beside n w t d x
