-- Tests as equations: a test passes where it is `≡ true`.
--     or_case, or_off, or_left, or_right, and_both, and_intro    || and && taken apart and put together
--     imp_use, imp_intro      `implies`
--     decided                 a test passes or fails
--     clash                   no test does both
--     not-true                a test that can't pass fails
--     bool-ext                two tests that pass together are equal
--     off, on                 a negated test
--     T-eq, eq-T              the other form of a test that passes
--     eq-or, lt-or, less-or   two numbers are equal or not; two unequal ones are in order; one is below the other or not
use Rattle.std.proofs.Common.{◌≡◌, ℕ, ◌<◌, ◌≤◌, Bool, true, false, not, ◌&&◌, ◌||◌, T, ◌⊎◌, sym, refl, ◌∙◌, inl, inr, true≢false, arith}
use mathlib.Core.Bool.{false≢true}
use native.Mathlib.Decide.{ℕ_discrete, dec_lt}
use native.Mathlib.Omega.{ne_cases}
use Rattle.paper.specs.Sew.{implies}

pub or_case : (a b : Bool) → (a || b) ≡ true → (a ≡ true) ⊎ (b ≡ true)
or_case true b t = inl refl
or_case false b t = inr t

pub or_left : (a b : Bool) → a ≡ true → (a || b) ≡ true
or_left a b e = rw e refl

pub or_right : (a b : Bool) → b ≡ true → (a || b) ≡ true
or_right true b e = refl
or_right false b e = e

pub and_both : (a b : Bool) → (a && b) ≡ true → (a ≡ true) × (b ≡ true)
and_both true b e = (refl, e)
and_both false b e = absurd (false≢true e)

pub and_intro : (a b : Bool) → a ≡ true → b ≡ true → (a && b) ≡ true
and_intro a b p q = rw (p, q) refl

pub imp_use : (a b : Bool) → implies a b ≡ true → a ≡ true → b ≡ true
imp_use true b e p = e
imp_use false b e p = absurd (false≢true p)

pub imp_intro : (a b : Bool) → (a ≡ true → b ≡ true) → implies a b ≡ true
imp_intro true b f = f refl
imp_intro false b f = refl

pub decided : (a : Bool) → (a ≡ true) ⊎ (a ≡ false)
decided true = inl refl
decided false = inr refl

pub clash : {a : Bool} → a ≡ true → a ≡ false → ⊥
clash p q = true≢false (sym p ∙ q)

pub not-true : (a : Bool) → (a ≡ true → ⊥) → a ≡ false
not-true true f = absurd (f refl)
not-true false f = refl

pub or_off : (a b : Bool) → (a || b) ≡ false → (a ≡ false) × (b ≡ false)
or_off a b e = (not-true a (λ t. clash (or_left a b t) e), not-true b (λ t. clash (or_right a b t) e))

pub bool-ext : (a b : Bool) → (a ≡ true → b ≡ true) → (b ≡ true → a ≡ true) → a ≡ b
bool-ext true b f g = sym (f refl)
bool-ext false true f g = g refl
bool-ext false false f g = refl

pub off : (a : Bool) → not a ≡ true → a ≡ false
off true e = sym e
off false e = refl

pub on : (a : Bool) → not a ≡ false → a ≡ true
on true e = refl
on false e = sym e

pub T-eq : (b : Bool) → T b → b ≡ true
T-eq true t = refl
T-eq false t = absurd t

pub eq-T : {b : Bool} → b ≡ true → T b
eq-T e = rw e tt

pub eq-or : (a b : ℕ) → (a ≡ b) ⊎ (a ≡ b → ⊥)
eq-or a b = elim (ℕ_discrete a b) [ yes p ↦ inl p | no f ↦ inr f ]

pub lt-or : (a b : ℕ) → (a ≡ b → ⊥) → (a < b) ⊎ (b < a)
lt-or a b ne = ne_cases a b ((a < b) ⊎ (b < a)) ne (λ h. inl h) (λ h. inr h)

pub less-or : (a b : ℕ) → (a < b) ⊎ (b ≤ a)
less-or a b = elim (dec_lt a b) [ yes p ↦ inl p | no f ↦ inr (omega arith) ]
