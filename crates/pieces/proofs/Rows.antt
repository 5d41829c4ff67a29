-- The ends of a row in order, and the members of a list by their places.
--     floor-from       a row in order that starts from a height has no end below it
--     not-less         at most as great is not above
--     place-of, at-place     the place of a member of a list, and the member at a place
use Rattle.std.proofs.Common.{◌≡◌, ℕ, zero, suc, ◌<◌, true, false, List, [], ◌∷◌, length, get_or, ℤ, sym, refl, ap, ◌∙◌, ⊎_elim, arith}
use mathlib.Core.List.Memᴰ
use lib.Signed.{lt_z, le_z, ◌≤ℤ◌}
use Rattle.paper.specs.Map.{Span}
use Rattle.paper.specs.Span.{ordered, starts_from, ends_of}
use Rattle.theory.specs.Member.{◌∈◌}
use Rattle.theory.proofs.Bool.{off, T-eq}
use Rattle.theory.proofs.Order.{le_not, Z-order, le_out, asym, le-lt}
use Rattle.theory.proofs.Row.{starts-less, ordered-parts}
use Rattle.pieces.specs.Listed.{NoneBelow}

-- a row in order that starts from t has no end below t
pub floor-from : (t : ℤ) (r : List Span) → starts_from t r ≡ true → ordered r ≡ true → NoneBelow (ends_of r) t
unfolding ends_of
floor-from t [] s o b h = absurd (Memᴰ.not-nil h)
floor-from t (x ∷ r) s o b h =
    let p = ordered-parts x r o in
    let low = le_out t x.lo s in
    let high = asym lt_z Z-order t x.hi (le-lt lt_z Z-order t x.lo x.hi low p.0) in
    ⊎_elim (λ (e : b ≡ x.lo). ap (λ z. lt_z z t) e ∙ low)
    (λ h. ⊎_elim (λ (e : b ≡ x.hi). ap (λ z. lt_z z t) e ∙ high) (λ h. floor-from t r (starts-less t x.hi r high p.1) p.2 b h) (Memᴰ.cases_cons h))
    (Memᴰ.cases_cons h)

-- a height at most as great as another is not above it
pub not-less : (a b : ℤ) → a ≤ℤ b → lt_z b a ≡ false
not-less a b h = off (lt_z b a) (sym (le_not a b) ∙ T-eq (le_z a b) h.le)

-- the place of a member, and the member at a place
pub place-of : {A : Type 0} (z : A) (l : List A) (x : A) → x ∈ l → (q : ℕ) × (q < length l) × (get_or l q z ≡ x)
place-of z [] x h = absurd (Memᴰ.not-nil h)
place-of z (y ∷ l) x h =
    ⊎_elim (λ (p : x ≡ y). (0, omega arith, sym p)) (λ u. let r = place-of z l x u in let k = r.1 in (suc r.0, omega arith, r.2)) (Memᴰ.cases_cons h)

pub at-place : {A : Type 0} (l : List A) (q : ℕ) (z : A) → q < length l → get_or l q z ∈ l
at-place [] q z h = absurd (omega arith)
at-place (y ∷ l) zero z h = Memᴰ.head refl
at-place (y ∷ l) (suc q) z h = Memᴰ.tail (at-place l q z (omega arith))
