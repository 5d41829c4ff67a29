-- What a caller reads of the number of ends.
--     held_fits        at most room: the ends stand in the half, and are so many
--     held-over        more than room: so are the ends
use Rattle.std.proofs.Common.{◌≡◌, ℕ, ◌<◌, ◌≤◌, leb, ◌⊎◌, List, length, ℤ, inl, inr, ⊎_elim, arith, leb-false, leb-true}
use Rattle.theory.proofs.Bool.{decided}
use Rattle.ends.specs.Key.{ends_at}
use Rattle.ends.specs.Join.{Held}

module _ {u : List ℤ} {v : List ℕ} {p room ends : ℕ} (H : Held u v p room ends) where
  fits_or : (length u ≤ room) ⊎ (room < length u)
  fits_or = ⊎_elim (λ t. inl (leb-true (length u) room t)) (λ t. inr (leb-false (length u) room t)) (decided (leb (length u) room))

  pub held_fits : ends ≤ room → (ends ≡ length u) × (ends_at v p ends ≡ u)
  held_fits l = ⊎_elim (λ h. (H.count h, H.held h)) (λ h. let e = H.over h in let z : ⊥ = omega arith in absurd z) fits_or

  pub held-over : room < ends → room < length u
  held-over l = ⊎_elim (λ h. let e = H.count h in let z : ⊥ = omega arith in absurd z) (λ h. h) fits_or
