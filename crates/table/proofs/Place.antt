-- Where the row call's part lies.
--     at-start         the part that starts where its table does
--     plan-row, lifted-row     the row of a dart, in the table of its side
--     plan-none, lifted-none, other-side     the empty part of the plan's table
use Rattle.std.proofs.Common.{◌≡◌, ℕ, ◌*◌, ◌/◌, ◌<◌, ◌≤◌, List, length, sym, refl, add-zero, le-ltb, lt-ltb, ne_eqb}
use Rattle.paper.specs.Width.{link_width}
use Rattle.paper.specs.Call.{onward, row_place}

at-start : (p : ℕ × ℕ) → p ≡ onward p 0
at-start p = sym (λ i. (p.0, add-zero p.1 i))

module _ (plan lifted : List ℕ) (p l : ℕ × ℕ) (side d : ℕ) where
  pub plan-row : side ≡ 0 → d < length plan / link_width → onward p (d * link_width) ≡ row_place plan lifted p l side d
  unfolding row_place
  plan-row e h = rw (e, lt-ltb d (length plan / link_width) h) refl

  pub lifted-row : side ≡ 1 → d < length lifted / link_width → onward l (d * link_width) ≡ row_place plan lifted p l side d
  unfolding row_place
  lifted-row e h = rw (e, lt-ltb d (length lifted / link_width) h) refl

  pub plan-none : side ≡ 0 → length plan / link_width ≤ d → p ≡ row_place plan lifted p l side d
  unfolding row_place
  plan-none e h = rw (e, le-ltb d (length plan / link_width) h) (at-start p)

  pub lifted-none : side ≡ 1 → length lifted / link_width ≤ d → p ≡ row_place plan lifted p l side d
  unfolding row_place
  lifted-none e h = rw (e, le-ltb d (length lifted / link_width) h) (at-start p)

  pub other-side : (side ≡ 0 → ⊥) → (side ≡ 1 → ⊥) → p ≡ row_place plan lifted p l side d
  unfolding row_place
  other-side f g = rw (ne_eqb side 0 f, ne_eqb side 1 g) (at-start p)
