-- Two rows compared span by span, from the front, by whatever test of two spans.
--     rows_apart       rows of two lengths are not the same
--     Going            so many spans are left of both, and those decide
--     same_start       at the start all are left
--     same_more, same_turn       a turn that goes on, and one of a loop that counts the spans
--     same_stop, same_end        one that ends it, and the end
use Rattle.std.proofs.Common.{◌≡◌, ℕ, suc, ◌+◌, ◌-◌, ◌*◌, ◌<◌, ◌≤◌, Bool, true, false, ◌&&◌, List, [], ◌∷◌, length, get_or, ℤ, pos, nat_abs, sym, refl, ap, ◌∙◌, arith}
use Rattle.paper.specs.Width.{span_width, per_span, span_limit}
use Rattle.paper.specs.Below.{same_list}
use Rattle.paper.specs.Map.{Owned}
use Rattle.paper.specs.Table.{owned_at}
use Rattle.theory.proofs.Bool.{not-true, clash, and_both}
use Rattle.theory.proofs.Table.{spans-length}
use Rattle.span.specs.Row.{owned_from, owneds_from, RowIn}
use Rattle.span.proofs.Row.{owned-from, row_count}

-- the number of spans that a row says it has
abbrev said : List ℤ → ℕ → ℕ
said s d = nat_abs (get_or s (d * span_width) (pos 0))

module _ (f : Owned → Owned → Bool) where
  same-long : (r s : List Owned) → same_list f r s ≡ true → length r ≡ length s
  unfolding same_list
  same-long [] [] e = refl
  same-long [] (y ∷ s) e = absurd (clash e refl)
  same-long (x ∷ r) [] e = absurd (clash e refl)
  same-long (x ∷ r) (y ∷ s) e = ap suc (same-long r s (and_both (f x y) (same_list f r s) e).1)

  pub rows_apart : (s : List ℤ) (d e a b : ℕ) → RowIn s d → RowIn s e → a ≡ said s d → b ≡ said s e → (a ≡ b → ⊥)
      → false ≡ same_list f (owned_at s d) (owned_at s e)
  rows_apart s d e a b D E p q g = sym (not-true (same_list f (owned_at s d) (owned_at s e)) (λ t. g (p ∙ long d D ∙ same-long (owned_at s d) (owned_at s e) t ∙ sym (long e E) ∙ sym q)))
    where
      long : (x : ℕ) → RowIn s x → said s x ≡ length (owned_at s x)
      long x X = row_count s x X ∙ spans-length (owned_at s x)

  pub record Going (s : List ℤ) (d e p q left : ℕ) : Type 0 where
    pub first : p + left * per_span ≤ length s
    pub second : q + left * per_span ≤ length s
    pub decide : same_list f (owneds_from s p left) (owneds_from s q left) ≡ same_list f (owned_at s d) (owned_at s e)

  pub same_start : (s : List ℤ) (d e a b : ℕ) → RowIn s d → RowIn s e → a ≡ said s d → b ≡ said s e → a ≤ span_limit → a ≡ b
      → Going s d e (d * span_width + 1) (e * span_width + 1) a
  same_start s d e a b D E p q l h =
      let x = D.fits in
      let y = E.fits in
      record {
        first = omega arith;
        second = omega arith;
        decide =
            (λ i. same_list f (owneds_from s (d * span_width + 1) (p i)) (owneds_from s (e * span_width + 1) ((h ∙ q) i)))
            ∙ (λ i. same_list f (sym (owned-from s d D.counted) i) (sym (owned-from s e E.counted) i));
      }

  here : (s : List ℤ) (p q left : ℕ) → 0 < left → same_list f (owneds_from s p left) (owneds_from s q left)
      ≡ (f (owned_from s p) (owned_from s q) && same_list f (owneds_from s (p + per_span) (left - 1)) (owneds_from s (q + per_span) (left - 1)))
  unfolding owneds_from same_list
  here s p q left h = let e : left ≡ suc (left - 1) = omega arith in ap (λ (k : ℕ). same_list f (owneds_from s p k) (owneds_from s q k)) e

  module _ {s : List ℤ} {d e p q left : ℕ} (G : Going s d e p q left) where
    pub same_more : 0 < left → f (owned_from s p) (owned_from s q) ≡ true → Going s d e (p + per_span) (q + per_span) (left - 1)
    same_more h t =
        let x = G.first in
        let y = G.second in
        record {
          first = omega arith;
          second = omega arith;
          decide = sym (here s p q left h ∙ ap (λ b. b && same_list f (owneds_from s (p + per_span) (left - 1)) (owneds_from s (q + per_span) (left - 1))) t) ∙ G.decide;
        }

    pub same_stop : 0 < left → f (owned_from s p) (owned_from s q) ≡ false → false ≡ same_list f (owned_at s d) (owned_at s e)
    same_stop h t = sym (here s p q left h ∙ ap (λ b. b && same_list f (owneds_from s (p + per_span) (left - 1)) (owneds_from s (q + per_span) (left - 1))) t) ∙ G.decide

    pub same_end : left ≤ 0 → true ≡ same_list f (owned_at s d) (owned_at s e)
    unfolding owneds_from same_list
    same_end h = let z : 0 ≡ left = omega arith in ap (λ (k : ℕ). same_list f (owneds_from s p k) (owneds_from s q k)) z ∙ G.decide

  pub same_turn : (s : List ℤ) (d e p q all j : ℕ) → Going s d e (p + j * per_span) (q + j * per_span) (all - j) → j < all → f (owned_from s (p + j * per_span)) (owned_from s (q + j * per_span)) ≡ true
      → Going s d e (p + (j + 1) * per_span) (q + (j + 1) * per_span) (all - (j + 1))
  same_turn s d e p q all j G h t =
      let x : p + j * per_span + per_span ≡ p + (j + 1) * per_span = omega arith in
      let y : q + j * per_span + per_span ≡ q + (j + 1) * per_span = omega arith in
      let z : all - j - 1 ≡ all - (j + 1) = omega arith in
      let l : 0 < all - j = omega arith in
      rw (← x, ← y, ← z) (same_more G l t)
