-- Rows that have the same spans.
--     alike-spans      rows that are alike are equal without their objects
--     alike_of         and rows that are equal without their objects are alike
use Rattle.std.proofs.Common.{◌≡◌, true, false, List, [], ◌∷◌, length, sym, refl, ap, ◌∙◌, arith}
use Rattle.paper.specs.Below.{same_list}
use Rattle.paper.specs.Map.{Span, Owned, spans_of, eq_span}
use Rattle.paper.proofs.Same.{same_span, same-span-refl}
use Rattle.theory.specs.Alike.{eq_by, alike}
use Rattle.theory.proofs.Bool.{clash, and_both, and_intro, eq-T, T-eq}

pub alike-spans : (r s : List Owned) → alike r s ≡ true → spans_of r ≡ spans_of s
unfolding same_list
alike-spans [] [] e = refl
alike-spans [] (y ∷ s) e = absurd (clash e refl)
alike-spans (x ∷ r) [] e = absurd (clash e refl)
alike-spans (x ∷ r) (y ∷ s) e =
    let a = and_both (eq_by false x y) (alike r s) e in
    let b = and_both (eq_span x.span y.span) true a.0 in
    λ i. same_span x.span y.span (eq-T b.0) i ∷ alike-spans r s a.1 i

pub alike_of : (r s : List Owned) → spans_of r ≡ spans_of s → alike r s ≡ true
unfolding same_list
alike_of [] [] e = refl
alike_of [] (y ∷ s) e = absurd (let l = ap length e in let z : ⊥ = omega arith in z)
alike_of (x ∷ r) [] e = absurd (let l = ap length e in let z : ⊥ = omega arith in z)
alike_of (x ∷ r) (y ∷ s) e =
    and_intro (eq_by false x y) (alike r s)
    (and_intro (eq_span x.span y.span) true (ap (λ (z : Span). eq_span x.span z) (sym (first e)) ∙ T-eq (eq_span x.span x.span) (same-span-refl x.span)) refl)
    (alike_of r s (ap rest e))
  where
    head : List Span → Span
    head [] = x.span
    head (z ∷ l) = z

    rest : List Span → List Span
    rest [] = []
    rest (z ∷ l) = l

    first : x.span ∷ spans_of r ≡ y.span ∷ spans_of s → x.span ≡ y.span
    first q = ap head q
