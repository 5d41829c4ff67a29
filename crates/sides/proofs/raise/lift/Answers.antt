use Rattle.std.proofs.Common.{ℕ, ◌≤◌, sym, refl, ◌∙◌, subst, arith}
use Rattle.paper.specs.Width.{dim_limit}
use Rattle.lift.proofs.Tail.{blank-held}
use Rattle.sides.proofs.Raised.{lift-none, lift-top, raised-refused, raised-over, raised-done}
use Rattle.sides.proofs.raise.lift.Goals as goal

pub returns-then-m-eq0 : goal.returns-then-m-eq0
returns-then-m-eq0 c = λ R s lm P L e.
    raised-refused P L e 12 (lift-none R s (P.held.map.dims ∙ c.if-m-eq0.true)) (λ z. omega arith) refl refl

pub returns-then-m : goal.returns-then-m
returns-then-m c = λ R s lm P L e.
    raised-refused P L e 22 (lift-top R s (λ z. c.if-m-eq0.false (sym P.held.map.dims ∙ z)) (subst (λ (k : ℕ). dim_limit ≤ k) (sym P.held.map.dims) c.if-m.true)) (λ z. omega arith) refl refl

pub lift_side-raised-requires : goal.lift_side-raised-requires
lift_side-raised-requires c = let n = c.if-m-eq0.false in let h = c.if-m.false in record { liftable = c.requires; m_nonzero = (omega (arith, n), omega arith) }

pub returns-in_default : goal.returns-in_default
returns-in_default c = λ R s lm P L e.
    raised-over P L e c.if-m-eq0.false c.if-m.false c.in_default.ensures.0 (omega arith) refl

pub returns : goal.returns
returns c = λ R s lm P L e.
    raised-done P L e c.if-m-eq0.false c.if-m.false c.in-Some.ensures.0 c.in-Some.ensures.1 (blank-held L.held (L.good.objects ∙ L.held.map.darts)) refl
