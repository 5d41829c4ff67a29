use Rattle.std.proofs.Common.{Bool, ◌||◌, eqb, sym, ap, ◌∙◌, eq-eqb, ne_eqb}
use Rattle.theory.proofs.Bool.{or_left}
use Rattle.orbit.specs.Sparse.{is_in}
use Rattle.base.specs.Base.{base}
use Rattle.tally.proofs.turn.is_counted.Goals as goal

pub returns-then-base-eq0 : goal.returns-then-base-eq0
returns-then-base-eq0 c =
    let a = c.args in
    sym (or_left (eqb (base a.w.now a.n 0 a.d) 0) (is_in a.n a.w.now a.t a.d)
    (eq-eqb (base a.w.now a.n 0 a.d) 0 (sym c.base.ensures.0 ∙ c.if-base-eq0.true)))

pub returns : goal.returns
returns c =
    let a = c.args in
    c.has.ensures ∙ sym (ap (λ (b : Bool). b || is_in a.n a.w.now a.t a.d)
    (ne_eqb (base a.w.now a.n 0 a.d) 0 (λ p. c.if-base-eq0.false (c.base.ensures.0 ∙ p))))
