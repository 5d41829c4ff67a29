use Rattle.std.proofs.Common.{◌-◌, Bool, ◌||◌, eqb, sym, ap, ◌∙◌}
use Rattle.theory.proofs.Bool.{or_left}
use Rattle.orbit.specs.Sparse.{is_in}
use Rattle.base.specs.Base.{base}
use Rattle.sweep.proofs.is_laid.Goals as goal

pub returns-then-is_bare : goal.returns-then-is_bare
returns-then-is_bare c =
    let a = c.args in
    sym (or_left (eqb (base a.w.now a.n a.h a.d) (base a.w.now a.n (1 - a.h) a.d)) (is_in a.n a.w.now a.t a.d)
    (sym c.is_bare.ensures ∙ c.if-is_bare.true))

pub returns : goal.returns
returns c =
    let a = c.args in
    c.has.ensures ∙ sym (ap (λ (x : Bool). x || is_in a.n a.w.now a.t a.d) (sym c.is_bare.ensures ∙ c.if-is_bare.false))
