use Rattle.std.proofs.Common.{sym, ◌∙◌, arith, eqb-true}
use borrow.Author.Tests.{eqb-false}
use Rattle.sweep.proofs.Celling.{call-layable, call-bare}
use Rattle.sweep.proofs.upper.lay_own.Goals as goal

pub returns-then-is_bare : goal.returns-then-is_bare
returns-then-is_bare c =
    let A = c.requires.d_lt_n in
    call-bare c.requires.known A.0 A.1.0 A.1.1.1 c.requires.reached (eqb-true _ _ (sym c.is_bare.ensures ∙ c.if-is_bare.true))

pub lay_spans-requires : goal.lay_spans-requires
lay_spans-requires c =
    let A = c.requires.d_lt_n in
    let x = eqb-false _ _ (sym c.is_bare.ensures ∙ c.if-is_bare.false) in
    record { known = c.requires.known; layable = call-layable c.requires.known A.0 A.1.0 A.1.1.1 c.requires.reached x; k_value = c.if-l.true }

pub lay_cuts-requires : goal.lay_cuts-requires
lay_cuts-requires c =
    let A = c.requires.d_lt_n in
    let x = eqb-false _ _ (sym c.is_bare.ensures ∙ c.if-is_bare.false) in
    record { known = c.requires.known; layable = call-layable c.requires.known A.0 A.1.0 A.1.1.1 c.requires.reached x; k_value = omega (arith, A.1.0, A.1.1.0, c.if-l.false) }
