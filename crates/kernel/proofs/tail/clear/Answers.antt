use Rattle.std.proofs.Common.{ℕ, ◌*◌, ◌≤◌, length, sym, ap, ◌∙◌, subst}
use Rattle.kernel.specs.Blank.{filled}
use Rattle.kernel.proofs.Cleared.{tail_from, tail-to}
use Rattle.kernel.proofs.tail.clear.Goals as goal

pub clear-requires : goal.clear-requires
clear-requires g c =
    let a = c.args in
    let e = c.tail_end-end.ensures in
    (subst (λ (x : ℕ). a.k * a.width ≤ x) (sym e) (tail_from (length a.s.now) a.width a.k a.old c.requires.1), subst (λ (x : ℕ). x ≤ length a.s.now) (sym e) (tail-to (length a.s.now) a.width a.k a.old c.requires.1))

pub returns : goal.returns
returns g c =
    let a = c.args in
    c.clear.ensures ∙ ap (λ (x : ℕ). filled a.value (a.k * a.width) x a.s.now) c.tail_end-end.ensures
