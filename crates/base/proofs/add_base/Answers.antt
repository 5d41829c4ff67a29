use Rattle.std.proofs.Common.{ℕ, ◌+◌, set, ap, ◌∙◌}
use Rattle.base.specs.Base.{slot}
use Rattle.base.proofs.add_base.Goals as goal

pub returns : goal.returns
returns c =
    let a = c.args in
    c.put_base.ensures ∙ ap (λ (b : ℕ). set a.w.now (slot a.n 0 a.d) (b + a.x)) c.base-b.ensures.0
