use Rattle.std.proofs.Common.{ℕ, List, set, ap, ◌∙◌}
use Rattle.base.specs.Base.{slot}
use Rattle.base.proofs.put_bases.Goals as goal

pub returns : goal.returns
returns c =
    let a = c.args in
    c.put_base-2.ensures ∙ ap (λ (l : List ℕ). set l (slot a.n 1 a.d) a.y) c.put_base.ensures
