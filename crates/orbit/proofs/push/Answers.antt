use Rattle.std.proofs.Common.{ℕ, ◌+◌, List, set, ap, ◌∙◌}
use Rattle.orbit.proofs.push.Goals as goal

pub returns : goal.returns
returns c =
    let a = c.args in
    c.put-2.ensures ∙ ap (λ (x : List ℕ). set x (a.n + a.t) a.g) c.put.ensures
