use Rattle.std.proofs.Common.{◌+◌, ◌<◌, List, ℕ, sym, subst, rules}
use Rattle.sew.specs.Label.{Stood}
use Rattle.sew.specs.Pairs.{Pairs}
use Rattle.sew.proofs.Pairs.{enter-room, stood-new}
use Rattle.sew.proofs.pair.take.Goals as goal

pub enter-requires : goal.enter-requires
enter-requires c =
    let a = c.args in
    let spare : a.t < a.n = enter-room a.n a.w.now a.t a.g a.x c.requires.pairs (search rules) (search rules) (search rules) c.in-New.ensures in
    search rules

pub returns-in-New : goal.returns-in-New
returns-in-New c =
    let a = c.args in
    subst (λ (l : List ℕ). Stood (Pairs a.n) a.n a.w.now a.t a.g a.x l (a.t + 1)) (sym c.enter.ensures)
    (stood-new a.n a.w.now a.t a.g a.x c.requires.pairs (search rules) (search rules) (search rules) c.in-New.ensures)
