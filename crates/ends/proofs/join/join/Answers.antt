use Rattle.std.proofs.Common.{ℕ, ◌-◌, sym, subst}
use Rattle.kernel.specs.Room.{or_past, InRoom}
use Rattle.ends.specs.Join.{ends_with, Held, Joinable}
use Rattle.ends.proofs.join.join.Goals as goal

pub copy_row-requires : goal.copy_row-requires
copy_row-requires c =
    let a = c.args in
    subst (λ (n : ℕ). Joinable a.v.now a.p n a.room a.spans.now a.e) c.if-n-eq0.true c.requires

pub returns-then-n-eq0 : goal.returns-then-n-eq0
returns-then-n-eq0 c =
    let a = c.args in
    let r = c.copy_row.result in
    subst (λ (n : ℕ). Held (ends_with a.v.now a.p n a.spans.now a.e) c.copy_row.new.v (1 - a.p) a.room (or_past a.room r) × InRoom a.room r) (sym c.if-n-eq0.true) c.copy_row.ensures
