use Rattle.std.proofs.Common.{◌≡◌, ◌≤◌, length, sym, ◌∙◌, arith}
use Rattle.hold.proofs.Stand.{plan-reads}
use Rattle.orbit.proofs.Refused.{refused-edit}
use Rattle.orbit.proofs.Sparse.{fits}
use Rattle.edit.proofs.Freed.{unsew-done}
use Rattle.edit.proofs.unsew.unsew.Goals as goal

pub returns-in_err-admit_unsew : goal.returns-in_err-admit_unsew
returns-in_err-admit_unsew c = λ R s ps ss P.
    let k = c.from_residual in
    rw (← c.from-axis.ensures, ← c.from-a.ensures)
    (refused-edit k.result _ k.ensures.1 P.held (c.in_err-admit_unsew.ensures.told R s (plan-reads P).holds))

pub put_free_along-requires : goal.put_free_along-requires
put_free_along-requires c =
    let a = c.args in
    let y = c.list-t in
    let x = c.look_across-u in
    let l = c.in_ok-admit_unsew.ensures.served.0 in
    let f : x.result ≤ a.n = fits _ _ _ _ x.ensures.set in
    let k : length x.new.w ≡ length a.w.now = x.auto.w ∙ y.auto.work in
    let g = c.requires in
    record { queue_in = record { darts = g.darts; room = omega arith; below = x.ensures.set.below }; axis_lt_link_width = (omega arith, g.rows) }

pub overflow_cast-result : goal.overflow_cast-result
overflow_cast-result c = let f = fits _ _ _ _ c.look_across-u.ensures.set in let d = c.requires.darts in omega arith

pub returns : goal.returns
returns c = λ R s ps ss P.
    let y = c.in_ok-admit_unsew.ensures in
    rw (← c.from-axis.ensures, ← c.from-a.ensures)
    (unsew-done P c.from-axis.result c.from-a.result y.served.0 y.served.1 (sym (y.told R s (plan-reads P).holds))
    (rw c.saturating_sub.ensures at c.list-t.ensures) c.look_across-u.ensures c.put_free_along.ensures)
