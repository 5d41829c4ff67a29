use Rattle.orbit.proofs.Refused.{refused-edit, refused-size}
use Rattle.sides.proofs.Adopted.{adopted-done}
use Rattle.sides.proofs.adopt.adopt.Goals as goal

pub returns-in_err-admit_adopt : goal.returns-in_err-admit_adopt
returns-in_err-admit_adopt c = λ R s oo m w v P L e.
    let a = c.args in
    let k = c.from_residual in
    rw (refused-size k.result _ k.ensures.1 a.lm m, refused-size k.result _ k.ensures.1 a.ln a.n)
    (refused-edit k.result _ k.ensures.1 P.held (c.in_err-admit_adopt.ensures.value R s L.held.map.dims L.held.map.darts e))

pub returns : goal.returns
returns c = λ R s oo m w v P L e.
    let y = c.in_ok-admit_adopt.ensures in
    adopted-done P L c.requires y.ln_le_room (y.value R s L.held.map.dims L.held.map.darts e) c.take_rows.ensures c.take_rows-2.ensures c.clear.ensures
