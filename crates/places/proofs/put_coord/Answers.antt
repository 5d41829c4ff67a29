use Rattle.std.proofs.Common.{◌+◌, ◌*◌, get_or, set, pos, ap, ◌∙◌, arith}
use Rattle.paper.specs.Width.{place_width}
use Rattle.kernel.proofs.Signed.{back}
use Rattle.places.proofs.Coord.{coord-low, coord-top, coord-past}
use Rattle.places.proofs.put_coord.Goals as goal

pub returns-then-a-m : goal.returns-then-a-m
returns-then-a-m c =
    let a = c.args in
    ap (set a.op.now (a.x * place_width + a.a))
    (back (get_or a.places.now (a.d * place_width + a.a) (pos 0)) c.z-1.given ∙ coord-low a.places.now a.d a.m a.t a.a c.if-a-m.true)

pub returns-then-a-m-2 : goal.returns-then-a-m-2
returns-then-a-m-2 c =
    let a = c.args in
    ap (set a.op.now (a.x * place_width + a.a))
    (back a.t c.ranges.t.sfits ∙ coord-top a.places.now a.d a.m a.t a.a c.if-a-m-2.true)

pub returns : goal.returns
returns c =
    let a = c.args in
    let h = c.if-a-m.false in
    let k = c.if-a-m-2.false in
    ap (set a.op.now (a.x * place_width + a.a)) (coord-past a.places.now a.d a.m a.t a.a (omega arith))
