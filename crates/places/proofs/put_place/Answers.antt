use Rattle.std.proofs.Common.{◌≡◌, ◌+◌, ◌*◌, length, set, refl, ap, ◌∙◌, add-one, arith, length-set, w32, to_z, of_z}
use Rattle.paper.specs.Width.{place_width}
use Rattle.kernel.proofs.Signed.{back}
use Rattle.places.specs.Write.{coord_of, put_coords}
use Rattle.places.proofs.put_place.Goals as goal

pub loop-a-init : goal.loop-a-init
unfolding put_coords
loop-a-init c = (omega arith, refl, refl)

pub loop-a-preserved : goal.loop-a-preserved
unfolding put_coords
loop-a-preserved c =
    let L = c.loop-a in
    let a = c.args in
    let k = c.put_coord.ensures in
    (omega arith, ap length k ∙ simp length-set L.invariant.1, rw (add-one L.a) (k ∙ ap (λ o. set o (a.x * place_width + L.a) (coord_of a.places.now a.d a.m (to_z w32 (of_z w32 a.t)) L.a)) L.invariant.2))

pub shape_of-op : goal.shape_of-op
shape_of-op c = c.loop-a.invariant.1

pub returns : goal.returns
returns c =
    let L = c.loop-a in
    let a = c.args in
    let l = L.invariant.0 in
    let e : L.a ≡ place_width = omega arith in
    L.invariant.2 ∙ (λ i. put_coords (e i) a.places.now a.d a.m (back a.t c.ranges.t.sfits i) a.x a.op.now)
