use Rattle.std.proofs.Common.{refl, ◌∙◌, w32, to_z, of_z}
use Rattle.paper.specs.Width.{place_width}
use Rattle.hold.specs.Rows.{columned}
use Rattle.orbit.specs.Sparse.{queue}
use Rattle.orbit.proofs.Sparse.{queue_part}
use Rattle.edit.proofs.Writes.{columned-more}
use Rattle.edit.proofs.place.put_coordinates.Goals as goal

pub loop-d-init : goal.loop-d-init
unfolding columned
loop-d-init c = refl

pub loop-d-preserved : goal.loop-d-preserved
loop-d-preserved c =
    let a = c.args in
    let L = c.loop-d in
    let e = c.from.ensures ∙ queue_part a.n a.t a.w.now L.d-index c.loop-d-test.true in
    columned-more place_width a.axis (queue a.n a.w.now) (λ _. to_z w32 (of_z w32 a.z)) L.d-index c.from.result a.places.now L.places e L.invariant
