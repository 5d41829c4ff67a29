use Rattle.std.proofs.Common.{refl, ◌∙◌}
use Rattle.paper.specs.Width.{link_width}
use Rattle.hold.specs.Rows.{columned}
use Rattle.orbit.specs.Sparse.{queue}
use Rattle.orbit.proofs.Sparse.{queue_part}
use Rattle.edit.proofs.Writes.{columned-more}
use Rattle.edit.proofs.unsew.put_free_along.Goals as goal

pub loop-d-init : goal.loop-d-init
unfolding columned
loop-d-init c = refl

pub loop-d-preserved : goal.loop-d-preserved
loop-d-preserved c =
    let a = c.args in
    let L = c.loop-d in
    let e = queue_part a.n a.t a.w.now L.d-index c.loop-d-test.true in
    rw (← c.from.ensures) (columned-more link_width a.axis (queue a.n a.w.now) (λ d. d) L.d-index c.from.result a.links.now L.links (c.from.ensures ∙ e) L.invariant)
