use Rattle.std.proofs.Common.{sym, refl, ◌∙◌, arith}
use Rattle.paper.specs.Width.{link_width}
use Rattle.hold.specs.Rows.{columned}
use Rattle.orbit.specs.Sparse.{queue}
use Rattle.sew.proofs.Fastened.{column-more}
use Rattle.sew.proofs.fasten.Goals as goal

pub loop-q-init : goal.loop-q-init
unfolding columned
loop-q-init c = λ v h. refl

pub loop-q-preserved : goal.loop-q-preserved
loop-q-preserved c = λ v h.
    let a = c.args in
    let L = c.loop-q in
    column-more link_width a.axis (queue a.from a.w.now) v L.q c.get-d.result c.get.result a.links.now
    (L.invariant v (λ p l. h p (omega arith))) c.get-d.ensures.0 (c.get.ensures.0 ∙ sym (h L.q (omega arith))) c.put.ensures
