use Rattle.std.proofs.Common.{◌≤◌, ◌∙◌, arith}
use Rattle.kernel.specs.Link.{alpha}
use Rattle.orbit.specs.Flood.{axes}
use Rattle.orbit.proofs.Sparse.{fits}
use Rattle.edit.proofs.Across.{any-axis, across-more}
use Rattle.edit.proofs.unsew.look_across.Goals as goal

pub get-e-requires : goal.get-e-requires
get-e-requires c =
    let a = c.args in
    let few : a.t ≤ a.n = fits a.n a.n a.w.now a.t c.requires.sparse in
    omega arith

pub loop-q-preserved : goal.loop-q-preserved
loop-q-preserved c =
    let a = c.args in
    let I = c.loop-q.invariant in
    across-more (alpha a.links.now) (axes 0 0) a.axis a.n (any-axis a.axis) I (c.get-e.ensures.0 ∙ I.grown.same c.loop-q.q (omega arith)) c.look-u.ensures
