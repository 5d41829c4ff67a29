use Rattle.std.proofs.Common.{le_refl}
use Rattle.write.proofs.Filing.{file-none, file-stead, file-below, file-more, file-done}
use Rattle.write.proofs.link.link_level.Goals as goal

pub loop-d-init : goal.loop-d-init
loop-d-init c = file-none c.requires.known c.requires.k_le_m c.requires.spread

pub link_dart-requires : goal.link_dart-requires
link_dart-requires c =
    let I = c.loop-d.invariant in
    let h = c.loop-d-test.true in
    record { known = file-stead c.requires.known c.requires.k_le_m c.requires.spread I; below = file-below c.requires.known c.requires.k_le_m c.requires.spread I h; laid = I.laid _ h (le_refl _) }

pub loop-d-preserved : goal.loop-d-preserved
loop-d-preserved c =
    let y = c.link_dart in
    file-more c.requires.known c.requires.k_le_m c.requires.spread c.loop-d.invariant c.loop-d-test.true y.auto.ol y.auto.w y.ensures

pub shape_of-ol : goal.shape_of-ol
shape_of-ol c = c.loop-d.invariant.links

pub shape_of-w : goal.shape_of-w
shape_of-w c = c.loop-d.invariant.work

pub returns : goal.returns
returns c = file-done c.requires.known c.requires.k_le_m c.requires.spread c.loop-d.invariant c.loop-d-test.false
