use Rattle.std.proofs.Common.{◌+◌, ◌-◌, ◌<◌, ◌∙◌, arith}
use Rattle.paper.specs.Table.{map_of}
use Rattle.visit.proofs.Visiting.{stead-kept}
use Rattle.write.proofs.Whole.{Writing, write-none, write-stead, write-sweep, write-more, write_done, write-starts}
use Rattle.write.proofs.level.write_all.Goals as goal
use Rattle.write.proofs.level.write_all.Goals.{After-over_level}

pub loop-k-init : goal.loop-k-init
loop-k-init c = write-none c.requires.known c.requires.total_value c.requires.by_index c.requires.by_index_2

pub lay_level-requires : goal.lay_level-requires
lay_level-requires c =
    let I = c.loop-k.invariant in
    record { known = write-stead c.requires.known c.requires.total_value I; sweepable = write-sweep c.requires.known c.requires.total_value I (omega (arith, c.loop-k-test.true)) }

pub link_level-requires : goal.link_level-requires
link_level-requires c =
    let I = c.loop-k.invariant in
    let y = c.lay_level in
    record { known = stead-kept y.auto.w y.auto.op y.auto.ol (write-stead c.requires.known c.requires.total_value I); k_le_m = (omega (arith, c.loop-k-test.true), I.either); spread = y.ensures }

pub over_level-requires : goal.over_level-requires
over_level-requires c =
    let I = c.loop-k.invariant in
    let y = c.lay_level in
    let z = c.link_level in
    record { known = stead-kept (z.auto.w ∙ y.auto.w) y.auto.op (z.auto.ol ∙ y.auto.ol) (write-stead c.requires.known c.requires.total_value I); k_le_m = (omega (arith, c.loop-k-test.true), I.either); filed = z.ensures }

pub overflow_sub-h : goal.overflow_sub-h
overflow_sub-h c = c.loop-k.invariant.either

-- what a level more makes of it
written : (c : After-over_level) → let L = c.loop-k in let a = c.args in
    Writing (map_of a.links.now a.places.now a.spans.now a.m a.n) a.m a.n a.w.now a.v.now a.op.now a.ol.now c.link_level.new.w c.lay_level.new.v c.lay_level.new.op c.over_level.new.ol (1 - L.h) (L.k + 1)
written c =
    let y = c.lay_level in
    let z = c.link_level in
    let o = c.over_level in
    write-more c.requires.known c.requires.total_value c.loop-k.invariant (omega (arith, c.loop-k-test.true)) (z.auto.w ∙ y.auto.w) y.auto.v y.auto.op (o.auto.ol ∙ z.auto.ol ∙ y.auto.ol) z.ensures o.ensures

pub loop-k-preserved : goal.loop-k-preserved
loop-k-preserved c = written (goal.at.loop-k-preserved c).After-over_level

pub shape_of-op : goal.shape_of-op
shape_of-op c = c.loop-k.invariant.places

pub shape_of-ol : goal.shape_of-ol
shape_of-ol c = c.loop-k.invariant.links

pub shape_of-w : goal.shape_of-w
shape_of-w c = c.loop-k.invariant.work

pub shape_of-v : goal.shape_of-v
shape_of-v c = c.loop-k.invariant.ends

pub returns : goal.returns
returns c =
    let I = c.loop-k.invariant in
    let h = c.loop-k-test.false in
    record { complete = write_done c.requires.known c.requires.total_value I h; by_index_3 = write-starts c.requires.known c.requires.total_value I h }

-- the last level is m, and the loop ends behind it
pub returns-2 : goal.returns-2
returns-2 c =
    let I = written (goal.at.returns-2 c).After-over_level in
    let h : c.args.m < c.loop-k.k + 1 = omega arith in
    record { complete = write_done c.requires.known c.requires.total_value I h; by_index_3 = write-starts c.requires.known c.requires.total_value I h }
