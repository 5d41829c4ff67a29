use Rattle.over.proofs.Same.{same_start, same_more, same_end}
use Rattle.over.proofs.match_same.Goals as goal

pub loop-r-init : goal.loop-r-init
loop-r-init c = let a = c.args in same_start a.a a.x a.c a.y a.ol.now

pub loop-r-preserved : goal.loop-r-preserved
loop-r-preserved c =
    same_more c.loop-r.invariant c.loop-r-test.true (rw (c.put-in-loop-r.ensures, c.put.ensures))

pub shape_of-ol : goal.shape_of-ol
shape_of-ol c = c.loop-r.invariant.so_far.long

pub returns : goal.returns
returns c = same_end c.requires c.loop-r.invariant c.loop-r-test.false
