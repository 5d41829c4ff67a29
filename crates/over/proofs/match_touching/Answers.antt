use Rattle.std.proofs.Common.{ap, arith, rules, w32, of_z}
use Rattle.over.proofs.Touch.{touch-start, touch-joined, touch-apart, touch-crossed}
use Rattle.over.proofs.match_touching.Goals as goal
use Rattle.over.proofs.match_touching.Goals.{then-op-head, else-op-head}

pub loop-i-init : goal.loop-i-init
loop-i-init c = let a = c.args in touch-start a.op.now a.m a.a a.x a.c a.ol.now

pub put_rows-requires : goal.put_rows-requires
put_rows-requires c =
    let L = c.loop-i.invariant in
    let r = c.requires.crossable in
    let h = c.loop-i-test.true in
    let k = L.so_far.long in
    record { a_lt_link_width = (r.0.axis, (omega (arith, r.1.own), omega (arith, r.1.own))); link_width_in_bounds = (omega (arith, r.1.own_links), omega (arith, r.1.own_links)) }

pub loop-i-preserved : goal.loop-i-preserved
loop-i-preserved c = elim c.if-op-head.branch [
  | then-op-head w ↦ rw w.ol-is (touch-joined c.loop-i.invariant (omega (arith, c.loop-i-test.true)) (search rules) w.put_rows.ensures)
  | else-op-head w ↦ rw w.ol-is (touch-apart c.loop-i.invariant (omega (arith, c.loop-i-test.true)) (λ e. w.if-op-head.false (ap (of_z w32) e)))
]

pub shape_of-ol : goal.shape_of-ol
shape_of-ol c = c.loop-i.invariant.so_far.long

pub returns : goal.returns
returns c =
    let r = c.requires in
    touch-crossed r.crossable r.stacked c.loop-i.invariant (omega (arith, c.loop-i-test.false))
