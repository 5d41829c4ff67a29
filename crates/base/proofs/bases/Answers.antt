use Rattle.std.proofs.Common.{arith, rules}
use Rattle.base.proofs.Slots.{sum-none, sum_fits, sum-next, bases-kept}
use Rattle.base.proofs.bases.Goals as goal

pub loop-d-init : goal.loop-d-init
loop-d-init c = sum-none _ _

pub base-requires : goal.base-requires
base-requires c =
    let L = c.loop-d in
    record { bases = bases-kept L.invariant.long c.requires.bases; h_bound = (search rules, c.loop-d-test.true) }

pub overflow_add-next : goal.overflow_add-next
overflow_add-next c =
    let b = c.base in
    omega (arith, sum_fits c.requires.bases c.loop-d.invariant c.loop-d-test.true c.requires.n_bound b.result b.ensures.0)

pub put_bases-requires : goal.put_bases-requires
put_bases-requires c =
    let L = c.loop-d in
    let h = c.loop-d-test.true in
    let b = c.base in
    let f = sum_fits c.requires.bases L.invariant h c.requires.n_bound b.result b.ensures.0 in
    record { bases = bases-kept L.invariant.long c.requires.bases; d_lt_n = (h, (omega (arith, f), omega (arith, f))) }

pub loop-d-preserved : goal.loop-d-preserved
loop-d-preserved c =
    let L = c.loop-d in
    let b = c.base in
    sum-next c.requires.bases L.invariant c.loop-d-test.true b.result b.ensures.0 c.put_bases.ensures

pub shape_of-w : goal.shape_of-w
shape_of-w c =
    c.loop-d.invariant.long

pub returns : goal.returns
returns c =
    let I = c.loop-d.invariant in
    record { by_index = λ e h. I.starts e (omega (arith, h, c.loop-d-test.false)); by_index_2 = λ e h. I.stops e (omega (arith, h, c.loop-d-test.false)) }
