use Rattle.std.proofs.Common.{rules}
use Rattle.ends.proofs.Keys.{wide_fits, sum_fits, through, through-fits, key-height, key-small}
use Rattle.ends.proofs.key.key.Goals as goal

pub overflow_cast-result : goal.overflow_cast-result
overflow_cast-result c = wide_fits c.args.z c.ranges.z

pub overflow_add-result : goal.overflow_add-result
overflow_add-result c = search (rules, sum_fits c.args.z c.ranges.z)

pub overflow_cast-result-2 : goal.overflow_cast-result-2
overflow_cast-result-2 c = search (rules, through-fits c.args.z c.ranges.z)

pub returns : goal.returns
returns c =
    let e = through c.args.z c.ranges.z in
    let h = c.ranges.z.sfits in
    (rw e (key-height c.args.z h), rw e (key-small c.args.z h))
