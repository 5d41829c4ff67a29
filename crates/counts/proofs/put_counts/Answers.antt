use Rattle.std.proofs.Common.{ℕ, set, ap, ◌∙◌, arith, rules}
use Rattle.paper.specs.Below.{list_below, onto}
use Rattle.paper.specs.Cell.{cells}
use Rattle.counts.proofs.Written.{none_written, more-written}
use Rattle.counts.proofs.put_counts.Goals as goal

pub loop-i-init : goal.loop-i-init
loop-i-init c M H = none_written (cells M) c.args.memory.now

pub loop-i-preserved : goal.loop-i-preserved
loop-i-preserved c M H =
    let L = c.loop-i in
    c.put.ensures ∙ (λ t. set (L.invariant M H t) L.i (c.count_cells.ensures.value M H t)) ∙ more-written (cells M) c.args.memory.now L.i (search rules)

pub returns : goal.returns
returns c M H =
    let a = c.args in
    let L = c.loop-i in
    L.invariant M H ∙ ap (λ (k : ℕ). onto (list_below k (cells M)) a.memory.now) (omega arith)
