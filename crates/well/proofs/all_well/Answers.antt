use Rattle.std.proofs.Common.{sym, ◌∙◌, arith}
use Rattle.well.specs.Well.{well_at}
use Rattle.fault.proofs.Every.{every-none, every_more, every-stop, every-end}
use Rattle.well.proofs.all_well.Goals as goal

pub loop-d-init : goal.loop-d-init
loop-d-init c = let a = c.args in every-none (well_at a.links.now a.places.now a.spans.now a.m a.n)

pub returns-then-not-is_well : goal.returns-then-not-is_well
returns-then-not-is_well c =
    let a = c.args in
    every-stop (well_at a.links.now a.places.now a.spans.now a.m a.n) a.n c.loop-d.d (omega arith) (sym c.is_well.ensures ∙ c.if-not-is_well.true)

pub loop-d-preserved : goal.loop-d-preserved
loop-d-preserved c =
    let a = c.args in
    every_more (well_at a.links.now a.places.now a.spans.now a.m a.n) c.loop-d.d c.loop-d.invariant (sym c.is_well.ensures ∙ c.if-not-is_well.false)

pub returns : goal.returns
returns c =
    let a = c.args in
    every-end (well_at a.links.now a.places.now a.spans.now a.m a.n) a.n c.loop-d.d (omega arith) (omega arith) c.loop-d.invariant
