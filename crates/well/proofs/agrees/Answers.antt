use Rattle.std.proofs.Common.{suc, sym, ◌∙◌, arith}
use Rattle.well.specs.Well.{agrees_along}
use Rattle.fault.proofs.Every.{every-none, every_more, every-stop, every-end}
use Rattle.well.proofs.agrees.Goals as goal

pub loop-j-init : goal.loop-j-init
loop-j-init c = let a = c.args in every-none (agrees_along a.links.now a.places.now a.spans.now a.m a.d)

pub returns-then-not-agrees_along : goal.returns-then-not-agrees_along
returns-then-not-agrees_along c =
    let a = c.args in
    every-stop (agrees_along a.links.now a.places.now a.spans.now a.m a.d) (suc a.m) c.loop-j.j (omega arith) (sym c.agrees_along.ensures ∙ c.if-not-agrees_along.true)

pub loop-j-preserved : goal.loop-j-preserved
loop-j-preserved c =
    let a = c.args in
    every_more (agrees_along a.links.now a.places.now a.spans.now a.m a.d) c.loop-j.j c.loop-j.invariant (sym c.agrees_along.ensures ∙ c.if-not-agrees_along.false)

pub returns : goal.returns
returns c =
    let a = c.args in
    every-end (agrees_along a.links.now a.places.now a.spans.now a.m a.d) (suc a.m) c.loop-j.j (omega arith) (omega arith) c.loop-j.invariant
