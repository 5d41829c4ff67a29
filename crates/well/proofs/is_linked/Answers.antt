use Rattle.std.proofs.Common.{suc, sym, ◌∙◌, arith}
use Rattle.well.specs.Well.{linked_along}
use Rattle.well.proofs.Asked.{links-before}
use Rattle.fault.proofs.Every.{every-none, every_more, every-stop, every-end}
use Rattle.well.proofs.is_linked.Goals as goal

pub loop-j-init : goal.loop-j-init
loop-j-init c = every-none (linked_along c.args.links.now c.args.n c.args.d)

pub is_linked_along-requires-clause-links_before : goal.is_linked_along-requires-clause-links_before
is_linked_along-requires-clause-links_before c = let a = c.args in links-before a.links.now a.n a.d c.loop-j.j c.loop-j.invariant

pub returns-then-not-is_linked_along : goal.returns-then-not-is_linked_along
returns-then-not-is_linked_along c =
    let a = c.args in
    every-stop (linked_along a.links.now a.n a.d) (suc a.m) c.loop-j.j (omega arith) (sym c.is_linked_along.ensures ∙ c.if-not-is_linked_along.true)

pub loop-j-preserved : goal.loop-j-preserved
loop-j-preserved c =
    let a = c.args in
    every_more (linked_along a.links.now a.n a.d) c.loop-j.j c.loop-j.invariant (sym c.is_linked_along.ensures ∙ c.if-not-is_linked_along.false)

pub returns : goal.returns
returns c =
    let a = c.args in
    every-end (linked_along a.links.now a.n a.d) (suc a.m) c.loop-j.j (omega arith) (omega arith) c.loop-j.invariant
