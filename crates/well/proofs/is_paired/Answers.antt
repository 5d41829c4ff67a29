use Rattle.std.proofs.Common.{◌-◌, sym, ◌∙◌, arith}
use Rattle.well.specs.Well.{commutes}
use Rattle.fault.proofs.Every.{every-none, every_more, every-stop, every-end}
use Rattle.well.proofs.is_paired.Goals as goal

pub loop-i-init : goal.loop-i-init
loop-i-init c = every-none (commutes c.args.links.now c.args.d c.args.j)

pub returns-then-not-is_commuting : goal.returns-then-not-is_commuting
returns-then-not-is_commuting c =
    let a = c.args in
    every-stop (commutes a.links.now a.d a.j) (a.j - 1) c.loop-i.i (omega (arith, c.saturating_sub-i-end.ensures)) (sym c.is_commuting.ensures ∙ c.if-not-is_commuting.true)

pub loop-i-preserved : goal.loop-i-preserved
loop-i-preserved c =
    let a = c.args in
    every_more (commutes a.links.now a.d a.j) c.loop-i.i c.loop-i.invariant (sym c.is_commuting.ensures ∙ c.if-not-is_commuting.false)

pub returns : goal.returns
returns c =
    let a = c.args in
    every-end (commutes a.links.now a.d a.j) (a.j - 1) c.loop-i.i (omega (arith, c.saturating_sub-i-end.ensures)) (omega (arith, c.saturating_sub-i-end.ensures)) c.loop-i.invariant
