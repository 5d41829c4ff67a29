use Rattle.std.proofs.Common.{sym, refl, ◌∙◌, arith, eq-eqb, ne_eqb}
use Rattle.paper.specs.Below.{sum_below}
use Rattle.paper.specs.Call.{free_in}
use Rattle.table.proofs.Bits.{byte-lt, bit-set, bit-clear, weight-le, shifted}
use Rattle.table.proofs.free.free_axes.Goals as goal
use Rattle.table.proofs.free.free_axes.Goals.{else-get-dart, then-get-dart}

pub loop-i-init : goal.loop-i-init
unfolding sum_below
loop-i-init c = refl

pub overflow_add-bits : goal.overflow_add-bits
overflow_add-bits c =
    let l = c.loop-i in
    let a = c.args in
    omega (arith, weight-le l.i (omega arith), shifted l.i (omega arith), byte-lt (free_in a.links.now a.dart) l.i)

pub loop-i-preserved : goal.loop-i-preserved
loop-i-preserved c =
    let l = c.loop-i in
    let f = free_in c.args.links.now c.args.dart in
    let g = c.get.ensures.0 in
    elim c.if-get-dart.branch [ then-get-dart w ↦ w.bits-is ∙ bit-set f l.i l.bits _ (eq-eqb _ _ (sym g ∙ w.if-get-dart.true)) (shifted l.i (omega arith)) l.invariant | else-get-dart w ↦ w.bits-is ∙ bit-clear f l.i l.bits (ne_eqb _ _ (λ e. w.if-get-dart.false (g ∙ e))) l.invariant ]
