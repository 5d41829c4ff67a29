use Rattle.std.proofs.Common.{sym, ◌∙◌, arith}
use Rattle.command.proofs.Operands.{cut, whole, width_low, no-width, by_width}
use Rattle.command.proofs.read_after.Goals as goal

pub returns-in_default : goal.returns-in_default
returns-in_default c = let a = c.args in c.unreadable.ensures ∙ sym (no-width a.bytes.now a.op a.p (sym c.operand_width.ensures ∙ c.in_default.is))

pub overflow_add-next : goal.overflow_add-next
overflow_add-next c = let low = width_low c.args.op c.in-Some.width (sym c.operand_width.ensures ∙ c.in-Some.is) in omega arith

pub returns-then-bytes-next : goal.returns-then-bytes-next
returns-then-bytes-next c =
    let a = c.args in
    cut a.bytes.now a.p c.in-Some.width _ c.if-bytes-next.true c.unreadable-then-bytes-next.ensures ∙ by_width a.bytes.now a.op a.p c.in-Some.width (sym c.operand_width.ensures ∙ c.in-Some.is)

pub returns : goal.returns
returns c =
    let a = c.args in
    whole a.bytes.now a.p c.in-Some.width _ c.if-bytes-next.false c.command_of-command.ensures ∙ by_width a.bytes.now a.op a.p c.in-Some.width (sym c.operand_width.ensures ∙ c.in-Some.is)
