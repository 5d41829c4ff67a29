use Rattle.std.proofs.Common.{sym, ◌∙◌}
use Rattle.command.proofs.Unread.{unread-one, unread-other}
use Rattle.command.proofs.reply_unreadable.Goals as goal

pub returns-then-number : goal.returns-then-number
returns-then-number c = λ R s. unread-one R s _ (c.if-number.true ∙ c.number.ensures)

pub returns : goal.returns
returns c = λ R s. unread-other R s _ (λ e. c.if-number.false (e ∙ sym c.number.ensures))
