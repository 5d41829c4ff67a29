use Rattle.std.proofs.Common.{◌∙◌}
use Rattle.print.proofs.Laid.{lays_more}
use Rattle.print.proofs.Lines.{reply-lays}
use Rattle.print.proofs.put_reply.Goals as goal

pub returns-clause-lays : goal.returns-clause-lays
returns-clause-lays c =
    reply-lays _ _ _ _ c.from.ensures (c.from-2.ensures ∙ c.word_at.ensures) (lays_more (lays_more c.number.ensures.lays c.spaced.ensures.lays) c.push.ensures.lays)
