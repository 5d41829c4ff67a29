use Rattle.print.proofs.Laid.{lays_more}
use Rattle.print.proofs.text.Text.spaced.Goals as goal

pub returns-clause-lays : goal.returns-clause-lays
returns-clause-lays c = lays_more c.push.ensures.lays c.number.ensures.lays
