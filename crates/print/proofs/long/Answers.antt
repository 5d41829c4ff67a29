use Rattle.std.proofs.Common.{◌∙◌, rules}
use Rattle.print.proofs.Lines.{long-lays}
use Rattle.print.proofs.long.Goals as goal

pub returns-clause-told : goal.returns-clause-told
returns-clause-told c = (long-lays c.push.ensures.lays).0

pub returns-clause-memory : goal.returns-clause-memory
returns-clause-memory c = search rules ∙ (long-lays c.push.ensures.lays).1
