use Rattle.std.proofs.Common.{◌∙◌, rules}
use Rattle.print.proofs.Lines.{lines-lays}
use Rattle.print.proofs.print.Goals as goal

pub returns-clause-told : goal.returns-clause-told
returns-clause-told c = (lines-lays c.args.replies.now c.args.ended c.put_replies.ensures.lays c.put_end.ensures.lays).0

pub returns-clause-memory : goal.returns-clause-memory
returns-clause-memory c = search rules ∙ (lines-lays c.args.replies.now c.args.ended c.put_replies.ensures.lays c.put_end.ensures.lays).1
