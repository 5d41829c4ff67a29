use Rattle.std.proofs.Common.{le-leb}
use borrow.Author.Tests.{lt-leb}
use Rattle.paper.specs.Command.{read_at}
use Rattle.command.proofs.decode.Goals as goal

pub returns-then-bytes-at : goal.returns-then-bytes-at
unfolding read_at
returns-then-bytes-at c = rw (le-leb _ _ c.if-bytes-at.true) c.unreadable.ensures

pub returns : goal.returns
unfolding read_at
returns c = rw (lt-leb _ _ c.if-bytes-at.false) c.read_after.ensures
