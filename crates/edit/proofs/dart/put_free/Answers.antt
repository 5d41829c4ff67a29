use Rattle.std.proofs.Common.{sym, ◌∙◌, arith}
use Rattle.paper.specs.Width.{link_width}
use Rattle.edit.proofs.Writes.{row_filled}
use Rattle.edit.proofs.dart.put_free.Goals as goal

pub returns : goal.returns
returns c =
    let a = c.args in
    c.clear.ensures ∙ sym (row_filled link_width a.d a.d link_width a.links.now (omega arith))
