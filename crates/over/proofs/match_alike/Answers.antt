use Rattle.over.proofs.Blocks.{alike-joined}
use Rattle.over.proofs.match_alike.Goals as goal

pub returns : goal.returns
returns c =
    let r = c.requires in
    alike-joined r.joinable r.alike c.match_rows.ensures
