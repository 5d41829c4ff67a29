use Rattle.std.proofs.Common.{arith}
use Rattle.over.proofs.Blocks.{overable-kept, levels-joined}
use Rattle.over.proofs.match_levels.Goals as goal

pub match_rows-requires-2 : goal.match_rows-requires-2
match_rows-requires-2 c =
    let p = c.requires in
    let k = c.match_rows.auto.ol in
    record { overable = overable-kept k p.walks.1; link_width_in_bounds = (omega (arith, k, p.walks.1.own_links), omega (arith, k, p.links)) }

pub returns : goal.returns
returns c =
    levels-joined c.requires c.match_rows.ensures c.match_rows-2.ensures
