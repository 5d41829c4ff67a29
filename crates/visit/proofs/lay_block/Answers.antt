use Rattle.std.proofs.Common.{arith}
use Rattle.visit.proofs.Visiting.{visit-pieces, lay-places, lay-links, lays}
use Rattle.visit.proofs.lay_block.Goals as goal

pub write_places-c-requires : goal.write_places-c-requires
write_places-c-requires c =
    (c.requires.layable_by.walk, lay-places c.requires.known c.requires.layable_by.here (visit-pieces c.requires.known c.requires.layable_by) c.base-x.ensures.0)

pub put-requires : goal.put-requires
put-requires c =
    let r = lay-links c.requires.known c.requires.layable_by.here (visit-pieces c.requires.known c.requires.layable_by) c.base-x.ensures.0 c.write_places-c.ensures.0 in
    (r.0, omega (arith, r.1.0, r.1.1))

pub returns : goal.returns
returns c =
    let p = c.write_places-c.ensures in
    lays c.requires.known c.requires.layable_by.here (visit-pieces c.requires.known c.requires.layable_by) c.base-x.ensures.0 p.0 p.1 c.put.ensures
