use Rattle.std.proofs.Common.{arith}
use Rattle.visit.proofs.Visiting.{top-pieces, lay-places, lay-links, lays}
use Rattle.visit.proofs.lay_spans.Goals as goal

pub write_spans-c-requires : goal.write_spans-c-requires
write_spans-c-requires c =
    record { row_in = c.requires.known.plan.rows _ c.requires.layable.dart; writable = lay-places c.requires.known c.requires.layable (top-pieces c.requires.known c.requires.layable.dart c.requires.k_value) c.base-x.ensures.0 }

pub put-requires : goal.put-requires
put-requires c =
    let r = lay-links c.requires.known c.requires.layable (top-pieces c.requires.known c.requires.layable.dart c.requires.k_value) c.base-x.ensures.0 c.write_spans-c.ensures.0 in
    (r.0, omega (arith, r.1.0, r.1.1))

pub returns : goal.returns
returns c =
    let p = c.write_spans-c.ensures in
    lays c.requires.known c.requires.layable (top-pieces c.requires.known c.requires.layable.dart c.requires.k_value) c.base-x.ensures.0 p.0 p.1 c.put.ensures
