use Rattle.std.proofs.Common.{arith}
use Rattle.beside.proofs.Plan.{reads-rows, reads-cut}
use Rattle.visit.proofs.Visiting.{lay-places, lay-links, lays}
use Rattle.visit.proofs.lay_cuts.Goals as goal

pub write_row-c-requires : goal.write_row-c-requires
write_row-c-requires c =
    let g = c.get-f.ensures.0 in
    record { two_rows = reads-rows c.requires.known.plan c.requires.layable.dart g; writable = lay-places c.requires.known c.requires.layable (reads-cut c.requires.known.plan c.requires.layable.dart g c.requires.k_value) c.base-x.ensures.0 }

pub put-requires : goal.put-requires
put-requires c =
    let g = c.get-f.ensures.0 in
    let r = lay-links c.requires.known c.requires.layable (reads-cut c.requires.known.plan c.requires.layable.dart g c.requires.k_value) c.base-x.ensures.0 c.write_row-c.ensures.0 in
    (r.0, omega (arith, r.1.0, r.1.1))

pub returns : goal.returns
returns c =
    let g = c.get-f.ensures.0 in
    let p = c.write_row-c.ensures in
    lays c.requires.known c.requires.layable (reads-cut c.requires.known.plan c.requires.layable.dart g c.requires.k_value) c.base-x.ensures.0 p.0 p.1 c.put.ensures
