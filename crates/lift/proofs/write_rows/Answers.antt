use Rattle.std.proofs.Common.{sym}
use Rattle.lift.proofs.Put.{front-places, front-links, rows-put}
use Rattle.lift.proofs.write_rows.Goals as goal

pub slice_bounds-write_all-end-2 : goal.slice_bounds-write_all-end-2
slice_bounds-write_all-end-2 c =
    let p = c.requires in
    sym (front-places p.known p.total_value.0)

pub slice_bounds-write_all-end-4 : goal.slice_bounds-write_all-end-4
slice_bounds-write_all-end-4 c =
    let p = c.requires in
    sym (front-links p.known p.total_value.0)

pub returns : goal.returns
returns c =
    let p = c.requires in
    let y = c.write_all in
    record { ol_after = rows-put p.known p.total_value.0 y.ensures.complete y.auto.op y.auto.ol; by_index_3 = y.ensures.by_index_3 }
