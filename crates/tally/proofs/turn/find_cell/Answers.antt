use Rattle.std.proofs.Common.{◌+◌, sym, length-take-le}
use Rattle.tally.proofs.Found.{ready-front, turned}
use Rattle.tally.proofs.turn.find_cell.Goals as goal

pub slice_bounds-flood-end-2 : goal.slice_bounds-flood-end-2
slice_bounds-flood-end-2 c =
    sym (length-take-le (c.args.n + c.args.n) c.args.w.now c.requires.ready.room)

pub flood-requires : goal.flood-requires
flood-requires c =
    let W = c.requires.whole in
    record { ready = ready-front c.requires.ready; d_lt_n = c.requires.d_lt_n.0; sparse = W.set; shut = W.shut; fact = c.requires.fact }

pub returns : goal.returns
returns c =
    let K = c.flood in
    turned c.requires.ready K.auto.work K.ensures
