use Rattle.std.proofs.Common.{arith, rules}
use Rattle.paper.specs.Ends.{pieces}
use Rattle.pieces.proofs.Cell.{listed-room, listed-walk, listed-pieces, told-large, told-fits}
use Rattle.pieces.proofs.of_cell.Goals as goal

pub slice_bounds-darts-end : goal.slice_bounds-darts-end
slice_bounds-darts-end c =
    let K = c.list-size in
    let room = listed-room c.args.m _ _ _ _ _ _ c.requires.ready K.auto.work K.ensures in
    omega arith

pub write_pieces-pairs-requires : goal.write_pieces-pairs-requires
write_pieces-pairs-requires c = let K = c.list-size in listed-walk c.args.m _ _ _ _ _ _ c.requires.ready K.auto.work K.ensures c.args.spans.now c.requires.by_index

pub returns-then-memory-pairs : goal.returns-then-memory-pairs
returns-then-memory-pairs c M I =
    let a = c.args in
    let K = c.list-size in
    let room = listed-room a.m _ _ _ _ _ _ c.requires.ready K.auto.work K.ensures in
    let e = listed-pieces M a.m a.n a.k a.d K.result a.links.now a.work.now a.spans.now I c.requires.ready c.requires.k_le_m.1 _ K.ensures room in
    told-large (pieces M a.k a.d) _ a.memory.now c.write_pieces-pairs.result e c.write_pieces-pairs.ensures.value (search rules)

pub write_pieces-requires : goal.write_pieces-requires
write_pieces-requires c = let K = c.list-size in listed-walk c.args.m _ _ _ _ _ _ c.requires.ready K.auto.work K.ensures c.args.spans.now c.requires.by_index

pub returns : goal.returns
returns c M I =
    let a = c.args in
    let K = c.list-size in
    let room = listed-room a.m _ _ _ _ _ _ c.requires.ready K.auto.work K.ensures in
    let e = listed-pieces M a.m a.n a.k a.d K.result a.links.now a.work.now a.spans.now I c.requires.ready c.requires.k_le_m.1 _ K.ensures room in
    let P = c.write_pieces-pairs in
    let fits = c.if-memory-pairs.false in
    told-fits (pieces M a.k a.d) _ a.memory.now _ P.result e P.ensures.value fits (c.write_pieces.ensures.memory_after (omega (arith, P.ensures.value)))
