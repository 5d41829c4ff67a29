use Rattle.write.proofs.Bounding.{bound-bases, bound-rows, bound-near, bound-self, bound-joins, bound-alike, bound-over}
use Rattle.write.proofs.level.over_dart.Goals as goal

pub returns-then-d-e : goal.returns-then-d-e
returns-then-d-e c = bound-self c.requires.known c.requires.bounded c.get-e.ensures.0 c.if-d-e.true

pub base-y-requires : goal.base-y-requires
base-y-requires c =
    record { bases = bound-bases c.requires.known c.requires.bounded; h_bound = (c.requires.bounded.either, bound-near c.requires.known c.requires.bounded c.get-e.ensures.0) }

pub pieces_of-c-requires : goal.pieces_of-c-requires
pieces_of-c-requires c =
    let A = c.requires.bounded in
    record { bases = bound-bases c.requires.known A; h_bound = (A.either, (A.dart, bound-rows c.requires.known A _ A.dart)) }

pub pieces_of-b-requires : goal.pieces_of-b-requires
pieces_of-b-requires c =
    let A = c.requires.bounded in
    let e = bound-near c.requires.known A c.get-e.ensures.0 in
    record { bases = bound-bases c.requires.known A; h_bound = (A.either, (e, bound-rows c.requires.known A _ e)) }

pub match_alike-requires : goal.match_alike-requires
match_alike-requires c =
    let g = c.get-e.ensures.0 in
    let x = c.base-x.ensures.0 in
    let y = c.base-y.ensures.0 in
    let u = c.pieces_of-c.ensures in
    let v = c.pieces_of-b.ensures in
    let h = c.if-d-e.false in
    record { joinable = bound-joins c.requires.known c.requires.bounded g h x y u v; alike = bound-alike c.requires.known c.requires.bounded g h x y u v }

pub returns : goal.returns
returns c =
    bound-over c.requires.known c.requires.bounded c.get-e.ensures.0 c.if-d-e.false c.base-x.ensures.0 c.base-y.ensures.0
    c.pieces_of-c.ensures c.pieces_of-b.ensures c.match_alike.ensures
