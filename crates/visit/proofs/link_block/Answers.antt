use Rattle.std.proofs.Common.{◌+◌, ◌*◌, ◌≤◌, arith}
use Rattle.paper.specs.Width.{dart_limit}
use Rattle.visit.proofs.Visiting.{visit-bases, link_row, link-wire, wire-room, linking}
use Rattle.visit.proofs.link_block.Goals as goal

pub overflow_mul-x : goal.overflow_mul-x
overflow_mul-x c =
    omega (arith, link_row c.requires.known c.requires.linkable c.base-x.ensures.0)

pub get-c-requires : goal.get-c-requires
get-c-requires c =
    (link_row c.requires.known c.requires.linkable c.base-x.ensures.0).1

pub wire-requires : goal.wire-requires
wire-requires c =
    record { known = c.requires.known; wireable = link-wire c.requires.known c.requires.linkable c.base-x.ensures.0 c.get-c.ensures.0 }

pub overflow_mul-c : goal.overflow_mul-c
overflow_mul-c c =
    let room : c.base-x.result + 2 * c.get-c.result ≤ dart_limit = omega (arith, wire-room c.requires.known (link-wire c.requires.known c.requires.linkable c.base-x.ensures.0 c.get-c.ensures.0), c.requires.known.few) in
    omega (arith, room)

pub overflow_add-x : goal.overflow_add-x
overflow_add-x c =
    let room : c.base-x.result + 2 * c.get-c.result ≤ dart_limit = omega (arith, wire-room c.requires.known (link-wire c.requires.known c.requires.linkable c.base-x.ensures.0 c.get-c.ensures.0), c.requires.known.few) in
    omega (arith, room)

pub put_base-requires : goal.put_base-requires
put_base-requires c =
    let room : c.base-x.result + 2 * c.get-c.result ≤ dart_limit = omega (arith, wire-room c.requires.known (link-wire c.requires.known c.requires.linkable c.base-x.ensures.0 c.get-c.ensures.0), c.requires.known.few) in
    record { bases = visit-bases c.requires.known; h_bound = (omega arith, (c.requires.linkable.below.dart, omega (arith, room))) }

pub returns : goal.returns
returns c =
    linking c.requires.known c.requires.linkable c.base-x.ensures.0 c.get-c.ensures.0 c.wire.ensures c.put_base.ensures
