use Rattle.std.proofs.Common.{◌≡◌, ◌≤◌, length, sym, arith}
use mir.ValLaws.{to_z-of_z}
use Rattle.orbit.proofs.Refused.{refused-edit}
use Rattle.orbit.proofs.Sparse.{fits}
use Rattle.edit.proofs.Placed.{place-done}
use Rattle.edit.proofs.place.place.Goals as goal

pub returns-in_err-admit_place : goal.returns-in_err-admit_place
returns-in_err-admit_place c = λ R s ss P.
    let k = c.from_residual in
    rw (← c.from-dart.ensures, ← c.from-axis.ensures)
    (refused-edit k.result _ k.ensures.1 P.held (c.in_err-admit_place.ensures.told R s c.args.coordinate P.held.map.dims P.held.map.darts))

pub put_coordinates-requires : goal.put_coordinates-requires
put_coordinates-requires c =
    let a = c.args in
    let y = c.list-t in
    let l = c.in_ok-admit_place.ensures.served.0 in
    let f : y.result ≤ a.n = fits _ _ _ _ y.ensures.set in
    let k : length y.new.work ≡ length a.w.now = y.auto.work in
    let g = c.requires.ready in
    record { queue_in = record { darts = g.darts; room = omega arith; below = y.ensures.set.below }; axis_lt_place_width = (omega arith, c.requires.place_width_in_bounds) }

pub overflow_cast-result : goal.overflow_cast-result
overflow_cast-result c = let f = fits _ _ _ _ c.list-t.ensures.set in let d = c.requires.ready.darts in omega arith

pub returns : goal.returns
returns c = λ R s ss P.
    let a = c.args in
    let y = c.in_ok-admit_place.ensures in
    let small = c.ranges.coordinate in
    rw (← c.from-dart.ensures, ← c.from-axis.ensures)
    (place-done P c.from-dart.result c.from-axis.result a.coordinate y.served.0 y.served.1 (sym (y.told R s a.coordinate P.held.map.dims P.held.map.darts))
    c.list-t.ensures (simp to_z-of_z at c.put_coordinates.ensures))
