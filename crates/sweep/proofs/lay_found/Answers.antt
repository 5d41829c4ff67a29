use Rattle.std.proofs.Common.{refl, arith}
use Rattle.visit.proofs.Visiting.{stead-kept}
use Rattle.sweep.proofs.Turning.{turn-sound, turn-out, turn-fits, turn-gather, turn-found, turn-cell, turn-new}
use Rattle.sweep.proofs.lay_found.Goals as goal

pub find_cell-u-requires : goal.find_cell-u-requires
find_cell-u-requires c =
    let A = c.requires.turnable in
    record { ready = (turn-sound c.requires.known A).ready; d_lt_n = (A.dart, omega (arith, A.level)); whole = A.whole; fact = turn-out c.requires.known A c.requires.d_value }

pub overflow_add-l : goal.overflow_add-l
overflow_add-l c =
    let y = c.find_cell-u in
    omega (arith, turn-fits c.requires.known c.requires.turnable c.requires.d_value y.auto.w y.ensures, c.requires.known.plan.few)

pub overflow_add-l-2 : goal.overflow_add-l-2
overflow_add-l-2 c =
    let y = c.find_cell-u in
    omega (arith, turn-fits c.requires.known c.requires.turnable c.requires.d_value y.auto.w y.ensures, c.requires.known.plan.few)

pub gather-requires : goal.gather-requires
gather-requires c =
    let y = c.find_cell-u in
    turn-gather c.requires.known c.requires.turnable c.requires.d_value y.auto.w y.ensures

pub unwrap-g-requires : goal.unwrap-g-requires
unwrap-g-requires c =
    let y = c.find_cell-u in
    turn-found c.requires.known c.requires.turnable c.requires.d_value y.auto.w y.ensures c.gather.result c.gather.ensures.0

pub lay_cell-requires : goal.lay_cell-requires
lay_cell-requires c =
    let y = c.find_cell-u in
    let g = rw c.unwrap-g.ensures at c.gather.ensures.0 in
    record { known = stead-kept y.auto.w refl refl c.requires.known; celled = turn-cell c.requires.known c.requires.turnable c.requires.d_value y.auto.w y.ensures g c.gather.auto.v }

pub returns : goal.returns
returns c =
    let y = c.find_cell-u in
    turn-new c.requires.known c.requires.turnable c.requires.d_value y.auto.w y.ensures c.lay_cell.ensures
