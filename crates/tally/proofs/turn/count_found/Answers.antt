use Rattle.std.proofs.Common.{arith}
use Rattle.tally.proofs.Found.{gatherable}
use Rattle.tally.proofs.Turns.{turn-fits, wide-cell, countable, new-cell, past-room}
use Rattle.tally.proofs.turn.count_found.Goals as goal

pub find_cell-u-requires : goal.find_cell-u-requires
find_cell-u-requires c =
    let A = c.requires.turn in
    record { ready = A.sound.ready; d_lt_n = (A.dart, omega (arith, A.level)); whole = A.stage.whole; fact = c.requires.fresh.out }

pub overflow_add-n : goal.overflow_add-n
overflow_add-n c =
    omega (arith, turn-fits c.requires.turn c.requires.fresh c.find_cell-u.auto.w c.find_cell-u.ensures, c.requires.turn.sound.ready.darts)

pub overflow_add-n-2 : goal.overflow_add-n-2
overflow_add-n-2 c =
    omega (arith, turn-fits c.requires.turn c.requires.fresh c.find_cell-u.auto.w c.find_cell-u.ensures, c.requires.turn.sound.ready.darts)

pub gather-requires : goal.gather-requires
gather-requires c =
    let A = c.requires.turn in
    gatherable A.sound A.dart (omega (arith, A.level)) c.find_cell-u.auto.w c.find_cell-u.ensures

pub returns-in_err-g : goal.returns-in_err-g
returns-in_err-g c =
    rw c.from_residual.ensures (
      past-room (wide-cell c.requires.turn c.requires.fresh c.find_cell-u.auto.w c.find_cell-u.ensures
          c.in_err-g.ensures.0 (omega arith)) (omega arith),
      tt,
    )

pub overflow_add-n-3 : goal.overflow_add-n-3
overflow_add-n-3 c =
    omega (arith, turn-fits c.requires.turn c.requires.fresh c.find_cell-u.auto.w c.find_cell-u.ensures, c.requires.turn.sound.ready.darts)

pub overflow_add-n-4 : goal.overflow_add-n-4
overflow_add-n-4 c =
    omega (arith, turn-fits c.requires.turn c.requires.fresh c.find_cell-u.auto.w c.find_cell-u.ensures, c.requires.turn.sound.ready.darts)

pub count_cell-requires : goal.count_cell-requires
count_cell-requires c =
    countable c.requires.turn c.requires.fresh c.find_cell-u.auto.w c.find_cell-u.ensures
    c.in_ok-g.ensures.0 c.gather.auto.v c.in_ok-g.ensures.1

pub returns-in_err-total : goal.returns-in_err-total
returns-in_err-total c =
    rw c.from_residual-in_err-total.ensures (
      past-room (new-cell c.requires.turn c.requires.fresh c.find_cell-u.auto.w c.find_cell-u.ensures
          c.in_ok-g.ensures.0 c.in_ok-g.ensures.1 c.in_err-total.ensures.0) (omega arith),
      tt,
    )

pub returns : goal.returns
returns c = (
  new-cell c.requires.turn c.requires.fresh c.find_cell-u.auto.w c.find_cell-u.ensures
      c.in_ok-g.ensures.0
      c.in_ok-g.ensures.1 c.in_ok-total.ensures.0,
  c.in_ok-total.ensures.1,
)
