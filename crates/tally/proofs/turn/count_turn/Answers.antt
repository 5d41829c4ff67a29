use Rattle.std.proofs.Common.{sym, ◌∙◌}
use Rattle.tally.proofs.Turns.{turn-look, turn-counted, turn-fresh}
use Rattle.tally.proofs.turn.count_turn.Goals as goal

pub is_counted-requires : goal.is_counted-requires
is_counted-requires c =
    let A = c.requires in
    let r = turn-look A in
    record { bases = r.0; d_lt_n = r.1 }

pub returns-then-is_counted : goal.returns-then-is_counted
returns-then-is_counted c =
    (turn-counted c.requires (sym c.is_counted.ensures ∙ c.if-is_counted.true), c.requires.stage.fits)

pub count_found-requires : goal.count_found-requires
count_found-requires c =
    let A = c.requires in
    record { turn = A; fresh = turn-fresh A (sym c.is_counted.ensures ∙ c.if-is_counted.false) }
