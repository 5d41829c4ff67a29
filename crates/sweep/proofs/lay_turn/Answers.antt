use Rattle.std.proofs.Common.{sym, ◌∙◌}
use Rattle.sweep.proofs.Turning.{turn-look, turn-skip}
use Rattle.sweep.proofs.lay_turn.Goals as goal

pub is_laid-requires : goal.is_laid-requires
is_laid-requires c =
    let r = turn-look c.requires.known c.requires.turnable in
    record { bases = r.0; h_bound = r.1 }

pub returns-then-is_laid : goal.returns-then-is_laid
returns-then-is_laid c =
    turn-skip c.requires.known c.requires.turnable (sym c.is_laid.ensures ∙ c.if-is_laid.true)

pub lay_found-requires : goal.lay_found-requires
lay_found-requires c =
    record { known = c.requires.known; turnable = c.requires.turnable; d_value = sym c.is_laid.ensures ∙ c.if-is_laid.false }
