use Rattle.std.proofs.Common.{arith}
use Rattle.sweep.proofs.lay_level.Goals as goal

pub lay_cells-requires : goal.lay_cells-requires
lay_cells-requires c =
    record { known = c.requires.known; sweepable = c.requires.sweepable; k_lt_m = omega (arith, c.if-l.true) }

pub lay_upper-requires : goal.lay_upper-requires
lay_upper-requires c =
    record { known = c.requires.known; reached = c.requires.sweepable.reached; k_le_m = (c.requires.sweepable.level, (omega (arith, c.if-l.false), c.requires.sweepable.either)) }
