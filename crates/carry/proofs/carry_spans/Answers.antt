use Rattle.std.proofs.Common.{sym, ◌∙◌}
use Rattle.carry.proofs.carry_spans.Goals as goal

pub carry_one-requires : goal.carry_one-requires
carry_one-requires c =
    record { own = (c.requires.own.0, (sym c.requires.own.1.0 ∙ c.if-all-eq1.true, c.requires.own.1.1)); within = c.requires.within }
