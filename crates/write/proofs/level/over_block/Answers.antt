use Rattle.std.proofs.Common.{sym, ◌∙◌, eqb-true}
use Rattle.write.proofs.Bounding.{bound-bare}
use Rattle.write.proofs.level.over_block.Goals as goal

pub returns-then-is_bare : goal.returns-then-is_bare
returns-then-is_bare c =
    bound-bare c.requires.known c.requires.bounded (eqb-true _ _ (sym c.is_bare.ensures ∙ c.if-is_bare.true))
