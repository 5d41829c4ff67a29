use Rattle.std.proofs.Common.{sym, ◌∙◌, eqb-true}
use borrow.Author.Tests.{eqb-false}
use Rattle.visit.proofs.Visiting.{visit-bases}
use Rattle.sweep.proofs.Bare.{bare-linking}
use Rattle.write.proofs.Filing.{file-link}
use Rattle.write.proofs.link.link_dart.Goals as goal

pub is_bare-requires : goal.is_bare-requires
is_bare-requires c =
    record { bases = visit-bases c.requires.known; h_bound = (c.requires.below.either, c.requires.below.dart) }

pub returns-then-is_bare : goal.returns-then-is_bare
returns-then-is_bare c =
    bare-linking c.requires.known c.requires.below (eqb-true _ _ (sym c.is_bare.ensures ∙ c.if-is_bare.true))

pub link_block-requires : goal.link_block-requires
link_block-requires c =
    record { known = c.requires.known; linkable = file-link c.requires.known c.requires.below c.requires.laid (eqb-false _ _ (sym c.is_bare.ensures ∙ c.if-is_bare.false)) }

pub returns : goal.returns
returns c = c.link_block.ensures
