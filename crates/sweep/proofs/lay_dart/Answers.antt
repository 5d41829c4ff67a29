use Rattle.std.proofs.Common.{sym, ◌∙◌, eqb-true}
use borrow.Author.Tests.{eqb-false}
use Rattle.visit.proofs.Visiting.{visit-bases}
use Rattle.sweep.proofs.Celling.{call-layable, call-bare}
use Rattle.sweep.proofs.lay_dart.Goals as goal

pub is_bare-requires : goal.is_bare-requires
is_bare-requires c =
    record { bases = visit-bases c.requires.known; h_bound = (c.requires.called.either, c.requires.called.dart) }

pub returns-then-is_bare : goal.returns-then-is_bare
returns-then-is_bare c =
    let A = c.requires.called in
    call-bare c.requires.known A.dart A.level A.either A.reached (eqb-true _ _ (sym c.is_bare.ensures ∙ c.if-is_bare.true))

pub lay_block-requires : goal.lay_block-requires
lay_block-requires c =
    let A = c.requires.called in record {
      known = c.requires.known;
      layable_by = record {
        here = call-layable c.requires.known A.dart A.level A.either A.reached (eqb-false _ _ (sym c.is_bare.ensures ∙ c.if-is_bare.false));
        walk = A.walk;
        ends = A.ends;
      };
    }

pub returns : goal.returns
returns c = c.lay_block.ensures
