use Rattle.std.proofs.Common.{◌∙◌, true, rules}
use borrow.Author.Tests.{tests}
use Rattle.std.proofs.lemmas.Iterator.{YieldsList-from_slice}
use Rattle.std.proofs.lemmas.Iterator.Search.{any_from_yields_List}
use Rattle.paper.specs.Span.{covered}
use Rattle.paper.specs.Table.{row_at}
use Rattle.pieces.proofs.Next.{any-covered}
use Rattle.pieces.proofs.walk.is_covered_above.Goals as goal

pub returns : goal.returns
returns c =
    let a = c.args in
    any_from_yields_List (λ d. covered (row_at a.spans.now d) a.t true) _ _ _ c.any.ensures.ran (YieldsList-from_slice a.darts.now cc) (λ x b q k. search (rules, tests))
    ∙ any-covered a.spans.now a.t a.darts.now
