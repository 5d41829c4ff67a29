use Rattle.std.proofs.Common.{sym, ◌∙◌, rules}
use borrow.Author.Tests.{tests}
use Rattle.std.specs.Int.{int_min}
use Rattle.std.proofs.lemmas.Iterator.Adapters.{option_map_id}
use Rattle.std.proofs.lemmas.Iterator.{YieldsList-from_slice}
use Rattle.std.proofs.lemmas.Iterator.Consumers.{YieldsList-from_filter_map, reduce_by_from_yields_List}
use Rattle.paper.specs.Span.{ends_of}
use Rattle.paper.specs.Table.{row_at}
use Rattle.pieces.specs.Listed.{next_above}
use Rattle.pieces.proofs.Next.{lowest-next}
use Rattle.pieces.proofs.walk.next_end.Goals as goal

pub returns : goal.returns
returns c =
    let a = c.args in
    sym (option_map_id c.min.result)
    ∙ reduce_by_from_yields_List _ int_min _ c.min.result (λ p z. search (rules, tests)) c.min.ensures.ran
    (YieldsList-from_filter_map _ (λ d. next_above a.t (ends_of (row_at a.spans.now d))) (YieldsList-from_slice a.darts.now cc) c.filter_map.ensures.closure (λ x r q k. search (rules, tests)))
    ∙ lowest-next a.spans.now a.darts.now a.t
