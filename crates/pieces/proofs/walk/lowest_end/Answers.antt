use Rattle.std.proofs.Common.{◌≡◌, true, sym, ◌∙◌, subst, rules}
use borrow.Author.Tests.{tests}
use Rattle.std.specs.Int.{int_min}
use Rattle.std.specs.List.{slice_get}
use Rattle.std.proofs.lemmas.Iterator.{YieldsList-from_slice}
use Rattle.std.proofs.lemmas.Iterator.Adapters.{option_map_id}
use Rattle.std.proofs.lemmas.Iterator.Consumers.{YieldsList-from_filter_map, reduce_by_from_yields_List}
use Rattle.paper.specs.Span.{ordered, ends_of}
use Rattle.paper.specs.Table.{row_at}
use Rattle.pieces.specs.Listed.{spans_of, Lowest}
use Rattle.pieces.proofs.Rows.{place-of}
use Rattle.pieces.proofs.Next.{lowest-end}
use Rattle.pieces.proofs.walk.lowest_end.Goals as goal

pub returns : goal.returns
returns c =
    let a = c.args in
    let l = ends_of (spans_of a.spans.now a.darts.now) in
    subst (Lowest l)
    (sym
    (sym (option_map_id c.min.result)
    ∙ reduce_by_from_yields_List _ int_min _ c.min.result (λ p z. search (rules, tests)) c.min.ensures.ran
    (YieldsList-from_filter_map _ (λ d. slice_get (ends_of (row_at a.spans.now d)) 0) (YieldsList-from_slice a.darts.now cc) c.filter_map.ensures.closure (λ x r q k. search (rules, tests)))))
    (lowest-end a.spans.now a.darts.now (λ e m. let q = place-of 0 a.darts.now e m in subst (λ d. ordered (row_at a.spans.now d) ≡ true) q.2 (c.requires q.0 0 q.1).1))
