use Rattle.std.proofs.Common.{get_or, pos, sym, refl, ap, ◌∙◌, arith, rules}
use borrow.Author.Tests.{tests}
use lib.Signed.{lt_z}
use Rattle.std.specs.List.{find}
use Rattle.std.proofs.lemmas.Iterator.Adapters.{option_map_id}
use Rattle.std.proofs.lemmas.List.FromFn.{fill_by_all}
use Rattle.std.proofs.lemmas.Iterator.{YieldsList-from_range, YieldsList-from_map}
use Rattle.std.proofs.lemmas.Iterator.Search.{find_from_yields_List}
use Rattle.paper.specs.Span.{ends_of}
use Rattle.paper.specs.Table.{row_at}
use Rattle.pieces.proofs.Next.{first-next}
use Rattle.pieces.proofs.walk.first_above.Goals as goal

pub returns : goal.returns
returns c =
    let a = c.args in
    let l = ends_of (row_at a.spans.now a.d) in
    let n = c.end_count.result in
    sym (option_map_id c.find.result)
    ∙ find_from_yields_List (λ z. lt_z a.t z) _ _ c.find.result c.find.ensures.ran
    (YieldsList-from_map _ (λ x. get_or l x (pos 0)) (YieldsList-from_range 0 n n c.map.ensures.source (omega arith)) c.map.ensures.closure (λ x r q k. search (rules, tests)))
    (λ x b q k. search (rules, tests))
    ∙ ap (find (λ z. lt_z a.t z)) (sym (fill_by_all (λ x. get_or l x (pos 0)) l n (pos 0) (sym c.end_count.ensures.0) (λ k h. refl)))
    ∙ first-next (row_at a.spans.now a.d) a.t c.requires.1
