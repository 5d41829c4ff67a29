use Rattle.paper.specs.Table.{owned_at}
use Rattle.respan.proofs.Joined.{both-within}
use Rattle.respan.proofs.insertion.Goals as goal

pub low_end-lo-requires : goal.low_end-lo-requires
low_end-lo-requires c =
    (c.requires, both-within _ _ (owned_at c.args.spans.now c.args.d) c.spans_before-a.result c.spans_met-b.result c.spans_before-a.ensures c.spans_met-b.ensures)

pub high_end-hi-requires : goal.high_end-hi-requires
high_end-hi-requires c =
    (c.requires, both-within _ _ (owned_at c.args.spans.now c.args.d) c.spans_before-a.result c.spans_met-b.result c.spans_before-a.ensures c.spans_met-b.ensures)
