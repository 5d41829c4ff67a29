use Rattle.std.proofs.Common.{ℕ, ◌*◌, sym, ap, ◌∙◌, arith}
use Rattle.paper.specs.Width.{pair_width}
use Rattle.span.proofs.Row.{row-ends}
use Rattle.span.proofs.end_count.Goals as goal

pub returns : goal.returns
returns c =
    let r = c.row_length in
    (ap (λ (k : ℕ). k * pair_width) r.ensures.0 ∙ sym (row-ends c.args.spans.now c.args.d c.requires), omega (arith, r.ensures.1))
