use Rattle.std.proofs.Common.{◌≡◌, ◌+◌, ◌-◌, ◌*◌, length, take, drop, pos, sym, refl, ◌∙◌, length-drop, length-take-le, arith}
use Rattle.std.proofs.lemmas.Slice.{put_mid-paste}
use Rattle.paper.specs.Width.{span_width}
use Rattle.kernel.specs.Copy.{copied}
use Rattle.respan.specs.Splice.{spliced}
use Rattle.respan.proofs.Fill.{row_laid, copied_whole, pasted_spliced}
use Rattle.respan.proofs.splice.put_row.Goals as goal

pub returns : goal.returns
returns c =
    let a = c.args in
    let n = length a.row.now in
    let at = a.d * span_width in
    let k = at + 25 - at in
    let told = c.told-row in
    let behind = length-drop at a.spans.now in
    let part : length (take k (drop at a.spans.now)) ≡ n = length-take-le k (drop at a.spans.now) (omega arith) ∙ omega arith in
    put_mid-paste at k a.spans.now c.copy.new.to a.row.now n
    (c.copy.ensures ∙ (λ i. copied (sym told i) a.row.now (take k (drop at a.spans.now))) ∙ copied_whole a.row.now (take k (drop at a.spans.now)) part) (omega arith) refl
    ∙ pasted_spliced at a.row.now a.spans.now
    ∙ (λ i. spliced at (told i) a.row.now a.spans.now)
    ∙ sym (row_laid (pos 0) span_width a.d a.row.now a.spans.now c.requires told)
