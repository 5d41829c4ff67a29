use Rattle.std.proofs.Common.{ap, ◌∙◌}
use Rattle.kernel.proofs.Signed.{back}
use Rattle.ends.specs.Key.{height_of}
use Rattle.places.specs.Write.{put_pair}
use Rattle.places.proofs.put_piece.Goals as goal

pub returns : goal.returns
returns c =
    let a = c.args in
    let foot = back c.height-foot.result c.height-foot.type_inv ∙ c.height-foot.ensures ∙ ap height_of c.get_end.ensures.0 in
    let head = back c.height-head.result c.height-head.type_inv ∙ c.height-head.ensures ∙ ap height_of c.get_end-2.ensures.0 in
    c.put_pair.ensures ∙ (λ i. put_pair a.places.now a.d a.m (foot i) (head i) a.x a.op.now)
