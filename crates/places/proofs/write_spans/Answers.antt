use Rattle.std.proofs.Common.{◌≡◌, List, sym, ◌∙◌, subst, arith}
use Rattle.kernel.proofs.Signed.{back}
use Rattle.paper.specs.Map.{Span}
use Rattle.places.specs.Write.{put_pieces}
use Rattle.places.proofs.Spans.{start, more, room, done, row-spans, row-long}
use Rattle.places.proofs.write_spans.Goals as goal

pub loop-j-init : goal.loop-j-init
loop-j-init c = start _ _ _ _ _ _ _ _

pub put_pair-requires : goal.put_pair-requires
put_pair-requires c =
    let k = c.row_length-c in
    let r = c.requires in
    let l = row-long r.row_in k.ensures.0 in
    (room c.loop-j.invariant c.loop-j-test.true (omega (arith, l, r.writable.room)), r.writable.place)

pub loop-j-preserved : goal.loop-j-preserved
loop-j-preserved c =
    let f = c.at-foot in
    let g = c.at-head in
    more c.loop-j.invariant c.loop-j-test.true (back f.result f.type_inv ∙ f.ensures) (back g.result g.type_inv ∙ g.ensures) c.put_pair.ensures

pub shape_of-op : goal.shape_of-op
shape_of-op c = c.loop-j.invariant.same

pub returns : goal.returns
returns c =
    let a = c.args in
    let k = c.row_length-c in
    let L = c.loop-j in
    let r = c.requires.row_in in
    (row-long r k.ensures.0, subst (λ (P : List Span). L.op ≡ put_pieces a.places.now a.d a.m P a.x a.op.now) (sym (row-spans r k.ensures.0)) (done L.invariant c.loop-j-test.false))
