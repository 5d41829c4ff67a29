use Rattle.std.proofs.Common.{sym, refl, ◌∙◌, arith}
use Rattle.progress.proofs.Counted.{on-true, on-false}
use Rattle.run.proofs.Going.{going_start, going_end}
use Rattle.run.proofs.take_all.Goals as goal

pub start-p-requires : goal.start-p-requires
start-p-requires c = tt

pub loop-links-init : goal.loop-links-init
loop-links-init c =
    let s = c.requires in
    let a = c.args in (
      record { plan = refl; lifted = refl; replies = refl },
      going_start a.bytes.now a.replies.now s c.start-p.ensures,
    )

pub goes_on-requires : goal.goes_on-requires
goes_on-requires c = tt

pub turn-p-requires : goal.turn-p-requires
turn-p-requires c =
    let L = c.loop-links in
    let b = on-true _ _ _ (sym c.goes_on.ensures ∙ c.loop-links-test.true) in
    record { R = _; outcome = _; before = _; going = L.invariant.1; byte = b.0; more = b.1 }

pub loop-links-smaller : goal.loop-links-smaller
loop-links-smaller c =
    let L = c.loop-links in
    let b = (on-true _ _ _ (sym c.goes_on.ensures ∙ c.loop-links-test.true)).0 in
    let n = c.turn-p.ensures.past in
    omega arith

pub ended-requires : goal.ended-requires
ended-requires c = tt

pub shape_of-links : goal.shape_of-links
shape_of-links c = λ i. (c.loop-links.invariant.0.plan i).links

pub shape_of-places : goal.shape_of-places
shape_of-places c = λ i. (c.loop-links.invariant.0.plan i).places

pub shape_of-spans : goal.shape_of-spans
shape_of-spans c = λ i. (c.loop-links.invariant.0.plan i).spans

pub shape_of-w : goal.shape_of-w
shape_of-w c = λ i. (c.loop-links.invariant.0.plan i).work

pub shape_of-ol : goal.shape_of-ol
shape_of-ol c = λ i. (c.loop-links.invariant.0.lifted i).links

pub shape_of-op : goal.shape_of-op
shape_of-op c = λ i. (c.loop-links.invariant.0.lifted i).places

pub shape_of-oo : goal.shape_of-oo
shape_of-oo c = λ i. (c.loop-links.invariant.0.lifted i).objects

pub shape_of-v : goal.shape_of-v
shape_of-v c = λ i. (c.loop-links.invariant.0.lifted i).work

pub shape_of-replies : goal.shape_of-replies
shape_of-replies c = c.loop-links.invariant.0.replies

pub returns : goal.returns
returns c =
    let L = c.loop-links in
    let K = L.invariant.0 in
    going_end L.invariant.1 (on-false _ _ _ (sym c.goes_on.ensures ∙ c.loop-links-test.false)) _ refl c.ended.ensures K.plan K.lifted refl

pub loop-links-preserved : goal.loop-links-preserved
loop-links-preserved c =
    let L = c.loop-links in
    let T = c.turn-p in
    let k = T.auto in
    let K = L.invariant.0 in (
      record {
        plan = (λ i. record { links = k.links i; places = k.places i; spans = k.spans i; work = k.w i }) ∙ K.plan;
        lifted = (λ i. record { links = k.ol i; places = k.op i; objects = k.oo i; work = k.v i }) ∙ K.lifted;
        replies = k.replies ∙ K.replies;
      },
      T.ensures.kept _ _ _ L.invariant.1,
    )
