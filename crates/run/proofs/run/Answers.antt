use Rattle.std.proofs.Common.{length, sym, ◌∙◌}
use Rattle.paper.specs.Table.{plan_capacity, lifted_capacity}
use Rattle.run.proofs.Begun.{ran-lent}
use Rattle.run.proofs.run.Goals as goal

pub shape_of-links : goal.shape_of-links
shape_of-links c = c.take_all.auto.links ∙ c.blank.auto.links

pub shape_of-places : goal.shape_of-places
shape_of-places c = c.take_all.auto.places ∙ c.blank.auto.places

pub shape_of-spans : goal.shape_of-spans
shape_of-spans c = c.take_all.auto.spans ∙ c.blank.auto.spans

pub shape_of-ol : goal.shape_of-ol
shape_of-ol c = c.take_all.auto.ol ∙ c.blank.auto.ol

pub shape_of-op : goal.shape_of-op
shape_of-op c = c.take_all.auto.op ∙ c.blank.auto.op

pub shape_of-oo : goal.shape_of-oo
shape_of-oo c = c.take_all.auto.oo ∙ c.blank.auto.oo

pub take_all-requires : goal.take_all-requires
take_all-requires c =
    let a = c.args in
    let B = c.blank in
    let k = B.auto in
    record {
      plan = B.ensures.holds_plan;
      lifted = B.ensures.by_index _;
      room_is =
          (λ i. plan_capacity (record { links = k.links i; places = k.places i; spans = k.spans i; work = length a.w.now }))
          ∙ sym c.plan-room.ensures;
      lroom_is =
          (λ i. lifted_capacity (record { links = k.ol i; places = k.op i; objects = k.oo i; work = length a.v.now }))
          ∙ sym c.lifted-lroom.ensures;
    }

pub returns : goal.returns
returns c =
    let a = c.args in
    let k = c.blank.auto in
    ran-lent
    (λ i. record {
      plan = record { links = k.links i; places = k.places i; spans = k.spans i; work = length a.w.now };
      lifted = record { links = k.ol i; places = k.op i; objects = k.oo i; work = length a.v.now };
      memory = a.replies.now;
    })
    c.take_all.ensures
