use Rattle.run.proofs.Begun.{blank-plan, blank-lifted}
use Rattle.run.proofs.blank.Goals as goal

pub returns : goal.returns
returns c =
    let a = c.args in record { holds_plan = blank-plan a.links.now a.places.now a.spans.now c.blank-2.ensures c.blank-3.ensures c.blank.ensures; by_index = blank-lifted a.ol.now a.op.now a.oo.now c.blank-4.ensures c.blank-5.ensures c.blank-6.ensures }
