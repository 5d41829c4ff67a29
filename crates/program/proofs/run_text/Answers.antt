use Rattle.std.proofs.Common.{length, refl, ap, ◌∙◌, le_trans, arith}
use Rattle.paper.specs.Below.{onto}
use Rattle.paper.specs.Table.{plan_capacity, lifted_capacity}
use Rattle.program.proofs.Printed.{ran-asks, ran-told}
use Rattle.program.proofs.run_text.Goals as goal

pub print-requires : goal.print-requires
print-requires c =
    let r = c.run-ended in
    let a = ran-asks r.ensures refl r.auto.replies in
    let room = c.requires.1 in
    (a.0, le_trans a.1 room)

pub returns : goal.returns
unfolding plan_capacity lifted_capacity
returns c =
    let p = c.print in
    let r = c.run-ended in
    let e = ran-told r.ensures refl c.requires.0 refl refl in
    let a = (ran-asks r.ensures refl r.auto.replies).1 in
    let k = p.ensures.within in
    record { told = p.ensures.told ∙ ap length e; memory = p.ensures.memory ∙ ap (λ t. onto t c.args.out.now) e; within = omega arith }
