use Rattle.std.proofs.Common.{refl, ◌∙◌, arith}
use Rattle.print.proofs.Lines.{none-lays, more-lays}
use Rattle.print.proofs.put_replies.Goals as goal

pub loop-k-init : goal.loop-k-init
loop-k-init c = record { same_reference = refl; kept = refl; within = omega arith; lays = none-lays c.args.replies.now c.args.out.now.memory.now c.requires.begins }

pub loop-k-preserved : goal.loop-k-preserved
loop-k-preserved c =
    let I = c.loop-k.invariant in
    let P = c.put_reply.ensures in
    record {
      same_reference = P.same_reference ∙ I.same_reference;
      kept = P.kept ∙ I.kept;
      within = omega arith;
      lays = more-lays c.args.replies.now c.loop-k.k I.lays P.lays;
    }
