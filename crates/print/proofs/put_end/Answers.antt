use Rattle.print.proofs.Laid.{lays_more}
use Rattle.print.proofs.Lines.{end-lays}
use Rattle.print.proofs.put_end.Goals as goal

pub returns-clause-lays : goal.returns-clause-lays
returns-clause-lays c =
    let e = c.args.ended in
    end-lays c.from.result e.number e.taken e.accepted e.refused c.from.ensures
    (lays_more
    (lays_more
    (lays_more
    (lays_more (lays_more c.push.ensures.lays c.spaced.ensures.lays) c.spaced-2.ensures.lays)
    c.spaced-3.ensures.lays)
    c.spaced-4.ensures.lays)
    c.push-2.ensures.lays)
