use Rattle.laremban.proofs.laremban_run.Goals as goal

pub returns : goal.returns
returns c = c.run.ensures
