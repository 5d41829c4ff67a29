use Rattle.ends.specs.Key.{put_key}
use Rattle.ends.proofs.key.put_end.Goals as goal

pub returns : goal.returns
unfolding put_key
returns c = rw (c.put-2.ensures, c.put.ensures)
