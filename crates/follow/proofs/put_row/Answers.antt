use Rattle.follow.specs.Fill.{put_links}
use Rattle.follow.proofs.put_row.Goals as goal

pub returns : goal.returns
unfolding put_links
returns c =
    rw (c.put-6.ensures, c.put-5.ensures, c.put-4.ensures, c.put-3.ensures, c.put-2.ensures, c.put.ensures)
