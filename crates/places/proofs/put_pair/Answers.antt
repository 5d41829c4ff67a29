use Rattle.kernel.proofs.Signed.{back}
use Rattle.places.specs.Write.{put_pair}
use Rattle.places.proofs.put_pair.Goals as goal

pub returns : goal.returns
unfolding put_pair
returns c =
    rw (c.put_place-2.ensures, c.put_place.ensures, back c.args.foot c.ranges.foot.sfits, back c.args.head c.ranges.head.sfits)
