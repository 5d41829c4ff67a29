use Rattle.std.proofs.Common.{◌≡◌, ◌/◌, ◌%◌, ◌<◌, refl, arith, rules}
use Rattle.progress.specs.Reply.{replied}
use Rattle.progress.proofs.reply.write.Goals as goal

pub returns : goal.returns
unfolding replied
returns c =
    let a = c.args.answer in
    let fits : a.value < 65536 = search rules in
    let high : a.value / 256 % 256 ≡ a.value / 256 = omega arith in
    rw (c.to_be_bytes.ensures, high) refl
