use Rattle.std.proofs.Common.{◌<◌, ◌≤◌, length, ap, rules}
use Rattle.command.proofs.Noted.{full, stored}
use Rattle.command.proofs.flat.decode_into.Goals as goal

pub returns-in-Some-clause-out_after : goal.returns-in-Some-clause-out_after
returns-in-Some-clause-out_after c =
    let room : 5 ≤ length c.args.out.now = search rules in
    rw (c.flatten-numbers.ensures, ap (λ r. r.command) c.decode-read.ensures) (stored _ _ room)

pub returns-in_default-clause-out_after : goal.returns-in_default-clause-out_after
returns-in_default-clause-out_after c =
    let few : length c.args.out.now < 5 = search rules in
    full _ _ few
