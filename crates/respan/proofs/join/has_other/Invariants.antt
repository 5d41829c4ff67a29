use Rattle.std.proofs.Common.{◌≡◌, ◌+◌, ◌-◌, take, drop}
use Rattle.paper.specs.Below.{any_of}
use Rattle.paper.specs.Table.{owned_at}
use Rattle.respan.specs.Cell.{is_other}
use Rattle.respan.proofs.join.has_other.Given as goal

abbrev pub invariant-loop-j : goal.invariant-loop-j
invariant-loop-j l =
    let r = owned_at l.spans l.d in
    any_of (is_other l.object) (take (l.a + l.b - l.j) (drop l.j r)) ≡ any_of (is_other l.object) (take l.b (drop l.a r))
