use Rattle.std.proofs.Common.{◌≡◌, ◌+◌, ◌≤◌, length}
use Rattle.ends.specs.Join.{Copied}
use Rattle.ends.proofs.join.copy_below.Given as goal

abbrev pub invariant-loop-k : goal.invariant-loop-k
invariant-loop-k l = (l.i + l.k ≤ l.n) × ((l.m + l.k ≤ l.room) × ((length l.v ≡ length l.initial.v) × Copied l.initial.v l.p l.n l.room l.i l.m l.y l.v l.k))
