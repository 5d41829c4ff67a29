use Rattle.std.proofs.Common.{◌≡◌, ◌≤◌, length}
use Rattle.kernel.specs.Blank.{filled}
use Rattle.kernel.proofs.clear.Given as goal

abbrev pub invariant-loop-i : goal.invariant-loop-i
invariant-loop-i g l = (l.i ≤ l.to) × (length l.s ≡ length l.initial.s) × (l.s ≡ filled l.value l.from l.i l.initial.s)
