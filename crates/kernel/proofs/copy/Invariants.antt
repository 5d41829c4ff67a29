use Rattle.std.proofs.Common.{◌≡◌}
use Rattle.kernel.specs.Copy.{copied}
use Rattle.kernel.proofs.copy.Given as goal

abbrev pub invariant-loop-i : goal.invariant-loop-i
invariant-loop-i g l = l.to ≡ copied l.i l.from l.initial.to
