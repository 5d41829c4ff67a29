use Rattle.std.proofs.Common.{◌≡◌, ℕ, ◌-◌, ◌≤◌, length}
use Rattle.carry.specs.Carried.{carried_rows}
use Rattle.carry.proofs.settle.Given as goal

abbrev pub invariant-loop-q : goal.invariant-loop-q
invariant-loop-q l = (l.from ≤ l.q) × (l.q - l.from ≤ l.to - l.from) × (length l.oo ≡ length l.initial.oo) × (l.oo ≡ carried_rows (λ (q : ℕ). l.object) l.from l.q l.initial.oo)
