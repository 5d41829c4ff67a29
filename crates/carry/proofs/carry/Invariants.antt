use Rattle.std.proofs.Common.{◌≡◌, ◌-◌, ◌%◌, ◌≤◌, length}
use Rattle.carry.specs.Carried.{from_of, carried_all, settled, DueIn}
use Rattle.carry.proofs.carry.Given as goal

-- with the rows that are due, the table is as far as the darts
abbrev pub invariant-loop-d : goal.invariant-loop-d
invariant-loop-d l =
    (l.d ≤ l.n) × (length l.oo ≡ length l.initial.oo) × DueIn l.due (length l.oo) × (l.due.to ≡ from_of l.spans l.w l.n (l.m % 2) l.d) × (settled l.due l.oo ≡ carried_all l.spans l.op l.w l.m l.n l.d l.initial.oo)
