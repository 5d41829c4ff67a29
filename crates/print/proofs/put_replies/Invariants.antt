use Rattle.std.proofs.Common.{◌≡◌, ◌*◌, ◌≤◌, length}
use Rattle.paper.specs.Print.{text}
use Rattle.print.specs.Laid.{Lays}
use Rattle.print.specs.Lines.{replies_of, reply_line}
use Rattle.print.proofs.put_replies.Given as goal

abbrev pub invariant-loop-k : goal.invariant-loop-k
invariant-loop-k l = record {
  same_reference : l.out.memory.ghost_name ≡ l.initial.out.memory.ghost_name;
  kept : length l.out.memory.now ≡ length l.initial.out.memory.now;
  within : l.out.len ≤ reply_line * l.k;
  lays : Lays 0 (text (replies_of l.replies l.k)) l.initial.out.memory.now l.out.len l.out.memory.now;
}
