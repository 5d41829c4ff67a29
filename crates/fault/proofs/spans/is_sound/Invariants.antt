use Rattle.std.proofs.Common.{◌≡◌, true}
use Rattle.paper.specs.Below.{all_below}
use Rattle.fault.specs.Fault.{sound_at}
use Rattle.fault.proofs.spans.is_sound.Given as goal

abbrev pub invariant-loop-q : goal.invariant-loop-q
invariant-loop-q l = all_below l.q (sound_at l.spans l.d l.c) ≡ true
