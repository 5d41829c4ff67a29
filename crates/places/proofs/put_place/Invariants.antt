use Rattle.std.proofs.Common.{◌≡◌, ◌≤◌, length}
use Rattle.paper.specs.Width.{place_width}
use Rattle.places.specs.Write.{put_coords}
use Rattle.places.proofs.put_place.Given as goal

abbrev pub invariant-loop-a : goal.invariant-loop-a
invariant-loop-a l = (l.a ≤ place_width) × (length l.op ≡ length l.initial.op) × (l.op ≡ put_coords l.a l.places l.d l.m l.t l.x l.initial.op)
