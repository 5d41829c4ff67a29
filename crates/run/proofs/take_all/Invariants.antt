use Rattle.std.proofs.Common.{◌-◌, length}
use Rattle.paper.specs.Run.{run_in}
use Rattle.paper.specs.Table.{lent, lent_lifted}
use Rattle.run.specs.Going.{Going}
use Rattle.run.specs.Ran.{lent_to_run, room_in}
use Rattle.run.proofs.Kept.{Kept}
use Rattle.run.proofs.take_all.Given as goal

abbrev pub invariant-loop-links : goal.invariant-loop-links
invariant-loop-links l =
    let T₀ = lent l.initial.links l.initial.places l.initial.spans (length l.initial.w) in
    let O₀ = lent_lifted l.initial.ol l.initial.op l.initial.oo (length l.initial.v) in
    let T = lent l.links l.places l.spans (length l.w) in
    let O = lent_lifted l.ol l.op l.oo (length l.v) in
    Kept T₀ O₀ l.initial.replies T O l.replies × Going l.bytes (room_in (lent_to_run T₀ O₀ l.initial.replies)) (run_in l.bytes (lent_to_run T₀ O₀ l.initial.replies)) l.initial.replies l.p l.room l.lroom T O l.replies

abbrev pub decreases-loop-links : goal.decreases-loop-links
decreases-loop-links l =
    length l.bytes - l.p.at
