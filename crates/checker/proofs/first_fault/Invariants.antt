use Rattle.std.proofs.Common.{◌≡◌, ◌+◌, ◌-◌}
use Rattle.fault.specs.Fault.{fault_of, first_from, Tried}
use Rattle.checker.proofs.first_fault.Given as goal

-- The refusals before this one are met by no dart: those from it on decide.
abbrev pub invariant-loop-refusal : goal.invariant-loop-refusal
invariant-loop-refusal l =
    Tried (6 + l.refusal-index) l.links l.places l.spans l.m l.n
    × (first_from (12 - (6 + l.refusal-index)) (6 + l.refusal-index) (λ j. fault_of j l.links l.places l.spans l.m l.n) l.n ≡ first_from 6 6 (λ j. fault_of j l.links l.places l.spans l.m l.n) l.n)
