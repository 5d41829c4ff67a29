-- A command that its admission refuses: the answer is that refusal, and the tables stay.
--     nonzero          no refusal has the number 0
--     refused-edit     a command on the plan
--     refused-size     a size that would be another if it were accepted
use Rattle.std.proofs.Common.{◌≡◌, ℕ, List, ℤ, Result, Ok, Err, ap, ◌∙◌, arith, ne_eqb}
use Rattle.std.specs.Prelude.{if◌then◌else◌}
use Rattle.std.specs.Result.{IsErrAnd}
use Rattle.paper.specs.Refusal.{number, answer, answer_of, judge, accepted}
use Rattle.paper.specs.Step.{Maps, Room, refusals}
use Rattle.paper.specs.declared.Command.{Command}
use Rattle.paper.specs.declared.refusal.Refusal.{Refusal}
use Rattle.theory.proofs.Judge.{number-within}
use Rattle.hold.specs.Hold.{HoldsPlan}
use Rattle.hold.specs.Stand.{Edited}
use Rattle.hold.proofs.Stand.{edit-refused}

pub nonzero : (r : Refusal) → number r ≡ 0 → ⊥
nonzero r e = let h = (number-within r).0 in omega arith

pub refused-edit : {R : Room} {s : Maps} {c : Command} {m n : ℕ} {ls : List ℕ} {ps ss : List ℤ} (r : Result ℕ Refusal) (why : Refusal)
    → IsErrAnd r (λ x. x ≡ why) → HoldsPlan s.plan m n ls ps ss → number why ≡ (judge 0 (refusals R s c)).number → Edited R s c (answer_of r) m n ls ps ss
refused-edit (Ok v) why f H e = absurd f
refused-edit {R} {s} {c} (Err x) why f H e =
    let p = ap number f ∙ e in edit-refused R s c H (λ z. nonzero x (p ∙ z)) (ap (λ k. answer k 0) p)

pub refused-size : (r : Result ℕ Refusal) (why : Refusal) → IsErrAnd r (λ x. x ≡ why) → (a b : ℕ) → (if accepted (answer_of r) then a else b) ≡ b
refused-size (Ok v) why f a b = absurd f
refused-size (Err x) why f a b = rw (ne_eqb (number x) 0 (nonzero x))
