-- The reply to an unreadable command.
--     unread-one, unread-other    by its number: 1, or else 2
use Rattle.std.proofs.Common.{◌≡◌, ℕ, refl, eq-eqb, ne_eqb}
use Rattle.paper.specs.Refusal.{number, answer, judge, accept}
use Rattle.paper.specs.declared.refusal.Refusal.TheVariants.{UnknownCommand, CutShort}
use Rattle.paper.specs.Step.{Maps, Room, refusals, reply}
use Rattle.paper.specs.declared.Command.TheVariants as command

module _ (R : Room) (s : Maps) (n : ℕ) where
  pub unread-one : n ≡ number UnknownCommand → answer (number UnknownCommand) 0 ≡ reply R s (command.Unreadable n)
  unfolding reply refusals judge accept
  unread-one e = rw (eq-eqb n 1 e) refl

  pub unread-other : (n ≡ number UnknownCommand → ⊥) → answer (number CutShort) 0 ≡ reply R s (command.Unreadable n)
  unfolding reply refusals judge accept
  unread-other f = rw (ne_eqb n 1 f) refl
