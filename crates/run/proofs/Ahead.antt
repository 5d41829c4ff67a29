-- Where a run goes from a place of the bytes: one command more, or its end.
--     ahead-on         a command more is taken
--     ahead-end        it does not go on
use Rattle.std.proofs.Common.{◌≡◌, ℕ, ◌<◌, ◌≤◌, true, false, cond, ltb, ◌⊎◌, List, length, refl, ap, ◌∙◌, inl, inr, arith, le-ltb, lt-ltb, ne_eqb}
use native.Mathlib.Decide.{ℕ_discrete}
use Rattle.std.specs.Prelude.{Option}
use Rattle.std.specs.Option.{unwrap_or}
use Rattle.paper.specs.Refusal.{number}
use Rattle.paper.specs.declared.refusal.Refusal.TheVariants.{UnknownCommand, CutShort, RepliesFull}
use Rattle.paper.specs.Command.{read_at}
use Rattle.paper.specs.Step.{Maps, Room, reply, is_run_end}
use Rattle.paper.specs.Run.{State, took, Outcome, outcome, full}
use Rattle.paper.specs.declared.Command.{Command}
use Rattle.theory.specs.Over.{no_byte, no_room, unread, more}
use Rattle.theory.proofs.Bool.{clash}
use Rattle.theory.proofs.Kind.{Apart, the-lift, the-unreadable, the_others, apart}
use Rattle.theory.proofs.Over.{unread-end}
use Rattle.command.proofs.Unread.{unread-one, unread-other}
use Rattle.run.specs.Going.{Ahead, on, over}
use Rattle.progress.specs.Progress.{stops}

-- the number by which it ends a run is not 0
unread-number : (R : Room) (s : Maps) {c : Command} → Apart c → is_run_end c ≡ true → (reply R s c).number ≡ 0 → ⊥
unread-number R s the-lift e z = clash e refl
unread-number R s (the_others f g) e z = clash e g
unread-number R s (the-unreadable n) e z = elim (ℕ_discrete n (number UnknownCommand)) [
  | yes q ↦ (let a : number UnknownCommand ≡ 0 = ap (λ r. r.number) (unread-one R s n q) ∙ z in omega arith)
  | no f ↦ (let a : number CutShort ≡ 0 = ap (λ r. r.number) (unread-other R s n f) ∙ z in omega arith)
]

-- ---- the run from a place
module _ (R : Room) (bytes : List ℕ) (p : ℕ) (s : State) where
  abbrev c : Command
  c = (read_at bytes p).command

  pub ahead-on : {k : Option ℕ} {o : Outcome} → p < length bytes → full R s ≡ false → Ahead R bytes p s k o
      → Ahead R bytes (read_at bytes p).next (took R s c) (stops c (reply R s.maps c).number) o
  ahead-on l f (on (no_byte h)) = absurd (omega arith)
  ahead-on l f (on (no_room k e)) = absurd (clash e f)
  ahead-on l f (on (unread k e g)) =
      let n = (reply R s.maps c).number in
      let h = unread-number R s.maps (apart c) g in
      rw (g, ne_eqb n 0 h) (over h (unread-end bytes p g))
  ahead-on l f (on (more k e g d)) = rw g (on d)
  ahead-on l f (over g h) = absurd (omega arith)

  pub ahead-end : {k : Option ℕ} {o : Outcome} → (length bytes ≤ p) ⊎ (full R s ≡ true) → Ahead R bytes p s k o
      → o ≡ outcome (unwrap_or k (cond (ltb p (length bytes)) (number RepliesFull) 0)) s
  ahead-end x (on (no_byte h)) = rw (le-ltb p (length bytes) h) refl
  ahead-end x (on (no_room l f)) = rw (lt-ltb p (length bytes) l) refl
  ahead-end (inl h) (on (unread l f g)) = absurd (omega arith)
  ahead-end (inr e) (on (unread l f g)) = absurd (clash e f)
  ahead-end (inl h) (on (more l f g d)) = absurd (omega arith)
  ahead-end (inr e) (on (more l f g d)) = absurd (clash e f)
  ahead-end x (over f h) = refl
