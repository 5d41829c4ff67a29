-- The two commands that are the only ones of their kind.
--     Apart            a command is LIFT, an unreadable one, or neither writes the lifted map nor ends the run
--     apart            each is one of these
--     is-lift          what writes the lifted map is LIFT
use Rattle.std.proofs.Common.{◌≡◌, ℕ, true, false, refl}
use Rattle.paper.specs.Step.{is_lift, is_run_end}
use Rattle.paper.specs.declared.Command.{Command}
use Rattle.paper.specs.declared.Command.TheVariants as command
use Rattle.theory.proofs.Bool.{clash}

pub data Apart : Command → Type 0 where
  the-lift : Apart command.Lift
  the-unreadable : (n : ℕ) → Apart (command.Unreadable n)
  the_others : {c : Command} → is_lift c ≡ false → is_run_end c ≡ false → Apart c

pub apart : (c : Command) → Apart c
apart (command.New m) = the_others refl refl
apart command.Dart = the_others refl refl
apart (command.Sew i a b) = the_others refl refl
apart (command.Unsew i a) = the_others refl refl
apart (command.Place d x z) = the_others refl refl
apart (command.Span d lo hi) = the_others refl refl
apart (command.SpanOf d lo hi object) = the_others refl refl
apart (command.Clear d) = the_others refl refl
apart command.Lift = the-lift
apart command.Adopt = the_others refl refl
apart (command.Count x i) = the_others refl refl
apart (command.Unreadable n) = the-unreadable n

pub is-lift : {c : Command} → Apart c → is_lift c ≡ true → c ≡ command.Lift
is-lift the-lift e = refl
is-lift (the-unreadable n) e = absurd (clash e refl)
is-lift (the_others f g) e = absurd (clash e f)
