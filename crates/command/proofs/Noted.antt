-- The five numbers at the start of lent memory.
--     are_five         they are five
--     full             the memory has no room for them
--     stored           it has room
use Rattle.std.proofs.Common.{◌≡◌, ◌<◌, ◌≤◌, List, ◌++◌, length, drop, ℤ, refl, le-leb}
use borrow.Author.Tests.{lt-leb}
use Rattle.paper.specs.declared.Command.{Command}
use Rattle.paper.specs.declared.Command.TheVariants as command
use Rattle.command.specs.Flat.{flat_of, noted}

are_five : (c : Command) → length (flat_of c) ≡ 5
unfolding flat_of
are_five (command.New dimension) = refl
are_five command.Dart = refl
are_five (command.Sew axis a b) = refl
are_five (command.Unsew axis a) = refl
are_five (command.Place dart axis coordinate) = refl
are_five (command.Span dart lo hi) = refl
are_five (command.Clear dart) = refl
are_five command.Lift = refl
are_five command.Adopt = refl
are_five (command.Count side axis) = refl
are_five (command.SpanOf dart lo hi object) = refl
are_five (command.Unreadable number) = refl

pub full : (c : Command) (s : List ℤ) → length s < 5 → s ≡ noted (flat_of c) s
unfolding noted
full c s h = rw (are_five c, lt-leb 5 (length s) h)

pub stored : (c : Command) (s : List ℤ) → 5 ≤ length s → flat_of c ++ drop 5 s ≡ noted (flat_of c) s
unfolding noted
stored c s h = rw (are_five c, le-leb 5 (length s) h)
