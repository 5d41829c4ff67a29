-- A command as five numbers, and lent memory with them at its start.
--     five             a command byte and four operands
--     flat_of           the command's byte and its operands in their order, 0 where there is none;
--                      an unreadable command has 0 for its byte, and its refusal's number for its operand
--     noted            the memory with them at its start, or as it was where it has no room for them
use Rattle.std.specs.Prelude.{cond, List, [], ◌∷◌, length, ℤ, pos, nat_le}
use Rattle.paper.specs.Below.{onto}
use Rattle.paper.specs.declared.Command.{Command}
use Rattle.paper.specs.declared.Command.TheVariants as command

abbrev pub five : ℤ → ℤ → ℤ → ℤ → ℤ → List ℤ
five k a b c d = k ∷ a ∷ b ∷ c ∷ d ∷ []

unfoldable pub flat_of : Command → List ℤ
flat_of (command.New dimension) = five (pos 0x10) (pos dimension) (pos 0) (pos 0) (pos 0)
flat_of command.Dart = five (pos 0x11) (pos 0) (pos 0) (pos 0) (pos 0)
flat_of (command.Sew axis a b) = five (pos 0x12) (pos axis) (pos a) (pos b) (pos 0)
flat_of (command.Unsew axis a) = five (pos 0x13) (pos axis) (pos a) (pos 0) (pos 0)
flat_of (command.Place dart axis coordinate) = five (pos 0x14) (pos dart) (pos axis) coordinate (pos 0)
flat_of (command.Span dart lo hi) = five (pos 0x15) (pos dart) lo hi (pos 0)
flat_of (command.Clear dart) = five (pos 0x16) (pos dart) (pos 0) (pos 0) (pos 0)
flat_of command.Lift = five (pos 0x17) (pos 0) (pos 0) (pos 0) (pos 0)
flat_of command.Adopt = five (pos 0x18) (pos 0) (pos 0) (pos 0) (pos 0)
flat_of (command.Count side axis) = five (pos 0x19) (pos side) (pos axis) (pos 0) (pos 0)
flat_of (command.SpanOf dart lo hi object) = five (pos 0x1A) (pos dart) lo hi (pos object)
flat_of (command.Unreadable number) = five (pos 0) (pos number) (pos 0) (pos 0) (pos 0)

unfoldable pub noted : List ℤ → List ℤ → List ℤ
noted numbers out = cond (nat_le (length numbers) (length out)) (onto numbers out) out
