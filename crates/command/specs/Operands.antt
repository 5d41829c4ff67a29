-- What a command byte tells by itself, by the first form that has it.
--     width_by, command_by         the two below, over any list of forms
--     operand_width     how many bytes of operands a command has, None where the byte is no command's
--     command_of        the command, with its operands from p on
use Rattle.std.specs.Prelude.{ℕ, cond, List, [], ◌∷◌, ◌==◌, Option, Some, None}
use Rattle.paper.specs.Command.{Form, forms}
use Rattle.paper.specs.Refusal.{number}
use Rattle.paper.specs.declared.refusal.Refusal.TheVariants.{UnknownCommand}
use Rattle.paper.specs.declared.Command.{Command}
use Rattle.paper.specs.declared.Command.TheVariants as command

unfoldable pub width_by : List Form → ℕ → Option ℕ
width_by [] op = None
width_by (f ∷ l) op = let rest = width_by l op in cond (op == f.opcode) (Some f.width) rest

unfoldable pub operand_width : ℕ → Option ℕ
unfolding width_by
operand_width op = width_by forms op

abbrev pub command_by : List Form → List ℕ → ℕ → ℕ → Command
command_by [] s op p = command.Unreadable (number UnknownCommand)
command_by (f ∷ l) s op p = cond (op == f.opcode) (f.makes s p) (command_by l s op p)

abbrev pub command_of : List ℕ → ℕ → ℕ → Command
command_of s op p = command_by forms s op p
