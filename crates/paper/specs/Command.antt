-- The command that stands at a place of the bytes.
--     word             a big-endian number of two bytes
--     signed           a big-endian number of four bytes, two's complement
--     operands         a command with so many bytes of operands, or 2 where they are cut short
--     Form, forms      how each command is written
--     read_by           the command that a byte and the operands behind it make
--     read_at           the command at a place, with the place of the byte after it
use Rattle.std.specs.Prelude.{ℕ, ◌+◌, ◌-◌, ◌*◌, cond, List, [], ◌∷◌, length, ℤ, pos, negsuc, ◌==◌, nat_le, nat_lt, slice_index}
use Rattle.paper.specs.Width.{byte_limit, word_limit}
use Rattle.paper.specs.declared.Command.{Command}
use Rattle.paper.specs.declared.Command.TheVariants as command
use Rattle.paper.specs.declared.Read.{Read}
use Rattle.paper.specs.Refusal.{number}
use Rattle.paper.specs.declared.refusal.Refusal.TheVariants.{UnknownCommand, CutShort}

abbrev pub byte : List ℕ → ℕ → ℕ
byte s p = slice_index s p

abbrev pub word : List ℕ → ℕ → ℕ
word s p = byte s p * byte_limit + byte s (p + 1)

-- two's complement at 32 bits
unfoldable pub signed_of : ℕ → ℤ
signed_of u = cond (nat_lt u 2147483648) (pos u) (negsuc (4294967295 - u))

abbrev pub signed : List ℕ → ℕ → ℤ
signed s p = signed_of (word s p * word_limit + word s (p + 2))

-- An unreadable command has its refusal's number, and its place is the end of the bytes.
abbrev pub unreadable : List ℕ → ℕ → Read
unreadable s n = record { command = command.Unreadable n; next = length s }

abbrev pub operands : List ℕ → ℕ → ℕ → Command → Read
operands s p k c = cond (nat_le (p + k) (length s)) (record { command = c; next = p + k }) (unreadable s (number CutShort))

-- How a command is written: its byte, how many bytes of operands follow it, and the command that they make from a place on.
pub record Form : Type 0 where
  pub opcode : ℕ
  pub width : ℕ
  pub makes : List ℕ → ℕ → Command

abbrev form : ℕ → ℕ → (List ℕ → ℕ → Command) → Form
form op k f = record { opcode = op; width = k; makes = f }

-- document 01's ten commands, and SPAN of an object
abbrev pub forms : List Form
forms =
    form 0x10 1 (λ s p. command.New (byte s p))
    ∷ form 0x11 0 (λ s p. command.Dart)
    ∷ form 0x12 5 (λ s p. command.Sew (byte s p) (word s (p + 1)) (word s (p + 3)))
    ∷ form 0x13 3 (λ s p. command.Unsew (byte s p) (word s (p + 1)))
    ∷ form 0x14 7 (λ s p. command.Place (word s p) (byte s (p + 2)) (signed s (p + 3)))
    ∷ form 0x15 10 (λ s p. command.Span (word s p) (signed s (p + 2)) (signed s (p + 6)))
    ∷ form 0x16 2 (λ s p. command.Clear (word s p))
    ∷ form 0x17 0 (λ s p. command.Lift)
    ∷ form 0x18 0 (λ s p. command.Adopt)
    ∷ form 0x19 2 (λ s p. command.Count (byte s p) (byte s (p + 1)))
    ∷ form 0x1A 12 (λ s p. command.SpanOf (word s p) (signed s (p + 2)) (signed s (p + 6)) (word s (p + 10)))
    ∷ []

-- the command of a command byte, by the first form that has it, with its operands from p on
unfoldable pub read_by : List Form → List ℕ → ℕ → ℕ → Read
read_by [] s op p = unreadable s (number UnknownCommand)
read_by (f ∷ l) s op p = let rest = read_by l s op p in cond (op == f.opcode) (operands s p f.width (f.makes s p)) rest

unfoldable pub read_after : List ℕ → ℕ → ℕ → Read
unfolding read_by
read_after s op p = read_by forms s op p

-- Past the last byte a command is cut short before it begins.
unfoldable pub read_at : List ℕ → ℕ → Read
read_at s p = cond (nat_le (length s) p) (unreadable s (number CutShort)) (read_after s (byte s p) (p + 1))
