-- What a run left in memory, as the lines that `liftrun` prints, and the room that their text takes.
--     reply_at          a reply of the reply memory, as a line
--     replies_of        the first replies of the reply memory, as lines
--     lines_of          the lines for a reply memory and a run's four numbers: a line for each command taken, then `end`
--     end_word          the word that the last line begins with
--     byte_digits, word_digits, size_digits     the most decimal digits of a byte, of two bytes, and of eight
--     reply_line, end_line                     the most bytes in the line of a reply, and in `end`
--     long_line         bytes in the line `long`
--     room_for          bytes that are enough for the text of so many replies and `end`
use Rattle.std.specs.Prelude.{ℕ, ◌+◌, ◌*◌, List, [], ◌∷◌, ◌++◌, length}
use Rattle.paper.specs.Width.{reply_width}
use Rattle.paper.specs.Below.{list_below}
use Rattle.paper.specs.Command.{byte, word}
use Rattle.paper.specs.Print.{Line, reply, end}
use Rattle.paper.specs.declared.Ended.{Ended}

-- a reply's number is its first byte, and its value the two bytes after
abbrev pub reply_at : List ℕ → ℕ → Line
reply_at memory k = reply (byte memory (reply_width * k)) (word memory (reply_width * k + 1))

abbrev pub replies_of : List ℕ → ℕ → List Line
replies_of memory n = list_below n (reply_at memory)

unfoldable pub lines_of : List ℕ → Ended → List Line
lines_of memory e = replies_of memory e.taken ++ (end e.number e.taken e.accepted e.refused ∷ [])

abbrev pub end_word : List ℕ
end_word = 101 ∷ 110 ∷ 100 ∷ []

abbrev pub byte_digits : ℕ
byte_digits = 3

abbrev pub word_digits : ℕ
word_digits = 5

abbrev pub size_digits : ℕ
size_digits = 20

-- a number, a blank, a value and a newline
abbrev pub reply_line : ℕ
reply_line = byte_digits + 1 + word_digits + 1

-- the word, a blank and the run's number, a blank and a count three times, and a newline
abbrev pub end_line : ℕ
end_line = length end_word + (1 + byte_digits) + 3 * (1 + size_digits) + 1

abbrev pub long_line : ℕ
long_line = 5

abbrev pub room_for : ℕ → ℕ
room_for taken = reply_line * taken + end_line
