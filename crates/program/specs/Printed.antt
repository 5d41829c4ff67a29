-- What `liftrun` writes, in lent memory.
--     text_room         bytes that are enough for the text of any input: a line for each reply that has room in the reply memory, and `end`
--     printed          what is written for an input: its text, or nothing where the memory is shorter than that
use Rattle.std.specs.Prelude.{ℕ, ◌/◌, cond, List, [], length, nat_le}
use Rattle.paper.specs.Width.{reply_width, reply_room}
use Rattle.paper.specs.Print.{liftrun, text}
use Rattle.print.specs.Lines.{room_for}

abbrev pub text_room : ℕ
text_room = room_for (reply_room / reply_width)

unfoldable pub printed : List ℕ → List ℕ → List ℕ
printed bytes out = cond (nat_le text_room (length out)) (text (liftrun bytes)) []
