-- What is printed for an input.
--     printed-none     nothing where lent memory is shorter than the longest text
--     printed-text     the input's text where it is not
--     ran-asks         what a run in as much reply memory as `liftrun` lends leaves can be printed
--     ran-told         and where the capacities are `liftrun`'s too, its text is the input's
use Rattle.std.proofs.Common.{◌≡◌, ℕ, ◌*◌, ◌<◌, ◌≤◌, List, [], length, le-leb}
use borrow.Author.Tests.{lt-leb}
use Rattle.paper.specs.Width.{input_limit, plan_room, lifted_room, reply_width, reply_room}
use Rattle.paper.specs.Table.{Tables, LiftedTables, plan_capacity, lifted_capacity}
use Rattle.paper.specs.Run.{Lent}
use Rattle.paper.specs.Print.{liftrun, text}
use Rattle.paper.specs.declared.Ended.{Ended}
use Rattle.run.specs.Ran.{Ran}
use Rattle.print.specs.Lines.{lines_of, room_for}
use Rattle.print.proofs.Liftrun.{liftrun-asks, liftrun-told}
use Rattle.program.specs.Printed.{text_room, printed}

module _ (bytes out : List ℕ) where
  pub printed-none : length out < text_room → printed bytes out ≡ []
  unfolding printed
  printed-none h = rw (lt-leb text_room (length out) h)

  pub printed-text : text_room ≤ length out → printed bytes out ≡ text (liftrun bytes)
  unfolding printed
  printed-text h = rw (le-leb text_room (length out) h)

module _ {bytes : List ℕ} {L : Lent} {r : Ended} {T : Tables} {O : LiftedTables} {memory : List ℕ} (X : Ran bytes L r T O memory) (size : length L.memory ≡ reply_room) where
  pub ran-asks : length memory ≡ length L.memory → (reply_width * r.taken ≤ length memory) × (room_for r.taken ≤ text_room)
  ran-asks = liftrun-asks bytes L r memory X.ended size

  pub ran-told : length bytes ≤ input_limit → plan_capacity L.plan ≡ plan_room → lifted_capacity L.lifted ≡ lifted_room
      → text (lines_of memory r) ≡ text (liftrun bytes)
  ran-told = liftrun-told bytes L r memory X.ended size X.replies
