-- Demand 3, as one statement about every list of commands: what is found after a run on paper, and what was done.
-- room and lroom are the capacities of the plan and of the lifted side, memory is the length of the reply memory.
use Rattle.std.specs.Prelude.{◌≡◌, ℕ, ◌+◌, ◌*◌, ◌<◌, ◌≤◌, min, List, [], length, slice_index}
use Rattle.paper.specs.Width.{dart_limit, dim_limit, reply_width, byte_limit, word_limit, object_limit}
use Rattle.paper.specs.Map.{count, owned}
use Rattle.paper.specs.Cell.{Cell}
use Rattle.paper.specs.Valid.{Valid}
use Rattle.paper.specs.Run.{blanks, start, room_of, run, reply_bytes}
use Rattle.paper.specs.declared.Answer.{Answer}
use Rattle.theory.specs.Member.{◌∈◌}
use Rattle.theory.specs.Piece.{PiecesOf}
use Rattle.theory.specs.History.{commands, replies_from, accepted_of, refused_of, edits_from, applied, LastLift}
use Rattle.theory.specs.Over.{Over}
use Rattle.theory.specs.Fit.{ObjectsFit}

pub record Found (bytes : List ℕ) (room lroom memory : ℕ) : Type 0 where
  -- What is found. In plan and lifted map alike every link undoes itself, every two links two or more axes apart, taken together,
  -- undo themselves, corner darts agree on place and top-cell darts on spans with their objects.
  pub plan_valid : Valid (run bytes room lroom memory).plan
  pub lifted_valid : Valid (run bytes room lroom memory).lifted
  -- The lifted map has no spans.
  pub lifted_bare : (d : ℕ) → d < count (run bytes room lroom memory).lifted → owned (run bytes room lroom memory).lifted d ≡ []
  -- Each lifted dart carries an object, and all darts of a lifted top cell the same one.
  pub lifted_objects : length (run bytes room lroom memory).objects ≡ count (run bytes room lroom memory).lifted
  pub lifted_shared : (d e : ℕ) → d < count (run bytes room lroom memory).lifted
      → Cell (run bytes room lroom memory).lifted (run bytes room lroom memory).lifted.dim d e
      → slice_index (run bytes room lroom memory).objects d ≡ slice_index (run bytes room lroom memory).objects e
  -- Both maps are within capacity, and of dimension 5 at most.
  pub plan_fits : count (run bytes room lroom memory).plan ≤ min room dart_limit
  pub lifted_fits : count (run bytes room lroom memory).lifted ≤ min lroom dart_limit
  pub plan_dim : (run bytes room lroom memory).plan.dim ≤ dim_limit
  pub lifted_dim : (run bytes room lroom memory).lifted.dim ≤ dim_limit
  -- Around each plan cell with r spans, r at least 1, the pieces do not overlap, cover exactly what the spans cover and number at most 2r - 1.
  pub pieces : (k d : ℕ) → k ≤ (run bytes room lroom memory).plan.dim → d < count (run bytes room lroom memory).plan → PiecesOf (run bytes room lroom memory).plan k d
  -- What was done. The run comes to its outcome, and takes these commands, by document 01's rules alone: no byte left, no room for a reply,
  -- an unreadable command; nothing else ends it.
  pub over : Over (room_of room lroom memory) bytes 0 start (commands bytes memory) (run bytes room lroom memory)
  -- The replies are those to the commands read, each on the maps as the one before left them, and have room: three bytes each.
  pub replies : (run bytes room lroom memory).replies ≡ replies_from (room_of room lroom memory) blanks (commands bytes memory)
  pub replies_bytes : length (reply_bytes (run bytes room lroom memory).replies) ≡ reply_width * (run bytes room lroom memory).ended.taken
  pub replies_fit : reply_width * (run bytes room lroom memory).ended.taken ≤ memory
  -- Replies fit: each number is below 256 and each value below 65,536, so that the reply bytes are bytes.
  pub replies_small : (a : Answer) → a ∈ (run bytes room lroom memory).replies → (a.number < byte_limit) × (a.value < word_limit)
  pub replies_are_bytes : (b : ℕ) → b ∈ reply_bytes (run bytes room lroom memory).replies → b < byte_limit
  -- Objects fit, too, where the bytes are bytes: each of the plan's rows, and each that a lifted dart carries, is below 65,536.
  pub plan_objects : ((b : ℕ) → b ∈ bytes → b < byte_limit) → ObjectsFit (run bytes room lroom memory).plan
  pub objects_small : ((b : ℕ) → b ∈ bytes → b < byte_limit) → (q : ℕ) → q < count (run bytes room lroom memory).lifted
      → slice_index (run bytes room lroom memory).objects q < object_limit
  -- The plan is its accepted edits in order, each doing what stands at its command.
  pub plan_edits : (run bytes room lroom memory).plan ≡ applied blanks.plan (edits_from (room_of room lroom memory) blanks (commands bytes memory))
  -- The lifted map is the lift of the plan as it stood at the last accepted lift, and its objects are those that the darts of that lift carry;
  -- blank before one.
  pub lifted_lift : LastLift (room_of room lroom memory) blanks (commands bytes memory) (run bytes room lroom memory).lifted (run bytes room lroom memory).objects
  -- Commands taken = accepted + refused; accepted counts the replies with number 0, refused the others.
  pub taken : (run bytes room lroom memory).ended.taken ≡ length (commands bytes memory)
  pub accounts : (run bytes room lroom memory).ended.taken ≡ (run bytes room lroom memory).ended.accepted + (run bytes room lroom memory).ended.refused
  pub accepted : (run bytes room lroom memory).ended.accepted ≡ accepted_of (run bytes room lroom memory).replies
  pub refused : (run bytes room lroom memory).ended.refused ≡ refused_of (run bytes room lroom memory).replies
