-- What `liftrun` prints, from what a run leaves in memory of the sizes that it lends.
--     liftrun-long     for an input that is too long
--     liftrun-run      for any other
--     liftrun-asks, liftrun-told     what printing asks for, and what it tells, by what a run gives
use Rattle.std.proofs.Common.{◌≡◌, ℕ, ◌*◌, ◌/◌, ◌<◌, ◌≤◌, List, [], ◌∷◌, length, ap, ◌∙◌, arith, le-ltb, lt-ltb}
use Rattle.paper.specs.Width.{reply_width, input_limit, plan_room, lifted_room, reply_room}
use Rattle.paper.specs.Table.{plan_capacity, lifted_capacity}
use Rattle.paper.specs.Run.{Lent, run, run_in, left}
use Rattle.paper.specs.Print.{long, lines, liftrun, text}
use Rattle.paper.specs.declared.Ended.{Ended}
use Rattle.print.specs.Lines.{lines_of, room_for}
use Rattle.print.proofs.Printed.{run-printed, replies-there}

pub liftrun-long : (bytes : List ℕ) → input_limit < length bytes → liftrun bytes ≡ long ∷ []
unfolding liftrun
liftrun-long bytes h = rw (lt-ltb input_limit (length bytes) h, liftrun)

module _ (bytes : List ℕ) (L : Lent) where
  pub liftrun-run : length bytes ≤ input_limit → plan_capacity L.plan ≡ plan_room → lifted_capacity L.lifted ≡ lifted_room → length L.memory ≡ reply_room
      → text (lines_of (left bytes L).memory (left bytes L).ended) ≡ text (liftrun bytes)
  unfolding liftrun run_in
  liftrun-run h p l m = run-printed bytes L ∙ ap (λ o. text (lines o)) (λ i. run bytes (p i) (l i) (m i)) ∙ ap text (rw (le-ltb input_limit (length bytes) h, liftrun))

-- a run in memory of those sizes, by what it gives: its four numbers e, and its reply memory m
module _ (bytes : List ℕ) (L : Lent) (e : Ended) (m : List ℕ) (gives : e ≡ (left bytes L).ended) (size : length L.memory ≡ reply_room) where
  pub liftrun-asks : length m ≡ length L.memory → (reply_width * e.taken ≤ length m) × (room_for e.taken ≤ room_for (reply_room / reply_width))
  liftrun-asks k = let h = replies-there bytes L in let t = ap (λ (x : Ended). x.taken) gives in (omega arith, omega arith)

  pub liftrun-told : m ≡ (left bytes L).memory → length bytes ≤ input_limit → plan_capacity L.plan ≡ plan_room → lifted_capacity L.lifted ≡ lifted_room
      → text (lines_of m e) ≡ text (liftrun bytes)
  liftrun-told k h p l = (λ i. text (lines_of (k i) (gives i))) ∙ liftrun-run bytes L h p l size
