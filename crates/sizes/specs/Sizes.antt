-- The sizes of both maps, and those after a command.
--     sizes, stepped   the four sizes, and a reply with the sizes after it, as the code has them
--     replanned        the sizes after a command that gives the plan dimension m and n darts, where it is accepted
--     relifted         those after LIFT: where it is accepted the lifted map has one dimension more than the plan, and as many darts as the reply says
use Rattle.std.specs.Prelude.{ℕ, suc, cond}
use Rattle.paper.specs.Refusal.{accepted}
use Rattle.paper.specs.declared.Answer.{Answer}
use Rattle.sizes.specs.declared.Sizes.{Sizes}
use Rattle.sizes.specs.declared.Stepped.{Stepped}

abbrev pub sizes : ℕ → ℕ → ℕ → ℕ → Sizes
sizes m n lm ln = record { m = m; n = n; lm = lm; ln = ln }

abbrev pub stepped : Answer → Sizes → Stepped
stepped r z = record { answer = r; sizes = z }

abbrev pub replanned : Answer → Sizes → ℕ → ℕ → Stepped
replanned r z m n = stepped r (sizes (cond (accepted r) m z.m) (cond (accepted r) n z.n) z.lm z.ln)

abbrev pub relifted : Answer → Sizes → Stepped
relifted r z = stepped r (sizes z.m z.n (cond (accepted r) (suc z.m) z.lm) (cond (accepted r) r.value z.ln))
