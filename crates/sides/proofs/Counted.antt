-- COUNT's replies.
--     plan-counted, lifted-counted      on a side there is, they are the answer on its map
--     side-beyond      a side that there isn't is refused by 3, whatever the axis
use Rattle.std.proofs.Common.{◌≡◌, ℕ, ◌<◌, refl, lt-ltb}
use Rattle.paper.specs.Refusal.{answer, judge, accept}
use Rattle.paper.specs.declared.refusal.Refusal.TheVariants.{NoPlan, NothingLifted}
use Rattle.paper.specs.Step.{Maps, Room, refusals, value, reply}
use Rattle.paper.specs.declared.Command.TheVariants.{Count}
use Rattle.sides.specs.Count.{counted}

module _ (R : Room) (s : Maps) (i : ℕ) where
  pub plan-counted : counted NoPlan s.plan i ≡ reply R s (Count 0 i)
  unfolding counted reply refusals value judge accept
  plan-counted = refl

  pub lifted-counted : counted NothingLifted s.lifted i ≡ reply R s (Count 1 i)
  unfolding counted reply refusals value judge accept
  lifted-counted = refl

  pub side-beyond : (x : ℕ) → 1 < x → answer 3 0 ≡ reply R s (Count x i)
  unfolding reply refusals judge accept
  side-beyond x h = rw (lt-ltb 1 x h) refl
