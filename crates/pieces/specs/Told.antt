-- What the pieces call tells, once its tables are known to hold a plan.
--     Told             the answer for some pieces and a memory, and what the memory holds then
use Rattle.std.specs.Prelude.{◌≡◌, ◌*◌, Bool, cond, List, length, ℤ, nat_lt}
use Rattle.paper.specs.Width.{pair_width}
use Rattle.paper.specs.Below.{onto}
use Rattle.paper.specs.Map.{Span}
use Rattle.paper.specs.Span.{ends_of}
use Rattle.paper.specs.Refusal.{number}
use Rattle.paper.specs.declared.refusal.Refusal.TheVariants.{TooLarge}
use Rattle.paper.specs.declared.Pairs.{Pairs}

-- the pairs of ends don't fit
abbrev pub is_too_large : List Span → List ℤ → Bool
is_too_large P before = nat_lt (length before) (pair_width * length P)

pub record Told (P : List Span) (before : List ℤ) (r : Pairs) (after : List ℤ) : Type 0 where
  pub answer : r ≡ cond (is_too_large P before) (record { number = number TooLarge; pairs = 0 }) (record { number = 0; pairs = length P })
  pub memory : after ≡ cond (is_too_large P before) before (onto (ends_of P) before)
