-- A command or a call that is accepted meets none of its refusals.
--     Off              no test of a list is met
--     number-within    every refusal has a number from 1 up, of one byte
--     judge-off        number 0: no test is met
--     off-judge        no test is met: number 0
--     accept-off       the same for an accepted reply
--     accept-refused   a refusal is given as it is
--     judge-past, judge-stops     tests behind others: tried where none of those is met, and not else
use Rattle.std.proofs.Common.{◌≡◌, ℕ, ◌<◌, Bool, true, false, cond, ltb, List, [], ◌∷◌, ◌++◌, refl, ap, ◌∙◌, arith, ne_eqb, eqb-true}
use Rattle.paper.specs.Width.{byte_limit}
use Rattle.paper.specs.Below.{first_below}
use Rattle.paper.specs.Refusal.{number, Test, ◌if◌, ◌among◌, answer, judge, accepted, accept}
use Rattle.paper.specs.declared.refusal.Refusal.{Refusal}
use Rattle.paper.specs.declared.refusal.Refusal.TheVariants.{UnknownCommand, CutShort, OutOfRange, NoSuchDart, EmptySpan, LinkBeyond, LinkNotUndone, PairNotUndone}
use Rattle.paper.specs.declared.refusal.Refusal.TheVariants.{PlacesDiffer, BadRow, RowsDiffer, NoPlan, PlanFull, AlreadyLinked, NoPairing, PairDisagrees}
use Rattle.paper.specs.declared.refusal.Refusal.TheVariants.{AlreadyFree, SpanOverlaps, RowFull, TooLarge, NothingLifted, TopDimension, RepliesFull}
use Rattle.paper.specs.declared.Answer.{Answer}

abbrev pub Off : ℕ → List Test → Type 0
Off n [] = Unit {0}
Off n (r if b ∷ l) = (b ≡ false) × Off n l
Off n (r among p ∷ l) = (ltb (first_below n p) n ≡ false) × Off n l

pub number-within : (r : Refusal) → (0 < number r) × (number r < byte_limit)
number-within UnknownCommand = (omega arith, omega arith)
number-within CutShort = (omega arith, omega arith)
number-within OutOfRange = (omega arith, omega arith)
number-within NoSuchDart = (omega arith, omega arith)
number-within EmptySpan = (omega arith, omega arith)
number-within LinkBeyond = (omega arith, omega arith)
number-within LinkNotUndone = (omega arith, omega arith)
number-within PairNotUndone = (omega arith, omega arith)
number-within PlacesDiffer = (omega arith, omega arith)
number-within BadRow = (omega arith, omega arith)
number-within RowsDiffer = (omega arith, omega arith)
number-within NoPlan = (omega arith, omega arith)
number-within PlanFull = (omega arith, omega arith)
number-within AlreadyLinked = (omega arith, omega arith)
number-within NoPairing = (omega arith, omega arith)
number-within PairDisagrees = (omega arith, omega arith)
number-within AlreadyFree = (omega arith, omega arith)
number-within SpanOverlaps = (omega arith, omega arith)
number-within RowFull = (omega arith, omega arith)
number-within TooLarge = (omega arith, omega arith)
number-within NothingLifted = (omega arith, omega arith)
number-within TopDimension = (omega arith, omega arith)
number-within RepliesFull = (omega arith, omega arith)

pub judge-off : (n : ℕ) (l : List Test) → (judge n l).number ≡ 0 → Off n l
unfolding judge
judge-off n [] e = tt
judge-off n (r if b ∷ l) e = go b e (judge-off n l)
  where
    go : (b : Bool) → (cond b (answer (number r) 0) (judge n l)).number ≡ 0 → ((judge n l).number ≡ 0 → Off n l) → (b ≡ false) × Off n l
    go true e f = absurd (let h = (number-within r).0 in omega arith)
    go false e f = (refl, f e)
judge-off n (r among p ∷ l) e = go (ltb (first_below n p) n) e (judge-off n l)
  where
    go : (b : Bool) → (cond b (answer (number r) (first_below n p)) (judge n l)).number ≡ 0 → ((judge n l).number ≡ 0 → Off n l) → (b ≡ false) × Off n l
    go true e f = absurd (let h = (number-within r).0 in omega arith)
    go false e f = (refl, f e)

pub off-judge : (n : ℕ) (l : List Test) → Off n l → judge n l ≡ answer 0 0
unfolding judge
off-judge n [] o = refl
off-judge n (r if b ∷ l) o = ap (λ x. cond x (answer (number r) 0) (judge n l)) o.0 ∙ off-judge n l o.1
off-judge n (r among p ∷ l) o = ap (λ x. cond x (answer (number r) (first_below n p)) (judge n l)) o.0 ∙ off-judge n l o.1

pub accept-off : (n : ℕ) (l : List Test) (v : ℕ) → accepted (accept (judge n l) v) ≡ true → Off n l
unfolding accept
accept-off n l v e = judge-off n l (go (judge n l) e)
  where
    go : (a : Answer) → accepted (cond (accepted a) (answer 0 v) a) ≡ true → a.number ≡ 0
    go a e = pick (accepted a) refl e
      where
        pick : (b : Bool) → accepted a ≡ b → accepted (cond b (answer 0 v) a) ≡ true → a.number ≡ 0
        pick true q e = eqb-true a.number 0 q
        pick false q e = eqb-true a.number 0 e

pub accept-refused : (a : Answer) (v : ℕ) → (a.number ≡ 0 → ⊥) → accept a v ≡ a
unfolding accept
accept-refused a v f = ap (λ b. cond b (answer 0 v) a) (ne_eqb a.number 0 f)

-- ---- tests behind others: they are tried where none of those is met
pub judge-past : (n : ℕ) (l k : List Test) → Off n l → judge n (l ++ k) ≡ judge n k
unfolding judge
judge-past n [] k o = refl
judge-past n (r if b ∷ l) k o = ap (λ x. cond x (answer (number r) 0) (judge n (l ++ k))) o.0 ∙ judge-past n l k o.1
judge-past n (r among p ∷ l) k o = ap (λ x. cond x (answer (number r) (first_below n p)) (judge n (l ++ k))) o.0 ∙ judge-past n l k o.1

pub judge-stops : (n : ℕ) (l k : List Test) → ((judge n l).number ≡ 0 → ⊥) → judge n (l ++ k) ≡ judge n l
unfolding judge
judge-stops n [] k f = absurd (f refl)
judge-stops n (r if b ∷ l) k f = go b f (judge-stops n l k)
  where
    go : (b : Bool) → ((cond b (answer (number r) 0) (judge n l)).number ≡ 0 → ⊥) → (((judge n l).number ≡ 0 → ⊥) → judge n (l ++ k) ≡ judge n l)
        → cond b (answer (number r) 0) (judge n (l ++ k)) ≡ cond b (answer (number r) 0) (judge n l)
    go true f h = refl
    go false f h = h f
judge-stops n (r among p ∷ l) k f = go (ltb (first_below n p) n) f (judge-stops n l k)
  where
    go : (b : Bool) → ((cond b (answer (number r) (first_below n p)) (judge n l)).number ≡ 0 → ⊥) → (((judge n l).number ≡ 0 → ⊥) → judge n (l ++ k) ≡ judge n l)
        → cond b (answer (number r) (first_below n p)) (judge n (l ++ k)) ≡ cond b (answer (number r) (first_below n p)) (judge n l)
    go true f h = refl
    go false f h = h f
