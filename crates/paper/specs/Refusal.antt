-- The refusals, their numbers, and the first one that is met.
--     number           a refusal's number in document 01
--     number_of        that of what may be refused: 0 where it is not
--     answer_of        the answer of a command or a call: its value, or the refusal's number with value 0
--     refused_of       a refusal with value 0
--     judged_of        the answer of a call on raw tables, whose refusal may have a value
--     checked_of       the check's answer: it has no value but a dart at fault
--     loose_of         the looseness call's answer: a byte of axes, and how many of its bits are set
--     paired_of        the pieces call's answer: how many pairs of ends
--     Test             a refusal with what meets it: a test, or a test of each dart
--     judge            the first refusal of a list that is met, with its value
--     accept           the answer to what was judged: where nothing is refused, with its value
use Rattle.std.specs.Prelude.{ℕ, Bool, cond, List, [], ◌∷◌, ◌==◌, nat_lt, Result, Ok, Err, count_ones}
use Rattle.paper.specs.Below.{first_below}
use Rattle.paper.specs.declared.Answer.{Answer}
use Rattle.paper.specs.declared.Looseness.{Looseness}
use Rattle.paper.specs.declared.Pairs.{Pairs}
use Rattle.paper.specs.declared.refusal.Refusal.{Refusal}
use Rattle.paper.specs.declared.refusal.Refused.{Refused}
use Rattle.paper.specs.declared.refusal.Refusal.TheVariants.{UnknownCommand, CutShort, OutOfRange, NoSuchDart, EmptySpan, LinkBeyond, LinkNotUndone, PairNotUndone, PlacesDiffer, BadRow, RowsDiffer, NoPlan, PlanFull, AlreadyLinked, NoPairing, PairDisagrees, AlreadyFree, SpanOverlaps, RowFull, TooLarge, NothingLifted, TopDimension, RepliesFull}

abbrev pub number : Refusal → ℕ
number UnknownCommand = 1
number CutShort = 2
number OutOfRange = 3
number NoSuchDart = 4
number EmptySpan = 5
number LinkBeyond = 6
number LinkNotUndone = 7
number PairNotUndone = 8
number PlacesDiffer = 9
number BadRow = 10
number RowsDiffer = 11
number NoPlan = 12
number PlanFull = 13
number AlreadyLinked = 14
number NoPairing = 15
number PairDisagrees = 16
number AlreadyFree = 17
number SpanOverlaps = 18
number RowFull = 19
number TooLarge = 20
number NothingLifted = 21
number TopDimension = 22
number RepliesFull = 23

infix 68 ◌if◌ ◌among◌
pub data Test : Type 0 where
  -- met where the test passes
  ◌if◌ : Refusal → Bool → Test
  -- met where some dart is at fault
  ◌among◌ : Refusal → (ℕ → Bool) → Test

abbrev pub answer : ℕ → ℕ → Answer
answer n v = record { number = n; value = v }

abbrev pub number_of : {A : Type 0} → Result A Refusal → ℕ
number_of (Ok x) = 0
number_of (Err r) = number r

abbrev pub answer_of : Result ℕ Refusal → Answer
answer_of (Ok v) = answer 0 v
answer_of (Err r) = answer (number r) 0

abbrev pub refused_of : Refusal → Refused
refused_of r = record { refusal = r; value = 0 }

abbrev pub judged_of : Result ℕ Refused → Answer
judged_of (Ok v) = answer 0 v
judged_of (Err f) = answer (number f.refusal) f.value

abbrev pub checked_of : Result Unit Refused → Answer
checked_of (Ok x) = answer 0 0
checked_of (Err f) = answer (number f.refusal) f.value

abbrev pub loose_of : Result ℕ Refusal → Looseness
loose_of (Ok b) = record { number = 0; bits = b; ones = count_ones b }
loose_of (Err r) = record { number = number r; bits = 0; ones = 0 }

abbrev pub paired_of : Result ℕ Refusal → Pairs
paired_of (Ok k) = record { number = 0; pairs = k }
paired_of (Err r) = record { number = number r; pairs = 0 }

-- A refusal is looked for at every dart before the next one is; the lowest dart that meets it is the value. Other refusals have value 0.
unfoldable pub judge : ℕ → List Test → Answer
judge n [] = answer 0 0
judge n (r if b ∷ l) = let rest = judge n l in cond b (answer (number r) 0) rest
judge n (r among p ∷ l) = let rest = judge n l in let d = first_below n p in cond (nat_lt d n) (answer (number r) d) rest

abbrev pub accepted : Answer → Bool
accepted a = a.number == 0

-- The answer to what was judged: a refusal as it is; where none is met, number 0 with the value v.
unfoldable pub accept : Answer → ℕ → Answer
accept a v = cond (accepted a) (answer 0 v) a
