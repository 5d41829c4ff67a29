use Rattle.std.proofs.Common.{◌+◌, ◌%◌, length, refl, ap, arith}
use Rattle.print.proofs.Digits.{decimal-one, tenth, digit-lays, digits-lays}
use Rattle.print.proofs.text.Text.+number.Goals.{then-x-ge10, else-x-ge10}
use Rattle.print.proofs.text.Text.+number.Goals as goal

pub number-requires : goal.number-requires
number-requires t c = let e = tenth c.args.x c.if-x-ge10.true in (omega arith, omega arith)

pub push-requires : goal.push-requires
push-requires t c = elim c.if-x-ge10.branch [
  | then-x-ge10 w ↦ (let e = tenth c.args.x w.if-x-ge10.true in rw w.self-is (omega arith))
  | else-x-ge10 w ↦ (let e = ap length (decimal-one c.args.x w.if-x-ge10.false) in rw w.self-is (omega arith))
]

pub returns-clause-lays : goal.returns-clause-lays
returns-clause-lays t c = elim c.if-x-ge10.branch [
  | then-x-ge10 w ↦ digits-lays c.args.x _ w.if-x-ge10.true refl w.number.ensures.lays (rw w.self-is at c.push.ensures.lays)
  | else-x-ge10 w ↦ digit-lays c.args.x (48 + c.args.x % 10) w.if-x-ge10.false (omega arith) (rw w.self-is at c.push.ensures.lays)
]
