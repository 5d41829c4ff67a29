use Rattle.std.proofs.Common.{◌+◌, sym, ◌∙◌, arith}
use Rattle.ends.proofs.Gathering.{start, listed, known_more, joinable, more, full, ended}
use Rattle.ends.proofs.gather.gather.Goals as goal

pub loop-q-init : goal.loop-q-init
loop-q-init c = start c.requires

pub is_known-requires : goal.is_known-requires
is_known-requires c = listed c.loop-q.invariant c.requires c.loop-q-test.true

pub loop-q-preserved-then-is_known : goal.loop-q-preserved-then-is_known
loop-q-preserved-then-is_known c =
    known_more c.loop-q.invariant c.requires c.loop-q-test.true (sym c.is_known.ensures ∙ c.if-is_known.true)

pub join-requires : goal.join-requires
join-requires c =
    joinable c.loop-q.invariant c.requires c.loop-q-test.true c.get-e.result c.get-e.ensures.0

pub returns-in_err-ends : goal.returns-in_err-ends
returns-in_err-ends c =
    let J = c.in_err-ends.ensures in
    rw c.from_residual.ensures (
      full c.loop-q.invariant c.requires c.loop-q-test.true c.get-e.result c.get-e.ensures.0
          c.join.new.v (c.args.room + 1) J.0 (omega arith),
      tt,
    )

pub loop-q-preserved : goal.loop-q-preserved
loop-q-preserved c =
    let J = c.in_ok-ends.ensures in
    more c.loop-q.invariant c.requires c.loop-q-test.true c.get-e.result c.get-e.ensures.0
    c.join.new.v c.in_ok-ends.ends J.0 J.1 c.join.auto.v

pub returns : goal.returns
returns c = (ended c.loop-q.invariant c.requires c.loop-q-test.false, c.loop-q.invariant.el)
