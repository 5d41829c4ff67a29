use Rattle.std.proofs.Common.{◌≡◌, ◌<◌, ◌≤◌, length, ◌∙◌, inr, arith}
use Rattle.paper.specs.Width.{span_limit}
use Rattle.paper.specs.Table.{row_at}
use Rattle.span.proofs.Row.{row_count}
use Rattle.walk.proofs.Walking.{past_all, at-span, onward, in_row, behind, first, piece-at, more, counted}
use Rattle.walk.proofs.count.count_pieces.Goals as goal
use Rattle.walk.proofs.count.count_pieces.Goals.{After-row_length-all}

all : (c : After-row_length-all) → c.row_length-all.result
    ≡ length (row_at c.args.spans.now c.args.d)
all c =
    c.row_length-all.ensures.0 ∙ row_count _ _ c.requires.row

own : (c : After-row_length-all) → c.loop-stop.stop.span < c.row_length-all.result
own c =
    omega (arith, (all c), in_row c.requires (piece-at c.loop-stop.invariant.stop c.loop-stop-test.true))

few : (c : After-row_length-all) → c.row_length-all.result ≤ span_limit
few c =
    c.row_length-all.ensures.1

pub loop-stop-init : goal.loop-stop-init
loop-stop-init c = first c.first_piece-stop.ensures

pub goes_on-requires : goal.goes_on-requires
goes_on-requires c =
    (c.requires, piece-at c.loop-stop.invariant.stop c.loop-stop-test.true)

pub loop-stop-preserved-then-goes_on : goal.loop-stop-preserved-then-goes_on
loop-stop-preserved-then-goes_on c =
    more c.loop-stop.invariant c.loop-stop-test.true (at-span c.goes_on.ensures c.if-goes_on.true)

pub overflow_add-span : goal.overflow_add-span
overflow_add-span c =
    omega (arith, (own (goal.at.overflow_add-span c).After-row_length-all), (few (goal.at.overflow_add-span c).After-row_length-all))

pub returns-then-all-span : goal.returns-then-all-span
returns-then-all-span c =
    counted
    (more c.loop-stop.invariant c.loop-stop-test.true
    (onward c.goes_on.ensures c.if-goes_on.false (past_all {j' = 0} (omega (arith, c.loop-stop-test.true)) (inr (omega (arith, (all (goal.at.returns-then-all-span c).After-row_length-all), (own (goal.at.returns-then-all-span c).After-row_length-all), c.if-all-span.true))))))
    (omega arith)

pub overflow_add-at-in-loop-stop : goal.overflow_add-at-in-loop-stop
overflow_add-at-in-loop-stop c =
    omega (arith, (own (goal.at.overflow_add-at-in-loop-stop c).After-row_length-all), (few (goal.at.overflow_add-at-in-loop-stop c).After-row_length-all))

pub overflow_mul-at-in-loop-stop : goal.overflow_mul-at-in-loop-stop
overflow_mul-at-in-loop-stop c =
    omega (arith, (own (goal.at.overflow_mul-at-in-loop-stop c).After-row_length-all), (few (goal.at.overflow_mul-at-in-loop-stop c).After-row_length-all))

pub overflow_add-at-in-loop-stop-2 : goal.overflow_add-at-in-loop-stop-2
overflow_add-at-in-loop-stop-2 c =
    omega (arith, (own (goal.at.overflow_add-at-in-loop-stop-2 c).After-row_length-all), (few (goal.at.overflow_add-at-in-loop-stop-2 c).After-row_length-all))

pub overflow_add-span-in-loop-stop : goal.overflow_add-span-in-loop-stop
overflow_add-span-in-loop-stop c =
    omega (arith, (own (goal.at.overflow_add-span-in-loop-stop c).After-row_length-all), (few (goal.at.overflow_add-span-in-loop-stop c).After-row_length-all))

pub overflow_sub-all : goal.overflow_sub-all
overflow_sub-all c =
    omega (arith, (own (goal.at.overflow_sub-all c).After-row_length-all))

pub descend-found-requires : goal.descend-found-requires
descend-found-requires c =
    let k = c.if-all-span.false in
    let e = (all (goal.at.descend-found-requires c).After-row_length-all) in
    let o = (own (goal.at.descend-found-requires c).After-row_length-all) in (
      c.requires,
      (omega (arith, (piece-at c.loop-stop.invariant.stop c.loop-stop-test.true).inside), (omega arith, (omega arith, omega arith))),
    )

pub overflow_sub-stop : goal.overflow_sub-stop
overflow_sub-stop c =
    omega (arith, c.descend-found.ensures.1, (own (goal.at.overflow_sub-stop c).After-row_length-all))

pub loop-stop-smaller : goal.loop-stop-smaller
loop-stop-smaller c =
    omega (arith, c.descend-found.ensures.0.on, c.loop-stop-test.true)

pub loop-stop-preserved : goal.loop-stop-preserved
loop-stop-preserved c =
    more c.loop-stop.invariant c.loop-stop-test.true (onward c.goes_on.ensures c.if-goes_on.false (behind c.descend-found.result.left (all (goal.at.loop-stop-preserved c).After-row_length-all) (own (goal.at.loop-stop-preserved c).After-row_length-all) c.descend-found.ensures.0))

pub returns : goal.returns
returns c = counted c.loop-stop.invariant c.loop-stop-test.false
