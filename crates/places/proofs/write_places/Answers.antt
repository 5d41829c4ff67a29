use Rattle.std.proofs.Common.{◌≡◌, ◌<◌, ◌≤◌, length, refl, ◌∙◌, inr, arith}
use Rattle.paper.specs.Width.{span_limit}
use Rattle.paper.specs.Table.{row_at}
use Rattle.span.proofs.Row.{row_count}
use Rattle.walk.proofs.Walking.{past_all, at-span, onward, in_row, behind, piece-at}
use Rattle.places.proofs.Writing.{start, room, more, done}
use Rattle.places.proofs.write_places.Goals as goal
use Rattle.places.proofs.write_places.Goals.{After-row_length-all}

all : (c : After-row_length-all) → let a = c.args in
    c.row_length-all.result ≡ length (row_at a.spans.now a.d)
all c =
    c.row_length-all.ensures.0 ∙ row_count _ _ c.requires.0.row

own : (c : After-row_length-all) → c.loop-stop.stop.span < c.row_length-all.result
own c =
    omega (arith, (all c), in_row c.requires.0 (piece-at c.loop-stop.invariant.counting.stop c.loop-stop-test.true))

few : (c : After-row_length-all) → c.row_length-all.result ≤ span_limit
few c =
    c.row_length-all.ensures.1

pub first_piece-stop-requires : goal.first_piece-stop-requires
first_piece-stop-requires c = c.requires.0

pub loop-stop-init : goal.loop-stop-init
loop-stop-init c =
    let a = c.args in
    start a.op.now a.x a.places.now a.m c.first_piece-stop.ensures

pub put_piece-requires : goal.put_piece-requires
put_piece-requires c =
    let r = c.requires in
    let i = c.loop-stop.invariant in
    record { p_bound = (r.0.half, omega (arith, (piece-at i.counting.stop c.loop-stop-test.true).inside, r.0.long)); place_width_in_bounds = (room i c.loop-stop-test.true r.1.room, r.1.place) }

pub goes_on-requires : goal.goes_on-requires
goes_on-requires c =
    (c.requires.0, piece-at c.loop-stop.invariant.counting.stop c.loop-stop-test.true)

pub loop-stop-preserved-then-goes_on : goal.loop-stop-preserved-then-goes_on
loop-stop-preserved-then-goes_on c =
    more c.loop-stop.invariant c.loop-stop-test.true (at-span c.goes_on.ensures c.if-goes_on.true) refl refl c.put_piece.ensures

pub overflow_add-span : goal.overflow_add-span
overflow_add-span c =
    omega (arith, (own (goal.at.overflow_add-span c).After-row_length-all), (few (goal.at.overflow_add-span c).After-row_length-all))

pub shape_of-op-then-all-span : goal.shape_of-op-then-all-span
shape_of-op-then-all-span c =
    let R = onward c.goes_on.ensures c.if-goes_on.false (past_all {j' = 0} (omega (arith, c.loop-stop-test.true)) (inr (omega (arith, (all (goal.at.shape_of-op-then-all-span c).After-row_length-all), (own (goal.at.shape_of-op-then-all-span c).After-row_length-all), c.if-all-span.true)))) in
    (more c.loop-stop.invariant c.loop-stop-test.true R refl refl c.put_piece.ensures).same

pub returns-then-all-span : goal.returns-then-all-span
returns-then-all-span c =
    let R = onward c.goes_on.ensures c.if-goes_on.false (past_all {j' = 0} (omega (arith, c.loop-stop-test.true)) (inr (omega (arith, (all (goal.at.returns-then-all-span c).After-row_length-all), (own (goal.at.returns-then-all-span c).After-row_length-all), c.if-all-span.true)))) in
    done (more c.loop-stop.invariant c.loop-stop-test.true R refl refl c.put_piece.ensures) (omega arith)

pub overflow_add-at-in-loop-stop : goal.overflow_add-at-in-loop-stop
overflow_add-at-in-loop-stop c =
    omega (arith, (own (goal.at.overflow_add-at-in-loop-stop c).After-row_length-all), (few (goal.at.overflow_add-at-in-loop-stop c).After-row_length-all))

pub overflow_mul-at-in-loop-stop : goal.overflow_mul-at-in-loop-stop
overflow_mul-at-in-loop-stop c =
    omega (arith, (own (goal.at.overflow_mul-at-in-loop-stop c).After-row_length-all), (few (goal.at.overflow_mul-at-in-loop-stop c).After-row_length-all))

pub overflow_add-at-in-loop-stop-2 : goal.overflow_add-at-in-loop-stop-2
overflow_add-at-in-loop-stop-2 c =
    omega (arith, (own (goal.at.overflow_add-at-in-loop-stop-2 c).After-row_length-all), (few (goal.at.overflow_add-at-in-loop-stop-2 c).After-row_length-all))

pub overflow_add-span-in-loop-stop : goal.overflow_add-span-in-loop-stop
overflow_add-span-in-loop-stop c =
    omega (arith, (own (goal.at.overflow_add-span-in-loop-stop c).After-row_length-all), (few (goal.at.overflow_add-span-in-loop-stop c).After-row_length-all))

pub overflow_sub-all : goal.overflow_sub-all
overflow_sub-all c =
    omega (arith, (own (goal.at.overflow_sub-all c).After-row_length-all))

pub descend-found-requires : goal.descend-found-requires
descend-found-requires c =
    let k = c.if-all-span.false in
    let e = (all (goal.at.descend-found-requires c).After-row_length-all) in
    let o = (own (goal.at.descend-found-requires c).After-row_length-all) in (
      c.requires.0,
      (omega (arith, (piece-at c.loop-stop.invariant.counting.stop c.loop-stop-test.true).inside), (omega arith, (omega arith, omega arith))),
    )

pub overflow_sub-stop : goal.overflow_sub-stop
overflow_sub-stop c =
    omega (arith, c.descend-found.ensures.1, (own (goal.at.overflow_sub-stop c).After-row_length-all))

pub loop-stop-smaller : goal.loop-stop-smaller
loop-stop-smaller c =
    omega (arith, c.descend-found.ensures.0.on, c.loop-stop-test.true)

pub loop-stop-preserved : goal.loop-stop-preserved
loop-stop-preserved c =
    more c.loop-stop.invariant c.loop-stop-test.true (onward c.goes_on.ensures c.if-goes_on.false (behind c.descend-found.result.left (all (goal.at.loop-stop-preserved c).After-row_length-all) (own (goal.at.loop-stop-preserved c).After-row_length-all) c.descend-found.ensures.0))
    refl refl c.put_piece.ensures

pub shape_of-op : goal.shape_of-op
shape_of-op c = c.loop-stop.invariant.same

pub returns : goal.returns
returns c = done c.loop-stop.invariant c.loop-stop-test.false
