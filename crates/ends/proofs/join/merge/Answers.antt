use Rattle.std.proofs.Common.{◌+◌, ◌<◌, length, refl, inr, arith}
use Rattle.paper.specs.Span.{ends_of}
use Rattle.paper.specs.Table.{row_at}
use Rattle.ends.specs.Key.{key_limit}
use Rattle.theory.proofs.Row.{row-rises}
use Rattle.ends.proofs.Joining.{Joining, start, small, low, crowded, copied, more, moves, ended, full}
use Rattle.ends.proofs.join.merge.Goals as goal
use Rattle.ends.proofs.join.merge.Goals.{In-loop-j, After-copy_below-k, After-copy_below-k-2}

-- an end of the row is left, and the next one is a key
left : (c : In-loop-j) → c.loop-j.j < length (ends_of (row_at c.args.spans.now c.args.e))
left c =
    let s = c.loop-j.invariant.0 in
    let t = c.loop-j-test.true in
    omega arith

key : (c : In-loop-j) → c.loop-j.y < key_limit
key c = let L = c.loop-j in small (ends_of (row_at c.args.spans.now c.args.e)) L.j L.y (left c) L.invariant.1.1.1

-- how far both are joined once the ends below the row's next one are copied, and behind its last once those that are left are
below : (c : After-copy_below-k) → let L = c.loop-j in let a = c.args in
    Joining a.v.now c.copy_below-k.new.v a.p a.n a.room (ends_of (row_at a.spans.now a.e)) (L.i + c.copy_below-k.result) L.j (L.ends + c.copy_below-k.result)
below c =
    let r = c.requires in
    let L = c.loop-j in
    copied L.invariant.1.1.0 r.half r.long L.y L.invariant.1.1.1 c.copy_below-k.ensures.0

behind : (c : After-copy_below-k-2) → let L = c.loop-j in let a = c.args in
    Joining a.v.now c.copy_below-k-2.new.v a.p a.n a.room (ends_of (row_at a.spans.now a.e)) (L.i + c.copy_below-k-2.result) L.j (L.ends + c.copy_below-k-2.result)
behind c =
    let L = c.loop-j in
    let r = c.requires in
    let s = L.invariant.0 in
    let t = c.loop-j-test.false in
    copied L.invariant.1.1.0 r.half r.long key_limit (inr (omega arith, refl)) c.copy_below-k-2.ensures.0

pub loop-j-init : goal.loop-j-init
loop-j-init c =
    let a = c.args in
    let r = c.requires in
    let e = c.end_count-c.ensures in (
      e.0,
      (
        e.1,
        (
          start a.v.now a.p a.n a.room (ends_of (row_at a.spans.now a.e)) r.ascend (row-rises (row_at a.spans.now a.e) r.order),
          c.row_end_or-y.ensures,
        ),
      ),
    )

pub copy_below-k-requires : goal.copy_below-k-requires
copy_below-k-requires c =
    let L = c.loop-j in
    let r = c.requires in
    let k = L.invariant.1.1.0.same in
    let h = r.long in
    record { half = r.half; within = r.within; few = r.few; long = omega arith; il = L.invariant.1.1.0.il; ml = L.invariant.1.1.0.ml }

pub overflow_add-i : goal.overflow_add-i
overflow_add-i c =
    let r = c.requires in
    omega (arith, (below (goal.at.overflow_add-i c).After-copy_below-k).il, r.within, r.few)

pub overflow_add-ends : goal.overflow_add-ends
overflow_add-ends c =
    let r = c.requires in
    omega (arith, (below (goal.at.overflow_add-ends c).After-copy_below-k).ml, r.few)

pub shape_of-v-then-ends-room : goal.shape_of-v-then-ends-room
shape_of-v-then-ends-room c =
    (below (goal.at.shape_of-v-then-ends-room c).After-copy_below-k).same

pub returns-then-ends-room : goal.returns-then-ends-room
returns-then-ends-room c =
    let J = (below (goal.at.returns-then-ends-room c).After-copy_below-k) in
    (full J c.requires.half c.if-ends-room.true (omega (arith, J.il, (left (goal.at.returns-then-ends-room c).In-loop-j))), tt)

pub end_or-x-requires : goal.end_or-x-requires
end_or-x-requires c =
    let r = c.requires in
    let k = (below (goal.at.end_or-x-requires c).After-copy_below-k).same in
    let h = r.long in
    (r.half, omega (arith, k, h, r.within))

pub put_end-requires : goal.put_end-requires
put_end-requires c =
    let r = c.requires in
    let J = (below (goal.at.put_end-requires c).After-copy_below-k) in
    let k = J.same in
    let h = r.long in
    (omega arith, (omega (arith, J.ml, c.if-ends-room.false), (key (goal.at.put_end-requires c).In-loop-j)))

pub overflow_add-i-in-loop-j : goal.overflow_add-i-in-loop-j
overflow_add-i-in-loop-j c =
    let r = c.requires in
    omega (arith, (moves c.pass-s.ensures).1.0, (below (goal.at.overflow_add-i-in-loop-j c).After-copy_below-k).il, r.within, r.few)

pub overflow_add-j-in-loop-j : goal.overflow_add-j-in-loop-j
overflow_add-j-in-loop-j c =
    omega (arith, (moves c.pass-s.ensures).0, c.loop-j-test.true, c.loop-j.invariant.1.0)

pub overflow_add-ends-in-loop-j : goal.overflow_add-ends-in-loop-j
overflow_add-ends-in-loop-j c =
    let r = c.requires in
    omega (arith, (moves c.pass-s.ensures).1.1, (below (goal.at.overflow_add-ends-in-loop-j c).After-copy_below-k).ml, r.few)

pub loop-j-smaller : goal.loop-j-smaller
loop-j-smaller c = omega (arith, (moves c.pass-s.ensures).0, c.loop-j-test.true)

pub loop-j-preserved : goal.loop-j-preserved
loop-j-preserved c =
    let L = c.loop-j in
    let a = c.args in
    let r = c.requires in
    let o = c.if-ends-room.false in
    let x = c.end_or-x in (
      L.invariant.0,
      (
        L.invariant.1.0,
        (
          rw c.put_end.ensures
              (more (below (goal.at.loop-j-preserved c).After-copy_below-k) r.half r.long (left (goal.at.loop-j-preserved c).In-loop-j) x.result L.y c.row_end_or-z.result
              x.ensures L.invariant.1.1.1 c.row_end_or-z.ensures
              (low c.copy_below-k.new.v a.p a.n a.room (L.i + c.copy_below-k.result) (L.ends + c.copy_below-k.result) x.result L.y
              c.copy_below-k.ensures.1 o (omega (arith, (key (goal.at.loop-j-preserved c).In-loop-j))) x.ensures)
              c.pass-s.result.gathered c.pass-s.result.row c.pass-s.result.kept o c.pass-s.ensures),
          rw (moves c.pass-s.ensures).0 c.row_end_or-z.ensures,
        ),
      ),
    )

pub copy_below-k-requires-2 : goal.copy_below-k-requires-2
copy_below-k-requires-2 c =
    let L = c.loop-j in
    let r = c.requires in
    let k = L.invariant.1.1.0.same in
    let h = r.long in
    record { half = r.half; within = r.within; few = r.few; long = omega arith; il = L.invariant.1.1.0.il; ml = L.invariant.1.1.0.ml }

pub overflow_add-i-2 : goal.overflow_add-i-2
overflow_add-i-2 c =
    let r = c.requires in
    omega (arith, (behind (goal.at.overflow_add-i-2 c).After-copy_below-k-2).il, r.within, r.few)

pub shape_of-v-then-i-k : goal.shape_of-v-then-i-k
shape_of-v-then-i-k c =
    (behind (goal.at.shape_of-v-then-i-k c).After-copy_below-k-2).same

pub returns-then-i-k : goal.returns-then-i-k
returns-then-i-k c =
    let L = c.loop-j in
    let a = c.args in
    let J = (behind (goal.at.returns-then-i-k c).After-copy_below-k-2) in (
      full J c.requires.half
          (crowded c.copy_below-k-2.new.v a.p a.n a.room (L.i + c.copy_below-k-2.result) (L.ends + c.copy_below-k-2.result) c.copy_below-k-2.ensures.1 c.if-i-k.true)
          (omega (arith, c.if-i-k.true, J.jl)),
      tt,
    )

pub overflow_add-result : goal.overflow_add-result
overflow_add-result c =
    let r = c.requires in
    omega (arith, (behind (goal.at.overflow_add-result c).After-copy_below-k-2).ml, r.few)

pub shape_of-v : goal.shape_of-v
shape_of-v c =
    (behind (goal.at.shape_of-v c).After-copy_below-k-2).same

pub returns : goal.returns
returns c =
    let s = c.loop-j.invariant.0 in
    (ended (behind (goal.at.returns c).After-copy_below-k-2) c.requires.half (omega (arith, c.if-i-k.false, c.loop-j-test.false, s)), (behind (goal.at.returns c).After-copy_below-k-2).ml)
