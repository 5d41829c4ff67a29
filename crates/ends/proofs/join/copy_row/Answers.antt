use Rattle.std.proofs.Common.{◌≡◌, ℕ, ◌+◌, ◌-◌, ◌<◌, length, refl, subst, inr, arith}
use Rattle.paper.specs.Span.{ends_of}
use Rattle.paper.specs.Table.{row_at}
use Rattle.ends.specs.Key.{key_limit, put_key}
use Rattle.theory.proofs.Row.{row-rises}
use Rattle.ends.proofs.Joining.{Joining, start, small, more, moves, ended, full}
use Rattle.ends.proofs.join.copy_row.Goals as goal
use Rattle.ends.proofs.join.copy_row.Goals.{In-loop-j, After-row_end_or-y, After-pass-s}

-- an end of the row is left, and the next one is a key
left : (c : In-loop-j) → c.loop-j.j < length (ends_of (row_at c.args.spans.now c.args.e))
left c =
    let s = c.loop-j.invariant.0 in
    let t = c.loop-j-test.true in
    omega arith

key : (c : After-row_end_or-y) → c.row_end_or-y.result < key_limit
key c =
    let l : c.loop-j.j < length (ends_of (row_at c.args.spans.now c.args.e)) = let s = c.loop-j.invariant.0 in let t = c.loop-j-test.true in omega arith in
    small (ends_of (row_at c.args.spans.now c.args.e)) c.loop-j.j c.row_end_or-y.result l c.row_end_or-y.ensures

-- how far it is joined after a step
joined : (c : After-pass-s) → let L = c.loop-j in let a = c.args in
    Joining a.v.now (put_key L.v (1 - a.p) L.ends c.row_end_or-y.result) a.p 0 a.room (ends_of (row_at a.spans.now a.e))
    (0 + c.pass-s.result.gathered) (L.j + c.pass-s.result.row) (L.ends + c.pass-s.result.kept)
joined c =
    let L = c.loop-j in
    let r = c.requires in
    let l : L.j < length (ends_of (row_at c.args.spans.now c.args.e)) = let s = L.invariant.0 in let t = c.loop-j-test.true in omega arith in
    let k = small (ends_of (row_at c.args.spans.now c.args.e)) L.j c.row_end_or-y.result l c.row_end_or-y.ensures in
    more L.invariant.1.1 r.half r.long l key_limit c.row_end_or-y.result c.row_end_or-z.result
    (inr (omega arith, refl)) c.row_end_or-y.ensures c.row_end_or-z.ensures (omega (arith, k))
    c.pass-s.result.gathered c.pass-s.result.row c.pass-s.result.kept c.if-ends-room.false c.pass-s.ensures

pub loop-j-init : goal.loop-j-init
loop-j-init c =
    let a = c.args in
    let r = c.requires in
    let e = c.end_count-c.ensures in
    (e.0, (e.1, start a.v.now a.p 0 a.room (ends_of (row_at a.spans.now a.e)) r.ascend (row-rises (row_at a.spans.now a.e) r.order)))

pub shape_of-v-then-ends-room : goal.shape_of-v-then-ends-room
shape_of-v-then-ends-room c = c.loop-j.invariant.1.1.same

pub returns-then-ends-room : goal.returns-then-ends-room
returns-then-ends-room c =
    let L = c.loop-j in
    let s = L.invariant.0 in
    (full L.invariant.1.1 c.requires.half c.if-ends-room.true (omega arith), tt)

pub put_end-requires : goal.put_end-requires
put_end-requires c =
    let L = c.loop-j in
    let r = c.requires in
    let J = L.invariant.1.1 in
    let k = J.same in
    let m = J.ml in
    let n = c.if-ends-room.false in
    let h = r.long in (
      omega arith,
      (
        omega (arith, n),
        (key (goal.at.put_end-requires c).After-row_end_or-y),
      ),
    )

pub overflow_add-j-in-loop-j : goal.overflow_add-j-in-loop-j
overflow_add-j-in-loop-j c =
    let L = c.loop-j in
    let f = moves c.pass-s.ensures in
    omega (arith, f.0, L.invariant.1.1.jl, L.invariant.1.0, L.invariant.0)

pub overflow_add-ends : goal.overflow_add-ends
overflow_add-ends c =
    let L = c.loop-j in
    let r = c.requires in
    let f = moves c.pass-s.ensures in
    omega (arith, f.1.1, L.invariant.1.1.ml, r.few)

pub loop-j-smaller : goal.loop-j-smaller
loop-j-smaller c =
    omega (arith, (moves c.pass-s.ensures).0, (joined (goal.at.loop-j-smaller c).After-pass-s).il, c.loop-j-test.true)

pub loop-j-preserved : goal.loop-j-preserved
loop-j-preserved c =
    let L = c.loop-j in
    let a = c.args in
    let J = (joined (goal.at.loop-j-preserved c).After-pass-s) in
    let z : 0 + c.pass-s.result.gathered ≡ 0 = omega (arith, J.il) in
    let v = put_key L.v (1 - a.p) L.ends c.row_end_or-y.result in (
      L.invariant.0,
      (
        L.invariant.1.0,
        rw c.put_end.ensures
            (subst (λ (i : ℕ). Joining a.v.now v a.p 0 a.room (ends_of (row_at a.spans.now a.e)) i (L.j + c.pass-s.result.row) (L.ends + c.pass-s.result.kept)) z J),
      ),
    )

pub returns : goal.returns
returns c =
    let s = c.loop-j.invariant.0 in
    (ended c.loop-j.invariant.1.1 c.requires.half (omega arith), c.loop-j.invariant.1.1.ml)
