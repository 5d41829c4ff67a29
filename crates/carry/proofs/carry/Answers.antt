use Rattle.std.proofs.Common.{◌≡◌, ℕ, ◌+◌, ◌*◌, ◌%◌, ◌≤◌, length, sym, refl, ap, ◌∙◌, arith}
use Rattle.paper.specs.Table.{row_at}
use Rattle.carry.specs.Carried.{carried_at, carried_rows, to_of, carried_all}
use Rattle.carry.proofs.Rows.{within-less, rows_none, all_none, all_more, from_more}
use Rattle.carry.proofs.carry.Goals as goal

pub loop-d-init : goal.loop-d-init
loop-d-init c =
    let a = c.args in (
      omega arith,
      refl,
      record { order = omega arith; within = omega arith; few = omega arith; object = omega arith },
      refl,
      rows_none (λ (q : ℕ). 0) 0 0 a.oo.now (omega arith) ∙ sym (all_none a.spans.now a.op.now a.w.now a.m a.n a.oo.now),
    )

pub base-requires : goal.base-requires
base-requires c = record { bases = c.requires.bases; h_bound = (omega arith, c.loop-d-test.true) }

pub carry_dart-due-requires : goal.carry_dart-due-requires
carry_dart-due-requires c =
    let L = c.loop-d in
    let a = c.args in
    let h = c.loop-d-test.true in
    let l = L.invariant.1 in
    let f = L.invariant.3 in
    let e = c.base.ensures.0 in
    let g = c.requires.later L.d h in
    let to = to_of a.spans.now a.w.now a.n (a.m % 2) L.d in
    let k : c.base.result + length (row_at a.spans.now L.d) * 2 ≤ to = omega arith in record { own = (c.requires.own L.d h, (within-less (c.requires.within L.d h) k (omega arith), λ q g u. c.requires.met L.d h q (omega arith) (omega arith))); due_in = (L.invariant.2, (omega arith, λ z. c.requires.bare L.d h (sym e ∙ z ∙ f))) }

pub loop-d-smaller : goal.loop-d-smaller
loop-d-smaller c = omega arith

pub loop-d-preserved : goal.loop-d-preserved
loop-d-preserved c =
    let r = c.carry_dart-due in
    let x = c.base in
    let L = c.loop-d in
    let a = c.args in
    let f = carried_at a.spans.now a.op.now a.m L.d in
    let e : r.result.to ≡ to_of a.spans.now a.w.now a.n (a.m % 2) L.d = r.ensures.due_in_2.1 ∙ ap (λ (k : ℕ). k + length (row_at a.spans.now L.d) * 2) x.ensures.0 in (
      omega arith,
      r.auto.oo ∙ L.invariant.1,
      r.ensures.due_in_2.0,
      e ∙ from_more a.spans.now a.op.now a.w.now a.m a.n L.d,
      r.ensures.oo_after
          ∙ (λ i. carried_rows f (L.invariant.3 i) (e i) (L.invariant.4 i))
          ∙ all_more a.spans.now a.op.now a.w.now a.m a.n L.d a.oo.now,
    )

pub settle-requires : goal.settle-requires
settle-requires c = c.loop-d.invariant.2

pub shape_of-oo : goal.shape_of-oo
shape_of-oo c = c.settle.auto.oo ∙ c.loop-d.invariant.1

pub returns : goal.returns
returns c =
    let L = c.loop-d in
    let a = c.args in
    let e : L.d ≡ a.n = omega arith in
    c.settle.ensures ∙ L.invariant.4 ∙ ap (λ (k : ℕ). carried_all a.spans.now a.op.now a.w.now a.m a.n k a.oo.now) e
