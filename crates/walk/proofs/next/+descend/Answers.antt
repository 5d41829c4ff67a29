use Rattle.std.proofs.Common.{◌≡◌, ℕ, ◌+◌, ◌-◌, length, ◌∙◌, subst, inr, arith}
use Rattle.paper.specs.Table.{row_at}
use Rattle.span.proofs.Row.{row_count}
use Rattle.walk.specs.Walk.{Probed, Reached}
use Rattle.walk.proofs.Walking.{row-few, past_all, at-span, onward}
use Rattle.walk.proofs.next.+descend.Goals as goal

pub row_length-requires : goal.row_length-requires
row_length-requires t c = c.requires.0.row

pub overflow_sub-j : goal.overflow_sub-j
overflow_sub-j t c =
    -- so many spans has the row
    let all = c.row_length.ensures.0 ∙ row_count _ _ c.requires.0.row in
    omega (arith, all, c.requires.1.1.0)

pub probe_span-probe-requires : goal.probe_span-probe-requires
probe_span-probe-requires t c =
    let all = c.row_length.ensures.0 ∙ row_count _ _ c.requires.0.row in
    let r = c.requires in
    (r.0, (r.1.0, (omega (arith, all, r.1.1.0, r.1.1.1.0), omega (arith, all, r.1.1.1.1))))

pub returns-then-probe : goal.returns-then-probe
returns-then-probe t c =
    let a = c.args in
    let p = c.probe_span-probe in
    -- so many spans has the row, and what the first of those that are left tells
    let all : c.row_length.result ≡ length (row_at a.spans.now a.d) = c.row_length.ensures.0 ∙ row_count _ _ c.requires.0.row in
    let told : Probed a.v.now a.p a.n a.spans.now a.d a.i (length (row_at a.spans.now a.d) - a.left) p.result.end p.result.covers =
    subst (λ (l : ℕ). Probed a.v.now a.p a.n a.spans.now a.d a.i (l - a.left) p.result.end p.result.covers) all p.ensures in
    (at-span told c.if-probe.true, omega arith)

pub returns-then-left-eq1 : goal.returns-then-left-eq1
returns-then-left-eq1 t c =
    let a = c.args in
    let p = c.probe_span-probe in
    -- so many spans has the row, and what the first of those that are left tells
    let all : c.row_length.result ≡ length (row_at a.spans.now a.d) = c.row_length.ensures.0 ∙ row_count _ _ c.requires.0.row in
    let told : Probed a.v.now a.p a.n a.spans.now a.d a.i (length (row_at a.spans.now a.d) - a.left) p.result.end p.result.covers =
    subst (λ (l : ℕ). Probed a.v.now a.p a.n a.spans.now a.d a.i (l - a.left) p.result.end p.result.covers) all p.ensures in
    let r = c.requires in
    (onward told c.if-probe.false (past_all (omega (arith, p.ensures.within)) (inr (omega (arith, r.1.1.0, c.if-left-eq1.true)))), omega arith)

pub overflow_add-at : goal.overflow_add-at
overflow_add-at t c =
    let r = c.requires in
    let f = row-few _ _ r.0.row in
    let e = r.1.1.1.1 in
    omega arith

pub descend-requires : goal.descend-requires
descend-requires t c =
    let r = c.requires in
    let k = c.if-left-eq1.false in
    (omega arith, (r.0, (c.probe_span-probe.ensures.within, (omega arith, (omega arith, omega (arith, r.1.1.1.1))))))

pub returns : goal.returns
returns t c =
    let a = c.args in
    let p = c.probe_span-probe in
    -- so many spans has the row, and what the first of those that are left tells
    let all : c.row_length.result ≡ length (row_at a.spans.now a.d) = c.row_length.ensures.0 ∙ row_count _ _ c.requires.0.row in
    let told : Probed a.v.now a.p a.n a.spans.now a.d a.i (length (row_at a.spans.now a.d) - a.left) p.result.end p.result.covers =
    subst (λ (l : ℕ). Probed a.v.now a.p a.n a.spans.now a.d a.i (l - a.left) p.result.end p.result.covers) all p.ensures in
    let r = c.requires in
    let n = length (row_at a.spans.now a.d) in
    let e : n - (a.left - 1) ≡ n - a.left + 1 = omega (arith, r.1.1.0, r.1.1.1.0) in (
      onward told c.if-probe.false
          (subst (λ (x : ℕ). Reached a.v.now a.p a.n a.spans.now a.d p.result.end x c.descend.result.end (n - c.descend.result.left)) e c.descend.ensures.0),
      omega (arith, c.descend.ensures.1),
    )
