use Rattle.std.proofs.Common.{sym, ◌∙◌, add-zero, arith}
use native.Mathlib.Nat.{sub-zero}
use Rattle.theory.specs.Alike.{eq_by}
use Rattle.span.proofs.Same.{rows_apart, same_start, same_turn, same_stop, same_end}
use Rattle.span.proofs.same_by.Goals as goal

pub returns-then-all-row_length : goal.returns-then-all-row_length
returns-then-all-row_length c =
    let a = c.args in
    let p = c.requires in
    rows_apart (eq_by a.objects) a.spans.now a.d a.e c.row_length-all.result c.row_length.result p.0 p.1
    c.row_length-all.ensures.0 c.row_length.ensures.0 c.if-all-row_length.true

pub loop-j-init : goal.loop-j-init
loop-j-init c =
    let a = c.args in
    let p = c.requires in
    simp (add-zero, sub-zero) (same_start (eq_by a.objects) a.spans.now a.d a.e c.row_length-all.result c.row_length.result p.0 p.1
    c.row_length-all.ensures.0 c.row_length.ensures.0 c.row_length-all.ensures.1 c.if-all-row_length.false)

pub same_span-requires : goal.same_span-requires
same_span-requires c =
    let g = c.loop-j.invariant in
    let x = g.first in
    let y = g.second in
    let l = c.loop-j-test.true in
    (omega arith, omega arith)

pub returns-then-not-same_span : goal.returns-then-not-same_span
returns-then-not-same_span c =
    let r = c.same_span in
    let l = c.loop-j-test.true in
    same_stop _ c.loop-j.invariant (omega arith) (sym r.ensures ∙ c.if-not-same_span.true)

pub loop-j-preserved : goal.loop-j-preserved
loop-j-preserved c =
    let r = c.same_span in
    same_turn _ _ _ _ _ _ _ _ c.loop-j.invariant c.loop-j-test.true (sym r.ensures ∙ c.if-not-same_span.false)

pub returns : goal.returns
returns c = let l = c.loop-j-test.false in same_end _ c.loop-j.invariant (omega arith)
