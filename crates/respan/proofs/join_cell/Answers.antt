use Rattle.std.proofs.Common.{◌+◌, ◌≤◌, length, sym, ◌∙◌, subst}
use Rattle.paper.specs.Map.{owned}
use Rattle.paper.specs.Join.{with_span}
use Rattle.paper.specs.Table.{owned_at}
use Rattle.paper.specs.Step.{owned_span}
use Rattle.kernel.proofs.Signed.{back}
use Rattle.orbit.proofs.Refused.{refused-edit}
use Rattle.respan.specs.Splice.{respliced, insertion, Fits}
use Rattle.respan.specs.Cell.{row_refusal}
use Rattle.respan.specs.declared.splice.Splice.{Splice}
use Rattle.respan.proofs.Joined.{insertion-within}
use Rattle.respan.proofs.Edited.{dart-within, span_fits, span-row, first-row, span-accepted}
use Rattle.respan.proofs.join_cell.Goals as goal

pub admit_row-requires : goal.admit_row-requires
admit_row-requires c =
    let a = c.args in
    let d = a.d in
    let l = back a.lo c.ranges.lo.sfits in
    let u = back a.hi c.ranges.hi.sfits in
    let r = owned_at a.spans.now d in
    let k = c.insertion-s.ensures ∙ (λ i. insertion (owned_span (l i) (u i) a.object) r) in (
      c.requires.rows.0.each d (dart-within a.m a.n d c.requires.rows.1),
      subst (λ (s : Splice). s.kept + s.dropped ≤ length r) (sym k) (insertion-within (owned_span a.lo a.hi a.object) r),
    )

pub returns-in_err-admit_row : goal.returns-in_err-admit_row
returns-in_err-admit_row c R s ps P =
    let a = c.args in
    let d = a.d in
    let l = back a.lo c.ranges.lo.sfits in
    let u = back a.hi c.ranges.hi.sfits in
    let r = owned_at a.spans.now d in
    let k = c.insertion-s.ensures ∙ (λ i. insertion (owned_span (l i) (u i) a.object) r) in
    let e = c.in_err-admit_row.ensures ∙ (λ i. row_refusal (owned_span (l i) (u i) a.object) (k i).kept (k i).dropped r) in
    let t = c.from_residual in
    (refused-edit t.result _ t.ensures.1 P.held (e ∙ first-row P d a.lo a.hi a.object c.requires.rows.1))

pub splice_cell-requires-clause-fits : goal.splice_cell-requires-clause-fits
splice_cell-requires-clause-fits c =
    let a = c.args in
    let d = a.d in
    let l = back a.lo c.ranges.lo.sfits in
    let u = back a.hi c.ranges.hi.sfits in
    let r = owned_at a.spans.now d in
    let k = c.insertion-s.ensures ∙ (λ i. insertion (owned_span (l i) (u i) a.object) r) in
    let e = c.in_ok-admit_row.ensures ∙ (λ i. row_refusal (owned_span (l i) (u i) a.object) (k i).kept (k i).dropped r) in
    subst (λ y. Fits y (length r)) (sym k) (span_fits (owned_span a.lo a.hi a.object) r (sym e))

pub returns : goal.returns
returns c R s ps P =
    let a = c.args in
    let d = a.d in
    let l = back a.lo c.ranges.lo.sfits in
    let u = back a.hi c.ranges.hi.sfits in
    let r = owned_at a.spans.now d in
    let k = c.insertion-s.ensures ∙ (λ i. insertion (owned_span (l i) (u i) a.object) r) in
    let e = sym (c.in_ok-admit_row.ensures ∙ (λ i. row_refusal (owned_span (l i) (u i) a.object) (k i).kept (k i).dropped r)) in
    let z = c.requires.rows.1 in
    (span-accepted P d a.lo a.hi a.object z e
    (c.splice_cell.ensures R s ps (with_span (owned_span a.lo a.hi a.object)) P
    (span-row P d a.lo a.hi a.object (dart-within a.m a.n d z) e ∙ (λ i. respliced (sym k i) (owned s.plan d)))))
