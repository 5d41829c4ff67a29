use Rattle.std.proofs.Common.{◌≡◌, ℕ, ◌+◌, ◌-◌, ◌*◌, get_or, nat_abs, ap, ◌∙◌, le_refl, arith}
use Rattle.paper.specs.Width.{span_width}
use Rattle.paper.specs.Map.{no_span}
use Rattle.paper.specs.Span.{covering}
use Rattle.paper.specs.Table.{owned_at}
use Rattle.kernel.proofs.Signed.{back}
use Rattle.span.specs.Row.{spans_from, left_of}
use Rattle.carry.specs.Carried.{upward, height_in, carried_at, settled}
use Rattle.carry.proofs.Row.{one_found, one-carried}
use Rattle.carry.proofs.Rows.{rows_same}
use Rattle.carry.proofs.carry_one.Goals as goal

pub overflow_sub-left : goal.overflow_sub-left
overflow_sub-left c =
    let found : c.search-left.result ≡ 1 = let a = c.args in
    let f = c.at-t in
    let k = back f.result f.type_inv ∙ f.ensures in
    one_found a.spans.now a.d c.search-left.result (height_in a.op.now a.m a.due.to) (upward a.due.to) c.requires.own.0 c.requires.own.1.0
    (c.search-left.ensures ∙ (λ i. left_of 1 (covering (spans_from a.spans.now (a.d * span_width + 1) 1) (k i) (upward a.due.to))))
    (c.requires.within.1.0 a.due.to (le_refl a.due.to) c.requires.own.1.1) in
    omega (arith, found)

pub object_at-requires : goal.object_at-requires
object_at-requires c =
    let found : c.search-left.result ≡ 1 = let a = c.args in
    let f = c.at-t in
    let k = back f.result f.type_inv ∙ f.ensures in
    one_found a.spans.now a.d c.search-left.result (height_in a.op.now a.m a.due.to) (upward a.due.to) c.requires.own.0 c.requires.own.1.0
    (c.search-left.ensures ∙ (λ i. left_of 1 (covering (spans_from a.spans.now (a.d * span_width + 1) 1) (k i) (upward a.due.to))))
    (c.requires.within.1.0 a.due.to (le_refl a.due.to) c.requires.own.1.1) in
    (c.requires.own.0, omega (arith, found, c.requires.own.1.0))

pub returns : goal.returns
returns c =
    let found : c.search-left.result ≡ 1 = let a = c.args in
    let f = c.at-t in
    let k = back f.result f.type_inv ∙ f.ensures in
    one_found a.spans.now a.d c.search-left.result (height_in a.op.now a.m a.due.to) (upward a.due.to) c.requires.own.0 c.requires.own.1.0
    (c.search-left.ensures ∙ (λ i. left_of 1 (covering (spans_from a.spans.now (a.d * span_width + 1) 1) (k i) (upward a.due.to))))
    (c.requires.within.1.0 a.due.to (le_refl a.due.to) c.requires.own.1.1) in
    let a = c.args in
    let e = c.requires.own.1.0 in
    let z : 1 - c.search-left.result ≡ 0 = omega (arith, found) in
    let w = c.object_at.ensures.0 ∙ ap (λ (j : ℕ). nat_abs (get_or (owned_at a.spans.now a.d) j no_span).object) z in record {
      due_in = c.put_off.ensures.due_in;
      oo_after = c.put_off.ensures.oo_after
          ∙ rows_same (λ (q : ℕ). c.object_at.result) (carried_at a.spans.now a.op.now a.m a.d) a.due.to a.to (settled a.due a.oo.now)
          (λ q l g. w ∙ one-carried a.spans.now a.op.now a.m a.d q e (c.requires.within.1.0 q l g));
    }
