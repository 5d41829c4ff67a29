use Rattle.std.proofs.Common.{◌≡◌, ℕ, ◌+◌, ◌-◌, ◌*◌, ◌<◌, ◌≤◌, true, ◌&&◌, ltb, length, get_or, set, nat_abs, sym, refl, ap, ◌∙◌, arith, ltb-true}
use Rattle.paper.specs.Width.{per_span, span_limit}
use Rattle.paper.specs.Map.{no_span}
use Rattle.paper.specs.Span.{covers, covering}
use Rattle.paper.specs.Table.{owned_at, row_at}
use Rattle.theory.proofs.Bool.{and_both}
use Rattle.kernel.proofs.Signed.{back}
use Rattle.span.specs.Row.{span_from, spans_from, left_of}
use Rattle.span.proofs.Row.{row-few}
use Rattle.span.proofs.Covering.{left_le}
use Rattle.carry.specs.Carried.{upward, height_in, carried_at}
use Rattle.carry.proofs.Row.{last_from, some-found, none_found, left_here, search-few, search-some}
use Rattle.carry.proofs.Rows.{rows_none, rows_more, rows_end}
use Rattle.carry.proofs.several.carry_rows.Goals as goal
use Rattle.carry.proofs.several.carry_rows.Goals.{After-goes_on, After-search-left, After-to_search-rest}

again : (c : After-goes_on) → c.goes_on.result ≡ true → let L = c.loop-q in let a = c.args in
    (0 < L.left) × (L.left ≡ left_of L.left (covering (spans_from a.spans.now (last_from a.spans.now a.d L.left) L.left) (height_in a.op.now a.m L.q) (upward L.q)))
again c =
    λ h. let L = c.loop-q in
    let a = c.args in
    let k = back c.at-t.result c.at-t.type_inv ∙ c.at-t.ensures in
    let at = last_from a.spans.now a.d L.left in
    let t = height_in a.op.now a.m L.q in
    let e = c.goes_on.ensures ∙ (λ i. ltb 0 L.left && covers (span_from a.spans.now (L.invariant.4 i - L.left * per_span)) (k i) (upward L.q)) in
    let f = and_both (ltb 0 L.left) (covers (span_from a.spans.now at) t (upward L.q)) (sym e ∙ h) in
    let g = ltb-true 0 L.left f.0 in
    (g, left_here a.spans.now at L.left t (upward L.q) g f.1)

rest : (c : After-to_search-rest) → let a = c.args in c.to_search-rest.result ≤ length (row_at a.spans.now a.d)
rest c =
    let L = c.loop-q in
    let f = c.requires.own.1 in
    let l = L.invariant.3 in
    let s = search-few L.left c.args.all c.to_search-rest.result c.to_search-rest.ensures (omega (arith, f, l)) in
    omega arith

found : (c : After-search-left) → let n = c.to_search-rest.result in let L = c.loop-q in let a = c.args in
    c.search-left.result ≡ left_of n (covering (spans_from a.spans.now (last_from a.spans.now a.d n) n) (height_in a.op.now a.m L.q) (upward L.q))
found c =
    let n = c.to_search-rest.result in
    let L = c.loop-q in
    let a = c.args in
    let k = back c.at-t.result c.at-t.type_inv ∙ c.at-t.ensures in
    c.search-left.ensures ∙ (λ i. left_of n (covering (spans_from a.spans.now (L.invariant.4 i - n * per_span) n) (k i) (upward L.q)))

most : (c : After-search-left) → let a = c.args in c.search-left.result ≤ length (row_at a.spans.now a.d)
most c =
    let rest : let a = c.args in c.to_search-rest.result ≤ length (row_at a.spans.now a.d) = let L = c.loop-q in
    let f = c.requires.own.1 in
    let l = L.invariant.3 in
    let s = search-few L.left c.args.all c.to_search-rest.result c.to_search-rest.ensures (omega (arith, f, l)) in
    omega arith in
    let n = c.to_search-rest.result in
    let L = c.loop-q in
    let a = c.args in
    let e = found c in
    let r = rest in
    let m = left_le n (covering (spans_from a.spans.now (last_from a.spans.now a.d n) n) (height_in a.op.now a.m L.q) (upward L.q)) in
    omega arith

fewer : (q to found left : ℕ) → q < to → found ≤ span_limit → (to - (q + 1)) * (span_limit + 1) + found < (to - q) * (span_limit + 1) + left
fewer q to found left h f = omega arith

pub overflow_mul-end-2 : goal.overflow_mul-end-2
overflow_mul-end-2 c = omega (arith, row-few c.args.spans.now c.args.d c.requires.own.0.row, c.requires.own.1)

pub overflow_add-end-2 : goal.overflow_add-end-2
overflow_add-end-2 c = omega (arith, row-few c.args.spans.now c.args.d c.requires.own.0.row, c.requires.own.1)

pub loop-q-init : goal.loop-q-init
loop-q-init c =
    let a = c.args in
    let e = c.requires.own.1 in
    (omega arith, omega arith, refl, omega arith, omega arith, sym (rows_none (carried_at a.spans.now a.op.now a.m a.d) a.from a.from a.oo.now (omega arith)))

pub overflow_mul-q : goal.overflow_mul-q
overflow_mul-q c = let w = c.requires.within.0 in omega (arith, w.places, w.few, w.dims)

pub overflow_add-q : goal.overflow_add-q
overflow_add-q c = let w = c.requires.within.0 in omega (arith, w.places, w.few, w.dims)

pub at-t-requires : goal.at-t-requires
at-t-requires c = let w = c.requires.within.0 in omega (arith, w.places, w.few, w.dims)

pub goes_on-requires : goal.goes_on-requires
goes_on-requires c =
    let L = c.loop-q in
    let a = c.args in
    let e = row-few a.spans.now a.d c.requires.own.0.row in
    let l = L.invariant.3 in
    let g = L.invariant.4 in
    let r = c.requires.own.0.row.fits in
    (omega arith, omega arith)

pub overflow_sub-all : goal.overflow_sub-all
overflow_sub-all c =
    let L = c.loop-q in
    let f = c.requires.own.1 in
    let g = L.invariant.3 in
    omega arith

pub carry_row-requires : goal.carry_row-requires
carry_row-requires c =
    let L = c.loop-q in
    let f = c.requires.own.1 in
    let g = L.invariant.3 in
    let h = ((again (goal.at.carry_row-requires c).After-goes_on) c.if-goes_on.true).0 in
    let w = c.requires.within.0.objects in
    let e = L.invariant.2 in
    (c.requires.own.0, (omega arith, omega arith))

pub overflow_add-q-then-goes_on : goal.overflow_add-q-then-goes_on
overflow_add-q-then-goes_on c =
    let x = c.requires.within.0.few in
    omega arith

pub loop-q-smaller-then-goes_on : goal.loop-q-smaller-then-goes_on
loop-q-smaller-then-goes_on c =
    let L = c.loop-q in
    let a = c.args in
    let e = row-few a.spans.now a.d c.requires.own.0.row in
    let l = L.invariant.3 in
    fewer L.q a.to L.left L.left c.loop-q-test.true (omega (arith, e, l))

pub loop-q-preserved-then-goes_on : goal.loop-q-preserved-then-goes_on
loop-q-preserved-then-goes_on c =
    let L = c.loop-q in
    let a = c.args in
    let f = c.requires.own.1 in
    let u = (again (goal.at.loop-q-preserved-then-goes_on c).After-goes_on) c.if-goes_on.true in
    let h = u.0 in
    let v = some-found a.spans.now a.op.now a.m a.d L.q L.left L.left c.requires.own.0 L.invariant.3 u.1 (λ z. omega arith) in
    let r = carried_at a.spans.now a.op.now a.m a.d in
    let w = c.requires.within.0.objects in
    let e = L.invariant.2 in (
      omega arith,
      omega arith,
      c.carry_row.auto.oo ∙ e,
      L.invariant.3,
      L.invariant.4,
      c.carry_row.ensures ∙ (λ i. set (L.invariant.5 i) L.q ((ap (λ (k : ℕ). nat_abs (get_or (owned_at a.spans.now a.d) (k - L.left) no_span).object) f ∙ v) i)) ∙ rows_more r a.from L.q a.oo.now L.invariant.0 (omega arith),
    )

pub to_search-rest-requires : goal.to_search-rest-requires
to_search-rest-requires c = tt

pub overflow_mul-rest : goal.overflow_mul-rest
overflow_mul-rest c =
    let a = c.args in
    let e = row-few a.spans.now a.d c.requires.own.0.row in
    let n = (rest (goal.at.overflow_mul-rest c).After-to_search-rest) in
    omega arith

pub overflow_sub-end : goal.overflow_sub-end
overflow_sub-end c =
    let g = c.loop-q.invariant.4 in
    let n = (rest (goal.at.overflow_sub-end c).After-to_search-rest) in
    omega arith

pub search-left-requires : goal.search-left-requires
search-left-requires c =
    let a = c.args in
    let e = row-few a.spans.now a.d c.requires.own.0.row in
    let g = c.loop-q.invariant.4 in
    let n = (rest (goal.at.search-left-requires c).After-to_search-rest) in
    let r = c.requires.own.0.row.fits in
    (omega arith, omega arith)

pub loop-q-smaller-then-left-eq0 : goal.loop-q-smaller-then-left-eq0
loop-q-smaller-then-left-eq0 c =
    let L = c.loop-q in
    let a = c.args in
    let f = c.requires.own.1 in
    let n = none_found a.spans.now a.op.now a.m a.d L.q c.to_search-rest.result c.search-left.result c.requires.own.0 (rest (goal.at.loop-q-smaller-then-left-eq0 c).After-to_search-rest) (found (goal.at.loop-q-smaller-then-left-eq0 c).After-search-left) c.if-left-eq0.true
    (c.requires.within.1 L.q L.invariant.0 c.loop-q-test.true) in
    let h = search-some L.left a.all c.to_search-rest.result c.to_search-rest.ensures (omega (arith, n, f)) in
    let z = c.if-left-eq0.true in
    omega arith

pub loop-q-preserved-then-left-eq0 : goal.loop-q-preserved-then-left-eq0
loop-q-preserved-then-left-eq0 c =
    let L = c.loop-q in
    (L.invariant.0, L.invariant.1, L.invariant.2, (most (goal.at.loop-q-preserved-then-left-eq0 c).After-search-left), L.invariant.4, L.invariant.5)

pub overflow_sub-all-in-loop-q : goal.overflow_sub-all-in-loop-q
overflow_sub-all-in-loop-q c =
    let f = c.requires.own.1 in
    let m = (most (goal.at.overflow_sub-all-in-loop-q c).After-search-left) in
    omega arith

pub carry_row-requires-in-loop-q : goal.carry_row-requires-in-loop-q
carry_row-requires-in-loop-q c =
    let L = c.loop-q in
    let f = c.requires.own.1 in
    let m = (most (goal.at.carry_row-requires-in-loop-q c).After-search-left) in
    let n = c.if-left-eq0.false in
    let w = c.requires.within.0.objects in
    let e = L.invariant.2 in
    (c.requires.own.0, (omega (arith, n), omega arith))

pub overflow_add-q-in-loop-q : goal.overflow_add-q-in-loop-q
overflow_add-q-in-loop-q c =
    let x = c.requires.within.0.few in
    omega arith

pub loop-q-smaller : goal.loop-q-smaller
loop-q-smaller c =
    let L = c.loop-q in
    let a = c.args in
    let e = row-few a.spans.now a.d c.requires.own.0.row in
    let m = (most (goal.at.loop-q-smaller c).After-search-left) in
    fewer L.q a.to c.search-left.result L.left c.loop-q-test.true (omega (arith, e, m))

pub loop-q-preserved : goal.loop-q-preserved
loop-q-preserved c =
    let L = c.loop-q in
    let a = c.args in
    let f = c.requires.own.1 in
    let v = some-found a.spans.now a.op.now a.m a.d L.q c.to_search-rest.result c.search-left.result c.requires.own.0 (rest (goal.at.loop-q-preserved c).After-to_search-rest) (found (goal.at.loop-q-preserved c).After-search-left) c.if-left-eq0.false in
    let r = carried_at a.spans.now a.op.now a.m a.d in
    let w = c.requires.within.0.objects in
    let e = L.invariant.2 in (
      omega arith,
      omega arith,
      c.carry_row-in-loop-q.auto.oo ∙ e,
      (most (goal.at.loop-q-preserved c).After-search-left),
      L.invariant.4,
      c.carry_row-in-loop-q.ensures ∙ (λ i. set (L.invariant.5 i) L.q ((ap (λ (k : ℕ). nat_abs (get_or (owned_at a.spans.now a.d) (k - c.search-left.result) no_span).object) f ∙ v) i)) ∙ rows_more r a.from L.q a.oo.now L.invariant.0 (omega arith),
    )

pub shape_of-oo : goal.shape_of-oo
shape_of-oo c = c.loop-q.invariant.2

pub returns : goal.returns
returns c =
    let L = c.loop-q in
    let a = c.args in
    L.invariant.5 ∙ rows_end (carried_at a.spans.now a.op.now a.m a.d) a.from L.q a.to a.oo.now L.invariant.0 L.invariant.1 (omega arith)
