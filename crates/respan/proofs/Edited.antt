-- SPAN, 1A and CLEAR, refused and accepted.
--     dart-within        the dart is one of the plan's, where neither of the first refusals is met
--     clear-row                          the splice of CLEAR leaves no span
--     clear_first, clear-accepted        the first refusal of CLEAR, and what it leaves where there is none
--     span_fits, span-row                the splice of SPAN may be made of a row that is not refused, and leaves the row with the new span in it
--     first-dart, first-row, span-accepted      the first refusal of SPAN of an object, by the dart and by its row, and what it leaves where there is none
--     span_none        SPAN is the one of object 0
use Rattle.std.proofs.Common.{◌≡◌, ℕ, ◌-◌, ◌<◌, Bool, true, false, cond, not, eqb, leb, List, [], ◌∷◌, length, take, drop, ℤ, sym, refl, ap, ◌∙◌, subst, arith, leb-false}
use lib.Signed.{lt_z, le_z}
use Rattle.paper.specs.Width.{span_limit}
use Rattle.paper.specs.Below.{any_of}
use Rattle.paper.specs.Map.{Owned, spans_of, count, owned}
use Rattle.paper.specs.Span.{ordered, row_fits}
use Rattle.paper.specs.Join.{clashes, with_span}
use Rattle.paper.specs.Refusal.{number, ◌if◌, answer, judge}
use Rattle.paper.specs.declared.refusal.Refusal.TheVariants.{NoPlan, NoSuchDart, EmptySpan, SpanOverlaps, RowFull}
use Rattle.paper.specs.Table.{owned_at}
use Rattle.paper.specs.Step.{Maps, Room, owned_span, refusals, edited, effect, value, reply, after}
use Rattle.paper.specs.declared.Command.{Command}
use Rattle.paper.specs.declared.Command.TheVariants as command
use Rattle.paper.specs.declared.Answer.{Answer}
use Rattle.theory.proofs.Bool.{on}
use Rattle.theory.proofs.Order.{le_not}
use Rattle.hold.specs.Stand.{PlanStands, Edited}
use Rattle.hold.proofs.Stand.{edit-accepted, plan-reads}
use Rattle.respan.specs.Splice.{spliced, insertion, Fits}
use Rattle.respan.specs.Cell.{Respanned, dart_refusal, is_other, row_refusal}
use Rattle.respan.proofs.Spliced.{clear-spliced}
use Rattle.respan.proofs.Joined.{insertion-within, as_one, with_span-spliced, clashes-met, with_span-full}

pub dart-within : (m n d : ℕ) → dart_refusal m n d ≡ 0 → d < n
dart-within m n d e = go (eqb m 0) (leb n d) refl e
  where
    go : (a b : Bool) → leb n d ≡ b → cond a (number NoPlan) (cond b (number NoSuchDart) 0) ≡ 0 → d < n
    go true b t e = absurd (let z : ⊥ = omega arith in z)
    go false true t e = absurd (let z : ⊥ = omega arith in z)
    go false false t e = leb-false n d t

-- ---- the splice of SPAN
-- what a row that is not refused has: the span is no empty one, and there is room once those that it meets are gone
row_room : (x : Owned) (a b : ℕ) (r : List Owned) → row_refusal x a b r ≡ 0 → (lt_z x.span.lo x.span.hi ≡ true) × (length r - b < span_limit)
row_room x a b r e = go (le_z x.span.hi x.span.lo) (any_of (is_other x.object) (take b (drop a r))) (leb span_limit (length r - b)) refl refl e
  where
    go : (s t u : Bool) → le_z x.span.hi x.span.lo ≡ s → leb span_limit (length r - b) ≡ u → cond s (number EmptySpan) (cond t (number SpanOverlaps) (cond u (number RowFull) 0)) ≡ 0
        → (lt_z x.span.lo x.span.hi ≡ true) × (length r - b < span_limit)
    go true t u f g e = absurd (let z : ⊥ = omega arith in z)
    go false true u f g e = absurd (let z : ⊥ = omega arith in z)
    go false false true f g e = absurd (let z : ⊥ = omega arith in z)
    go false false false f g e = (on (lt_z x.span.lo x.span.hi) (sym (le_not x.span.hi x.span.lo) ∙ f), leb-false span_limit (length r - b) g)

module _ (x : Owned) where
  pub span_fits : (r : List Owned) → row_refusal x (insertion x r).kept (insertion x r).dropped r ≡ 0 → Fits (insertion x r) (length r)
  span_fits r e =
      let h = (row_room x (insertion x r).kept (insertion x r).dropped r e).1 in
      let g = insertion-within x r in
      record { within = g; short = omega arith }

-- ---- the commands
module _ {R : Room} {s : Maps} {m n : ℕ} {ls : List ℕ} {ps ss : List ℤ} {w : ℕ} (P : PlanStands R s m n ls ps ss w) (d : ℕ) where
  pub clear-row : d < n → [] ≡ spliced 0 (length (owned_at ss d)) [] (owned s.plan d)
  clear-row h =
      let r = owned s.plan d in
      sym (ap (λ l. spliced 0 (length l) [] r) (sym ((plan-reads P).same d h)) ∙ clear-spliced r)

  pub clear_first : dart_refusal m n d ≡ (judge 0 (refusals R s (command.Clear d))).number
  unfolding judge refusals
  clear_first = (λ k. dart_refusal (sym P.held.map.dims k) (sym P.held.map.darts k) d) ∙ go (eqb s.plan.dim 0) (leb (count s.plan) d)
    where
      go : (a b : Bool) → cond a (number NoPlan) (cond b (number NoSuchDart) 0) ≡ (cond a (answer (number NoPlan) 0) (cond b (answer (number NoSuchDart) 0) (answer 0 0))).number
      go true b = refl
      go false true = refl
      go false false = refl

  pub clear-accepted : {k : ℕ} {ss' : List ℤ} → dart_refusal m n d ≡ 0 → Respanned s.plan d (λ x. []) k m n ls ps ss' → Edited R s (command.Clear d) (answer 0 k) m n ls ps ss'
  unfolding effect value
  clear-accepted e X = edit-accepted R s (command.Clear d) X.plan (sym clear_first ∙ e) (ap (answer 0) X.value)

  module _ (lo hi : ℤ) (object : ℕ) where
    abbrev c : Command
    c = command.SpanOf d lo hi object

    abbrev x : Owned
    x = owned_span lo hi object

    -- the row as it stands in the table, and what the new span meets there
    abbrev r : List Owned
    r = owned_at ss d

    abbrev a : ℕ
    a = (insertion x r).kept

    abbrev b : ℕ
    b = (insertion x r).dropped

    in_order : d < n → ordered (spans_of r) ≡ true
    in_order h = ap (λ l. ordered (spans_of l)) (sym ((plan-reads P).same d h)) ∙ P.good.plan.order d (subst (λ (k : ℕ). d < k) (sym P.held.map.darts) h)

    pub span-row : d < n → row_refusal x a b r ≡ 0 → with_span x (owned s.plan d) ≡ spliced a b (as_one x a b r ∷ []) (owned s.plan d)
    span-row h e =
        ap (with_span x) ((plan-reads P).same d h)
        ∙ with_span-spliced x r (row_room x a b r e).0 (in_order h)
        ∙ ap (spliced a b (as_one x a b r ∷ [])) (sym ((plan-reads P).same d h))

    -- SPAN's refusals, after those that CLEAR has too
    abbrev later : Answer
    later = judge 0 (EmptySpan if le_z hi lo ∷ SpanOverlaps if any_of (clashes x) (owned s.plan d) ∷ RowFull if not (row_fits (spans_of (with_span x (owned s.plan d)))) ∷ [])

    pub first-dart : (dart_refusal m n d ≡ 0 → ⊥) → dart_refusal m n d ≡ (judge 0 (refusals R s c)).number
    unfolding judge refusals
    first-dart f = same ∙ go (eqb s.plan.dim 0) (leb (count s.plan) d) (λ e. f (same ∙ e))
      where
        same : dart_refusal m n d ≡ dart_refusal s.plan.dim (count s.plan) d
        same = λ k. dart_refusal (sym P.held.map.dims k) (sym P.held.map.darts k) d

        go : (a b : Bool) → (cond a (number NoPlan) (cond b (number NoSuchDart) 0) ≡ 0 → ⊥)
            → cond a (number NoPlan) (cond b (number NoSuchDart) 0) ≡ (cond a (answer (number NoPlan) 0) (cond b (answer (number NoSuchDart) 0) later)).number
        go true b f = refl
        go false true f = refl
        go false false f = absurd (f refl)

    pub first-row : dart_refusal m n d ≡ 0 → row_refusal x a b r ≡ (judge 0 (refusals R s c)).number
    unfolding judge refusals
    first-row e =
        let h = dart-within m n d e in
        tests_same h (le_z hi lo) refl
        ∙ (λ k. told (sym ((plan-reads P).same d h) k))
        ∙ row-number (le_z hi lo) (any_of (clashes x) (owned s.plan d)) (not (row_fits (spans_of (with_span x (owned s.plan d)))))
        ∙ go (eqb s.plan.dim 0) (leb (count s.plan) d) ((λ k. dart_refusal (P.held.map.dims k) (P.held.map.darts k) d) ∙ e)
      where
        -- the number by document 02's tests of a row
        told : List Owned → ℕ
        told l = cond (le_z hi lo) (number EmptySpan) (cond (any_of (clashes x) l) (number SpanOverlaps) (cond (not (row_fits (spans_of (with_span x l)))) (number RowFull) 0))

        -- of no empty span the code's tests are these
        tests_same : d < n → (t : Bool) → le_z hi lo ≡ t → cond t (number EmptySpan) (cond (any_of (is_other x.object) (take b (drop a r))) (number SpanOverlaps) (cond (leb span_limit (length r - b)) (number RowFull) 0))
            ≡ cond t (number EmptySpan) (cond (any_of (clashes x) r) (number SpanOverlaps) (cond (not (row_fits (spans_of (with_span x r)))) (number RowFull) 0))
        tests_same h true f = refl
        tests_same h false f =
            let p = on (lt_z lo hi) (sym (le_not hi lo) ∙ f) in
            λ k. cond (sym (clashes-met x r (in_order h)) k) (number SpanOverlaps) (cond (sym (with_span-full x r p (in_order h)) k) (number RowFull) 0)

        row-number : (a b c : Bool) → cond a (number EmptySpan) (cond b (number SpanOverlaps) (cond c (number RowFull) 0))
            ≡ (cond a (answer (number EmptySpan) 0) (cond b (answer (number SpanOverlaps) 0) (cond c (answer (number RowFull) 0) (answer 0 0)))).number
        row-number true b c = refl
        row-number false true c = refl
        row-number false false true = refl
        row-number false false false = refl

        go : (a b : Bool) → cond a (number NoPlan) (cond b (number NoSuchDart) 0) ≡ 0
            → later.number ≡ (cond a (answer (number NoPlan) 0) (cond b (answer (number NoSuchDart) 0) later)).number
        go true b e = absurd (let z : ⊥ = omega arith in z)
        go false true e = absurd (let z : ⊥ = omega arith in z)
        go false false e = refl

    pub span-accepted : {k : ℕ} {ss' : List ℤ} → dart_refusal m n d ≡ 0 → row_refusal x a b r ≡ 0 → Respanned s.plan d (with_span x) k m n ls ps ss' → Edited R s c (answer 0 k) m n ls ps ss'
    unfolding effect value
    span-accepted h e X = edit-accepted R s c X.plan (sym (first-row h) ∙ e) (ap (answer 0) X.value)

-- refused, accepted and written alike
pub span_none : {R : Room} {s : Maps} {d : ℕ} {lo hi : ℤ} {r : Answer} {m n : ℕ} {ls : List ℕ} {ps ss : List ℤ}
    → Edited R s (command.SpanOf d lo hi 0) r m n ls ps ss → Edited R s (command.Span d lo hi) r m n ls ps ss
unfolding refusals edited effect value reply after
span_none X = record { answer = X.answer; plan = X.plan }
