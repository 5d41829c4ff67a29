use Rattle.std.proofs.Common.{◌≤◌, ◌≡◌, ℕ, ◌+◌, ◌-◌, Bool, sym, refl, ap, ◌∙◌, subst, arith}
use Rattle.fault.specs.Fault.{fault_of, lowest, first_from, Tried}
use Rattle.fault.proofs.Any.{first_off}
use Rattle.fault.proofs.Tried.{tried-none, tried-more}
use Rattle.checker.proofs.Faultless.{faultless}
use Rattle.checker.proofs.Judged.{order, lowest-some, lowest-none, from-hit, from_more, from_end, judged}
use Rattle.checker.proofs.first_fault.Goals as goal

pub returns-then-all_well : goal.returns-then-all_well
returns-then-all_well c w =
    let a = c.args in
    faultless a.links.now a.places.now a.spans.now a.m a.n c.requires.1 (sym c.all_well.ensures ∙ c.if-all_well.true)
    ∙ judged a.links.now a.places.now a.spans.now w a.m a.n

pub loop-refusal-init : goal.loop-refusal-init
loop-refusal-init c =
    let a = c.args in
    (tried-none a.links.now a.places.now a.spans.now a.m a.n, refl)

pub first_at_fault-requires : goal.first_at_fault-requires
first_at_fault-requires c =
    let a = c.args in
    let L = c.loop-refusal in
    (c.requires.0, subst (λ (k : ℕ). Tried k a.links.now a.places.now a.spans.now a.m a.n) (sym (order _ L.refusal-index c.loop-refusal-test.true)) L.invariant.0)

pub overflow_cast-value : goal.overflow_cast-value
overflow_cast-value c =
    let a = c.args in
    let few = c.requires.0.links_fit.few in
    let r = lowest-some a.n _ c.in-Some.d (sym c.first_at_fault.ensures ∙ c.in-Some.is) in
    omega (arith, few, r.1)

pub returns-in-Some : goal.returns-in-Some
returns-in-Some c w =
    let a = c.args in
    let f : ℕ → ℕ → Bool = λ j. fault_of j a.links.now a.places.now a.spans.now a.m a.n in
    let L = c.loop-refusal in
    let h = c.loop-refusal-test.true in
    from-hit f a.n (6 + L.refusal-index) c.in-Some.d _ (first_from 6 6 f a.n) (omega arith) (order _ L.refusal-index h) (sym c.first_at_fault.ensures ∙ c.in-Some.is) L.invariant.1
    ∙ judged a.links.now a.places.now a.spans.now w a.m a.n

pub loop-refusal-preserved : goal.loop-refusal-preserved
loop-refusal-preserved c =
    let a = c.args in
    let f : ℕ → ℕ → Bool = λ j. fault_of j a.links.now a.places.now a.spans.now a.m a.n in
    let W = first_from 6 6 f a.n in
    let L = c.loop-refusal in
    let k = 6 + L.refusal-index in
    let h : k ≤ 11 = omega arith in
    let s : k + 1 ≡ 6 + (L.refusal-index + 1) = omega arith in
    let q = order _ L.refusal-index c.loop-refusal-test.true in
    let e = sym c.first_at_fault.ensures ∙ c.in_default.is in (
      subst (λ (j : ℕ). Tried j a.links.now a.places.now a.spans.now a.m a.n) s
          (tried-more a.links.now a.places.now a.spans.now a.m a.n k L.invariant.0 (first_off (f k) a.n (lowest-none a.n (f k) (ap (λ (j : ℕ). lowest a.n (f j)) (sym q) ∙ e)))),
      subst (λ (j : ℕ). first_from (12 - j) j f a.n ≡ W) s (from_more f a.n k _ W h q e L.invariant.1),
    )

pub returns : goal.returns
returns c w =
    let a = c.args in
    let f : ℕ → ℕ → Bool = λ j. fault_of j a.links.now a.places.now a.spans.now a.m a.n in
    let W = first_from 6 6 f a.n in
    let L = c.loop-refusal in
    from_end f a.n (6 + L.refusal-index) W (omega arith) L.invariant.1
    ∙ judged a.links.now a.places.now a.spans.now w a.m a.n
