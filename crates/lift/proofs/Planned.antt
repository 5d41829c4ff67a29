-- The lift of tables that hold a plan: what its calls ask, and what they leave.
--     plan-over        the count says that there is no room
--     plan-within      it says that there is
--     plan-bases       the numbers of the first lifted darts can be made from the counts
--     plan-first, plan-last, plan-work    and then the write may start
use Rattle.std.proofs.Common.{◌≡◌, ℕ, suc, ◌+◌, ◌*◌, ◌<◌, ◌≤◌, List, length, sym, refl, ap, ◌∙◌, subst, ⊎_elim, arith}
use Rattle.paper.specs.Width.{work_width, dart_limit}
use Rattle.paper.specs.Below.{sum_below}
use Rattle.paper.specs.Map.{Map}
use Rattle.paper.specs.Table.{Tables, LiftedTables}
use Rattle.paper.specs.Lift.{lifted_darts}
use Rattle.paper.specs.Call.{held}
use Rattle.theory.proofs.Bool.{less-or}
use Rattle.number.specs.Count.{below}
use Rattle.number.specs.First.{first}
use Rattle.number.proofs.Sum.{sum_same}
use Rattle.base.specs.Base.{base, Bases}
use Rattle.tally.specs.Level.{Tallied}
use Rattle.lift.specs.Lifted.{Liftable, Raised}
use Rattle.lift.proofs.Tail.{raised-over}

module _ {T : Tables} {m n : ℕ} {O : LiftedTables} {room : ℕ} (X : Liftable T m n O room) where
  abbrev M : Map
  M = held T m n

  abbrev N : ℕ
  N = length (lifted_darts M)

  module _ {w₁ : List ℕ} {r : ℕ} (Y : Tallied M m n room w₁ r) where
    pub plan-over : room < r → {O' : LiftedTables} → O' ≡ O → Raised M room O r O'
    plan-over l {O'} same = ⊎_elim
        (λ h. subst (λ (x : ℕ). Raised M room O x O') (sym (Y.over h)) (raised-over M h same))
        (λ h. absurd (let e = Y.total h in let z : ⊥ = omega arith in z))
        (less-or room N)

    pub plan-within : r ≤ room → (N ≤ room) × (r ≡ N)
    plan-within l = ⊎_elim (λ h. absurd (let e = Y.over h in let z : ⊥ = omega arith in z)) (λ h. (h, Y.total h)) (less-or room N)

    pub plan-first : r ≤ room → (w₂ : List ℕ) → ((e : ℕ) → e < n → base w₂ n 0 e ≡ 2 * sum_below e (base w₁ n 0)) → (d : ℕ) → d < n → base w₂ n 0 d ≡ first M d 0
    unfolding first sum_below
    plan-first l w₂ f d h =
        let a = sum_same d (base w₁ n 0) (below M (suc m)) (λ e g. Y.bases (plan-within l).0 e (omega arith)) in
        let b = ap (λ (x : ℕ). sum_below d (below M (suc x))) X.plan.holds.dims in
        f d h ∙ omega arith

    pub plan-last : r ≤ room → (w₂ : List ℕ) → ((e : ℕ) → e < n → base w₂ n 1 e ≡ 2 * sum_below (suc e) (base w₁ n 0)) → (d : ℕ) → d < n → base w₂ n 1 d ≡ first M d (suc m)
    unfolding first
    plan-last l w₂ f d h =
        let a = sum_same (suc d) (base w₁ n 0) (below M (suc m)) (λ e g. Y.bases (plan-within l).0 e (omega arith)) in
        let b = ap (λ (x : ℕ). sum_below d (below M (suc x))) X.plan.holds.dims in
        let c : sum_below (suc d) (below M (suc m)) ≡ below M (suc m) d + sum_below d (below M (suc m)) = (unfold sum_below in refl) in
        f d h ∙ omega arith

  pub plan-bases : {w₁ : List ℕ} {r : ℕ} → length w₁ ≡ T.work → (r ≤ room → r ≡ 2 * sum_below n (base w₁ n 0)) → r ≤ room
      → Bases w₁ n × (2 * sum_below n (base w₁ n 0) ≤ dart_limit)
  plan-bases {w₁} k f l =
      let a = f l in
      let b = X.lifted.few in
      let c = X.own.work in
      (record { few = X.plan.few; long = omega arith }, omega arith)

  pub plan-work : (v₁ : List ℕ) {r : ℕ} → length v₁ ≡ O.work → r ≤ room → r * work_width ≤ length v₁
  plan-work v₁ k l = let a = X.lifted.work in omega arith
