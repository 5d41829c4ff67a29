-- A listed orbit, for writes to each of its darts.
--     listed-marked    the darts that the queue lists are those that are marked
--     listed-size      there are as many as are marked
--     listed-few       no more darts are listed than there are
--     stands-ready     a flood may walk in the plan's tables as a run leaves them
--     lifted-ready     and in the lifted side's
use Rattle.std.proofs.Common.{◌≡◌, ℕ, ◌<◌, ◌≤◌, Bool, true, eqb, List, length, ℤ, sym, refl, ap, ◌∙◌, subst, ⊎_elim, arith, eq-eqb, eqb-true}
use Rattle.paper.specs.Width.{dim_limit}
use Rattle.paper.specs.Orbit.{marked, size}
use Rattle.paper.specs.Step.{Maps, Room}
use Rattle.paper.specs.Table.{lent_lifted}
use Rattle.theory.proofs.Bool.{decided, clash}
use Rattle.theory.proofs.Below.{any-in, any_out, count-le, count-into}
use Rattle.hold.specs.Rows.{listed}
use Rattle.hold.specs.Stand.{PlanStands, LiftedStands}
use Rattle.hold.proofs.Stand.{plan-reads, plan-has-room, lifted-has-room, lifted_links}
use Rattle.orbit.specs.Sparse.{index, queue, Sparse, In}
use Rattle.orbit.specs.Flood.{Ready, Listed}
use Rattle.orbit.proofs.Sparse.{count-all, one_index}
use Rattle.orbit.proofs.Held.{holds-links, reads-ready}

pub listed-marked : {n : ℕ} {ms : List Bool} {w : List ℕ} {r : ℕ} → Listed n ms w r → (d : ℕ) → d < n → listed (queue n w) r d ≡ marked ms d
listed-marked {n} {ms} {w} {r} L d h = ⊎_elim
    (λ e. let q = L.all d h e in any-in r (λ i. eqb d (queue n w i)) q.0 q.1 (eq-eqb d (queue n w q.0) (sym q.2)) ∙ sym e)
    (λ e. ⊎_elim (λ t. absurd (clash (found t) e)) (λ f. f ∙ sym e) (decided (listed (queue n w) r d)))
    (decided (marked ms d))
  where
    found : listed (queue n w) r d ≡ true → marked ms d ≡ true
    found t =
        let q = any_out r (λ i. eqb d (queue n w i)) t in
        subst (λ (k : ℕ). marked ms k ≡ true) (sym (eqb-true d (queue n w q.0) q.2)) (L.marks q.0 q.1)

-- a set of the marked darts, each at its index: one to one, both ways
pub listed-size : {n : ℕ} (ms : List Bool) {w : List ℕ} {r : ℕ} → Sparse n n w r → ((q : ℕ) → q < r → marked ms (queue n w q) ≡ true)
    → ((e : ℕ) → e < n → marked ms e ≡ true → In n w r e) → r ≡ size n ms
unfolding size
listed-size {n} ms {w} {r} X marks all =
    let a = count-into r n (λ _. true) (marked ms) (queue n w) (λ q h _. (X.below q h, marks q h)) (λ q p g h _ _ e. one_index n n w r X q p g h e) in
    let b =
    count-into n r (marked ms) (λ _. true) (index w)
    (λ e h s. let f = at e h s in let l = f.0 in (l, refl))
    (λ d e g h s u p. sym (at d g s).1 ∙ ap (queue n w) p ∙ (at e h u).1) in
    let c = count-all r in
    omega arith
  where
    at : (e : ℕ) → e < n → marked ms e ≡ true → (index w e < r) × (queue n w (index w e) ≡ e)
    at e h s =
        let f = all e h s in
        let l = f.1 in
        let z : index w e ≡ f.0 = ap (index w) (sym f.2) ∙ X.back f.0 l in
        (omega arith, ap (queue n w) z ∙ f.2)

pub listed-few : {n : ℕ} {ms : List Bool} {w : List ℕ} {r : ℕ} → Listed n ms w r → r ≤ n
unfolding size
listed-few {n} {ms} K = subst (λ (k : ℕ). k ≤ n) (sym K.many) (count-le n (marked ms))

pub stands-ready : {R : Room} {s : Maps} {m n : ℕ} {ls : List ℕ} {ps ss : List ℤ} {w : List ℕ} → PlanStands R s m n ls ps ss (length w) → Ready m n ls w
stands-ready {m = m} P =
    let H = plan-has-room P in
    let x = H.work in
    reads-ready (plan-reads P) (subst (λ (k : ℕ). k ≤ dim_limit) P.held.map.dims P.good.plan_dim) H.links (omega arith)

pub lifted-ready : {R : Room} {s : Maps} {m n : ℕ} {ls : List ℕ} {ps : List ℤ} {os w : List ℕ} → LiftedStands R s m n (lent_lifted ls ps os (length w)) → Ready m n ls w
lifted-ready {s = s} {m} {n} {ls} P =
    let H = lifted-has-room P in
    let x = H.work in
    record {
      darts = H.few;
      dims = subst (λ (k : ℕ). k ≤ dim_limit) P.held.map.dims P.good.lifted_dim;
      rows = H.links;
      room = omega arith;
      links = holds-links s.lifted m n ls (lifted_links P) P.good.lifted;
    }
