-- LIFT: what it asks follows from what a run leaves; its refusals in their order; and what it leaves.
--     lift-asks        the tables as a run leaves them may be lifted
--     lift-none, lift-top, lift-large, lift-fits     which refusal is met first
--     raised-refused   a refusal leaves the lifted side
--     raised-over, raised-done      what the lift of the tables leaves is what LIFT does
use Rattle.std.proofs.Common.{◌≡◌, ℕ, suc, ◌<◌, ◌≤◌, Bool, cond, List, length, ℤ, pos, sym, refl, ap, ◌∙◌, subst, subst₂, ⊎_elim, arith, le-ltb, lt-ltb, eq-eqb, ne_eqb, le-leb}
use borrow.Author.Tests.{lt-leb}
use Rattle.paper.specs.Width.{link_width, place_width, dim_limit}
use Rattle.paper.specs.Map.{Map, count}
use Rattle.paper.specs.Lift.{lifted_darts, lift, carried_objects}
use Rattle.paper.specs.Table.{link_at, place_at, map_of, LiftedTables, lent, lifted_lengths}
use Rattle.paper.specs.Refusal.{answer, judge, accepted}
use Rattle.paper.specs.Step.{Maps, Room, refusals, effect, value}
use Rattle.paper.specs.declared.Command.TheVariants.{Lift}
use Rattle.paper.specs.declared.Answer.{Answer}
use Rattle.theory.specs.Fit.{ObjectsFit}
use Rattle.theory.proofs.LiftValid.{lift-dim, lift-count}
use Rattle.theory.proofs.Bool.{less-or}
use Rattle.hold.specs.Hold.{Reads}
use Rattle.hold.specs.Stand.{PlanStands, LiftedStands, Replaced}
use Rattle.hold.proofs.Rows.{table-own}
use Rattle.hold.proofs.Objects.{objects-own}
use Rattle.hold.proofs.Room.{lifted-room}
use Rattle.hold.proofs.Stand.{lift-refused, lift-accepted, plan-reads, plan-map, plan-has-room}
use Rattle.lift.specs.Lifted.{Liftable, BlankPast, Lifted}

pub lift-asks : {R : Room} {s : Maps} {m n lm ln : ℕ} {ls : List ℕ} {ps ss : List ℤ} {w : ℕ} {O : LiftedTables} {room : ℕ}
    → PlanStands R s m n ls ps ss w → LiftedStands R s lm ln O → R.lifted ≡ room → Liftable (lent ls ps ss w) m n O room
lift-asks {m = m} {n} {ls = ls} {ss = ss} {O = O} {room} P L e = record {
  plan = subst (λ (M : Map). Reads M m n ls ss) (sym (plan-map P)) (plan-reads P);
  objects = subst ObjectsFit (sym (plan-map P)) P.fit;
  own = plan-has-room P;
  lifted = lifted-room (lifted_lengths O) room (let r = L.room in omega arith);
}

-- ---- the refusals
module _ (R : Room) (s : Maps) where
  pub lift-none : s.plan.dim ≡ 0 → (judge 0 (refusals R s Lift)).number ≡ 12
  unfolding refusals judge
  lift-none e = rw (judge, eq-eqb s.plan.dim 0 e) refl

  module _ (some : s.plan.dim ≡ 0 → ⊥) where
    pub lift-top : dim_limit ≤ s.plan.dim → (judge 0 (refusals R s Lift)).number ≡ 22
    unfolding refusals judge
    lift-top h = rw (judge, ne_eqb s.plan.dim 0 some, le-leb dim_limit s.plan.dim h) refl

    pub lift-large : s.plan.dim < dim_limit → R.lifted < length (lifted_darts s.plan) → (judge 0 (refusals R s Lift)).number ≡ 20
    unfolding refusals judge
    lift-large h l = rw (judge, ne_eqb s.plan.dim 0 some, lt-leb dim_limit s.plan.dim h, lt-ltb R.lifted (length (lifted_darts s.plan)) l) refl

    pub lift-fits : s.plan.dim < dim_limit → length (lifted_darts s.plan) ≤ R.lifted → (judge 0 (refusals R s Lift)).number ≡ 0
    unfolding refusals judge
    lift-fits h l = rw (judge, ne_eqb s.plan.dim 0 some, lt-leb dim_limit s.plan.dim h, le-ltb R.lifted (length (lifted_darts s.plan)) l) refl

-- ---- what is left
module _ {R : Room} {s : Maps} {m n lm ln : ℕ} {ls : List ℕ} {ps ss : List ℤ} {w : ℕ} {O : LiftedTables} {room : ℕ}
    (P : PlanStands R s m n ls ps ss w) (L : LiftedStands R s lm ln O) (e : R.lifted ≡ room) where
  abbrev N : ℕ
  N = length (lifted_darts s.plan)

  -- the sizes after it: those of the lift where it is accepted, else as they were
  abbrev pub Leaves : Answer → LiftedTables → Type 0
  Leaves r O' = Replaced R s Lift r (cond (accepted r) (suc m) lm) (cond (accepted r) r.value ln) O'

  pub raised-refused : (k : ℕ) → (judge 0 (refusals R s Lift)).number ≡ k → (k ≡ 0 → ⊥) → {r : Answer} → r ≡ answer k 0 → {O' : LiftedTables} → O' ≡ O → Leaves r O'
  raised-refused k q f z {O'} l =
      subst₂ Leaves (sym z) (sym l)
      (subst (λ (b : Bool). Replaced R s Lift (answer k 0) (cond b (suc m) lm) (cond b 0 ln) O) (sym (ne_eqb k 0 f))
      (lift-refused R s Lift L.held (λ y. f (sym q ∙ y)) (ap (λ (x : ℕ). answer x 0) (sym q))))

  dims : s.plan.dim ≡ m
  dims = P.held.map.dims

  module _ (some : m ≡ 0 → ⊥) (low : m < dim_limit) {d old : ℕ} {O' : LiftedTables} (X : Lifted (map_of ls ps ss m n) room old O d O') where
    -- the same of the plan
    Y : Lifted s.plan room old O d O'
    Y = subst (λ (M : Map). Lifted M room old O d O') (plan-map P) X

    is_some : s.plan.dim ≡ 0 → ⊥
    is_some z = some (sym dims ∙ z)

    is-low : s.plan.dim < dim_limit
    is-low = subst (λ (k : ℕ). k < dim_limit) (sym dims) low

    pub raised-over : room < d → {r : Answer} → r ≡ answer 20 0 → Leaves r O'
    raised-over h z = ⊎_elim
        (λ (l : room < N). raised-refused 20 (lift-large R s is_some is-low (subst (λ (k : ℕ). k < N) (sym e) l)) (λ y. omega arith) z (Y.stay l))
        (λ l. absurd (let q = Y.count l in omega arith))
        (less-or room N)

    done : d ≤ room → BlankPast old O → Leaves (answer 0 d) O'
    unfolding effect value
    done h B = ⊎_elim
        (λ l. absurd (let q = Y.over l in omega arith))
        (λ (l : N ≤ room).
        lift-accepted R s Lift
        (record {
          map = record {
            dims = lift-dim s.plan ∙ ap suc dims;
            darts = lift-count s.plan ∙ sym (Y.count l);
            links = table-own 0 link_width (count (lift s.plan)) (link_at (lift s.plan)) (length O.links) (λ i. (Y.tables l B i).links);
            places = table-own (pos 0) place_width (count (lift s.plan)) (place_at (lift s.plan)) (length O.places) (λ i. (Y.tables l B i).places);
          };
          objects = objects-own (carried_objects s.plan) (length O.objects) (λ i. (Y.tables l B i).objects);
        })
        (lift-fits R s is_some is-low (subst (λ (k : ℕ). N ≤ k) (sym e) l)) (ap (answer 0) (Y.count l)))
        (less-or room N)

    pub raised-done : d ≤ room → BlankPast old O → {r : Answer} → r ≡ answer 0 d → Leaves r O'
    raised-done h B z = subst (λ (x : Answer). Leaves x O') (sym z) (done h B)
