-- What the lift call leaves is a valid map.
--     lift-held        accepted: the lift is a valid map, of one dimension more, with as many darts as the call tells
--     lift-tables      accepted: the tables that are left hold the lift
--     lift-checked     and the check accepts them, with a table of spans that is all 0
--     call-left        the call's answer and tables with that theorem
use Rattle.std.proofs.Common.{◌≡◌, ℕ, suc, ◌≤◌, cond, length, replicate, pos, sym, ap, ◌∙◌, arith, eq-eqb}
use Rattle.paper.specs.Width.{link_width, place_width}
use Rattle.paper.specs.Map.{Map, count}
use Rattle.paper.specs.Valid.{Valid}
use Rattle.paper.specs.Lift.{lift, carried_objects}
use Rattle.paper.specs.Table.{Tables, LiftedTables, lent, lifted_lengths, link_at, place_at, lifted_tables, map_of}
use Rattle.paper.specs.Refusal.{answer}
use Rattle.paper.specs.Call.{held, capacity, check, lift_call, lift_leaves}
use Rattle.paper.specs.declared.Answer.{Answer}
use Rattle.theory.proofs.Check.{check-valid}
use Rattle.theory.proofs.LiftValid.{lift-dim, lift-count, lift-rows-empty}
use Rattle.theory.proofs.Found.{lift-valid}
use Rattle.hold.specs.Hold.{HoldsLifted}
use Rattle.hold.proofs.Rows.{table-own}
use Rattle.hold.proofs.Objects.{objects-own}
use Rattle.hold.proofs.Hold.{bare-plan, bare-fit, holds-checked}
use Rattle.lift.specs.Holding.{LeavesLift}
use Rattle.lift.proofs.Call.{Called, call-accepted}

pub lift-held : (T : Tables) (m n room : ℕ) → (lift_call T m n room).number ≡ 0
    → Valid (lift (held T m n)) × (((lift (held T m n)).dim ≡ suc m) × (count (lift (held T m n)) ≡ (lift_call T m n room).value))
unfolding map_of
lift-held T m n room e =
    let M = held T m n in
    let a = call-accepted T m n room e in
    (lift-valid M (check-valid T m n a.1.0).valid, (lift-dim M, lift-count M ∙ ap (λ r. r.value) (sym a.1.1.1)))

-- ---- what is left
module _ (T : Tables) (m n room : ℕ) (O : LiftedTables) {r : Answer} {O' : LiftedTables} (C : Called T m n room O r O') where
  abbrev L : Map
  L = lift (held T m n)

  number-0 : r.number ≡ 0 → (lift_call T m n room).number ≡ 0
  number-0 e = ap (λ a. a.number) (sym C.0) ∙ e

  pub lift-tables : r.number ≡ 0 → HoldsLifted L (carried_objects (held T m n)) (suc m) r.value O'
  unfolding lift_leaves
  lift-tables e =
      let X = (lift-held T m n room (number-0 e)).1 in
      let ok = eq-eqb (lift_call T m n room).number 0 (number-0 e) in
      let q = C.1 ∙ ap (λ b. cond b (lifted_tables L (carried_objects (held T m n)) (lifted_lengths O)) O) ok in
      record {
        map = record {
          dims = X.0;
          darts = X.1 ∙ ap (λ a. a.value) (sym C.0);
          links = table-own 0 link_width (count L) (link_at L) (length O.links) (λ i. (q i).links);
          places = table-own (pos 0) place_width (count L) (place_at L) (length O.places) (λ i. (q i).places);
        };
        objects = objects-own (carried_objects (held T m n)) (length O.objects) (λ i. (q i).objects);
      }

  pub lift-checked : r.number ≡ 0 → (c w : ℕ) → r.value ≤ capacity (lent O'.links O'.places (replicate c (pos 0)) w)
      → check (lent O'.links O'.places (replicate c (pos 0)) w) (suc m) r.value ≡ answer 0 0
  lift-checked e c w fits =
      let a = call-accepted T m n room (number-0 e) in
      let top = a.0 in
      let high = (check-valid T m n a.1.0).high in
      holds-checked O'.links O'.places (replicate c (pos 0)) (suc m) r.value w (bare-plan (lift-tables e).map c (λ d _. lift-rows-empty (held T m n) d))
      (lift-held T m n room (number-0 e)).0 (omega (arith, top)) fits (bare-fit (lift (held T m n)) (λ d _. lift-rows-empty (held T m n) d)) (omega arith)

  -- the call's answer and tables with the theorem beside them
  pub call-left : (r ≡ lift_call T m n room) × ((O' ≡ lift_leaves T m n room O) × LeavesLift T m n r.number r.value O')
  call-left = (C.0, (C.1, record { map = lift-tables; valid = λ e. (lift-held T m n room (number-0 e)).0 }))
