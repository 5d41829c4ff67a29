-- Commands on lent tables: a refused one leaves them, an accepted one leaves tables that hold its effect.
--     judge-plain      a refusal of a command has value 0
--     reply-refused, reply-accepted      the reply, by the number of the first refusal that is met
--     after-refused, after-accepted      the maps after it
--     edit-refused, edit-accepted        a command on the plan
--     lift-refused, lift-accepted        a command on the lifted side
--     plan-within      the plan's darts are within the tables' capacity
--     plan-reads       the plan's tables, read at m and n, have the links and rows of the valid plan
--     plan-map         the map that they give is the plan
--     plan-has-room    and a row for each of its darts in each table
--     lifted_links     the lifted side's table of links has the links of the lifted map
--     lifted-has-room  and each of its tables a row for each of its darts
use Rattle.std.proofs.Common.{◌≡◌, ℕ, ◌≤◌, Bool, true, false, cond, List, [], ◌∷◌, ℤ, sym, refl, ap, ◌∙◌, subst, eq-eqb, ne_eqb}
use Rattle.paper.specs.Width.{dim_limit}
use Rattle.paper.specs.Below.{first_below}
use Rattle.paper.specs.Table.{LiftedTables, lent, lengths, lifted_lengths, plan_capacity, map_of}
use Rattle.paper.specs.Refusal.{number, Test, ◌if◌, ◌among◌, answer, judge, accepted, accept}
use Rattle.paper.specs.Step.{Maps, Room, refusals, effect, value, reply, after}
use Rattle.paper.specs.declared.Command.{Command}
use Rattle.paper.specs.declared.Answer.{Answer}
use Rattle.theory.proofs.Valid.{local-valid}
use Rattle.hold.specs.Hold.{HoldsPlan, HoldsLifted, HasLinks, Reads}
use Rattle.hold.specs.Room.{HasRoom, LiftedHasRoom}
use Rattle.hold.specs.Stand.{PlanStands, LiftedStands, Edited, Replaced}
use Rattle.hold.proofs.Room.{lifted-room, plan-room}
use Rattle.hold.proofs.Hold.{map-links, holds-map, holds-reads}

-- the tests of a command are of no dart
pub judge-plain : (l : List Test) → judge 0 l ≡ answer (judge 0 l).number 0
unfolding judge first_below
judge-plain [] = refl
judge-plain (r if b ∷ l) = go b (judge-plain l)
  where
    go : (b : Bool) → judge 0 l ≡ answer (judge 0 l).number 0
        → cond b (answer (number r) 0) (judge 0 l) ≡ answer (cond b (answer (number r) 0) (judge 0 l)).number 0
    go true e = refl
    go false e = e
judge-plain (r among p ∷ l) = judge-plain l

module _ (R : Room) (s : Maps) (c : Command) where
  abbrev first : ℕ
  first = (judge 0 (refusals R s c)).number

  pub reply-refused : (first ≡ 0 → ⊥) → reply R s c ≡ answer first 0
  unfolding reply accept
  reply-refused f = ap (λ b. cond b (answer 0 (value s c)) (judge 0 (refusals R s c))) (ne_eqb first 0 f) ∙ judge-plain (refusals R s c)

  pub reply-accepted : first ≡ 0 → reply R s c ≡ answer 0 (value s c)
  unfolding reply accept
  reply-accepted e = ap (λ b. cond b (answer 0 (value s c)) (judge 0 (refusals R s c))) (eq-eqb first 0 e)

  pub after-refused : (first ≡ 0 → ⊥) → after R s c ≡ s
  unfolding after
  after-refused f = ap (λ b. cond b (effect s c) s) (ap accepted (reply-refused f) ∙ ne_eqb first 0 f)

  pub after-accepted : first ≡ 0 → after R s c ≡ effect s c
  unfolding after
  after-accepted e = ap (λ b. cond b (effect s c) s) (ap accepted (reply-accepted e))

  module _ {r : Answer} {m n : ℕ} {ls : List ℕ} {ps : List ℤ} where
    pub edit-refused : {ss : List ℤ} → HoldsPlan s.plan m n ls ps ss → (first ≡ 0 → ⊥) → r ≡ answer first 0 → Edited R s c r m n ls ps ss
    edit-refused {ss} H f e = record { answer = e ∙ sym (reply-refused f); plan = subst (λ (x : Maps). HoldsPlan x.plan m n ls ps ss) (sym (after-refused f)) H }

    pub edit-accepted : {ss : List ℤ} → HoldsPlan (effect s c).plan m n ls ps ss → first ≡ 0 → r ≡ answer 0 (value s c) → Edited R s c r m n ls ps ss
    edit-accepted {ss} H z e = record { answer = e ∙ sym (reply-accepted z); plan = subst (λ (x : Maps). HoldsPlan x.plan m n ls ps ss) (sym (after-accepted z)) H }

  module _ {r : Answer} {m n : ℕ} {O : LiftedTables} where
    pub lift-refused : HoldsLifted s.lifted s.objects m n O → (first ≡ 0 → ⊥) → r ≡ answer first 0 → Replaced R s c r m n O
    lift-refused H f e = record { answer = e ∙ sym (reply-refused f); lifted = subst (λ (x : Maps). HoldsLifted x.lifted x.objects m n O) (sym (after-refused f)) H }

    pub lift-accepted : HoldsLifted (effect s c).lifted (effect s c).objects m n O → first ≡ 0 → r ≡ answer 0 (value s c) → Replaced R s c r m n O
    lift-accepted H z e = record { answer = e ∙ sym (reply-accepted z); lifted = subst (λ (x : Maps). HoldsLifted x.lifted x.objects m n O) (sym (after-accepted z)) H }

module _ {R : Room} {s : Maps} {m n : ℕ} {ls : List ℕ} {ps ss : List ℤ} {w : ℕ} (P : PlanStands R s m n ls ps ss w) where
  -- the plan's darts are within capacity
  pub plan-within : n ≤ plan_capacity (lengths (lent ls ps ss w))
  plan-within = subst (λ (k : ℕ). n ≤ k) P.room (subst (λ (k : ℕ). k ≤ R.plan) P.held.map.darts P.good.plan_fits)

  pub plan-reads : Reads s.plan m n ls ss
  plan-reads =
      holds-reads ls ps ss m n w P.held (local-valid s.plan P.good.plan)
      (subst (λ (k : ℕ). k ≤ dim_limit) P.held.map.dims P.good.plan_dim) plan-within

  pub plan-map : map_of ls ps ss m n ≡ s.plan
  plan-map =
      holds-map ls ps ss m n w P.held (local-valid s.plan P.good.plan)
      (subst (λ (k : ℕ). k ≤ dim_limit) P.held.map.dims P.good.plan_dim) plan-within

  pub plan-has-room : HasRoom (lengths (lent ls ps ss w)) n
  plan-has-room = plan-room (lengths (lent ls ps ss w)) n plan-within

module _ {R : Room} {s : Maps} {m n : ℕ} {O : LiftedTables} (P : LiftedStands R s m n O) where
  pub lifted-has-room : LiftedHasRoom (lifted_lengths O) n
  lifted-has-room =
      lifted-room (lifted_lengths O) n
      (subst (λ (k : ℕ). n ≤ k) P.room (subst (λ (k : ℕ). k ≤ R.lifted) P.held.map.darts P.good.lifted_fits))

  pub lifted_links : HasLinks s.lifted m n O.links
  lifted_links = map-links P.held.map (subst (λ (k : ℕ). k ≤ dim_limit) P.held.map.dims P.good.lifted_dim) lifted-has-room.links
