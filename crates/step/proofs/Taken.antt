-- One command on both sides' tables.
--     count-asks       what COUNT asks of tables as a run leaves them
--     looked           a command without an effect leaves both maps
--     edited-both      a command on the plan leaves the lifted map, and what its darts carry
--     raised_both      LIFT leaves the plan
--     stands_on        what a command leaves stands again
--     one_more         the sizes after DART
use Rattle.std.proofs.Common.{◌≡◌, ℕ, suc, ◌+◌, Bool, true, false, cond, List, length, ℤ, sym, refl, ap, ◌∙◌, subst, subst₂, add-one}
use Rattle.paper.specs.Map.{Map}
use Rattle.paper.specs.Table.{Tables, LiftedTables, lent, lent_lifted, lengths, lifted_lengths, plan_capacity, lifted_capacity}
use Rattle.paper.specs.Refusal.{accepted}
use Rattle.paper.specs.Step.{Maps, Room, is_lift, effect, reply, after}
use Rattle.paper.specs.declared.Command.{Command}
use Rattle.paper.specs.declared.Command.TheVariants as command
use Rattle.paper.specs.declared.Answer.{Answer}
use Rattle.theory.specs.Good.{Good}
use Rattle.theory.specs.Fit.{ObjectsFit, Fitting}
use Rattle.theory.proofs.History.{effect-lifted}
use Rattle.theory.proofs.Fit.{plan-fit}
use Rattle.hold.specs.Hold.{HoldsPlan, HoldsLifted}
use Rattle.hold.specs.Stand.{PlanStands, LiftedStands, Edited, Replaced}
use Rattle.orbit.specs.Flood.{Ready}
use Rattle.orbit.proofs.Listed.{stands-ready, lifted-ready}
use Rattle.sizes.specs.Sizes.{sizes, stepped, replanned, relifted}
use Rattle.sizes.specs.declared.Sizes.{Sizes}
use Rattle.sizes.specs.declared.Stepped.{Stepped}
use Rattle.step.specs.Standing.{Stands, Taken}

pub count-asks : {R : Room} {s : Maps} {m n lm ln : ℕ} {ls : List ℕ} {ps ss : List ℤ} {w ol : List ℕ} {op : List ℤ} {oo v : List ℕ}
    → PlanStands R s m n ls ps ss (length w) → LiftedStands R s lm ln (lent_lifted ol op oo (length v)) → Ready m n ls w × Ready lm ln ol v
count-asks P L = (stands-ready P, lifted-ready L)

pub one_more : (r : Answer) (z : Sizes) → replanned r z z.m (z.n + 1) ≡ stepped r (sizes z.m (cond (accepted r) (suc z.n) z.n) z.lm z.ln)
one_more r z = λ i. stepped r (sizes (same (accepted r) i) (cond (accepted r) (add-one z.n i) z.n) z.lm z.ln)
  where
    same : (b : Bool) → cond b z.m z.m ≡ z.m
    same true = refl
    same false = refl

-- ---- what a command leaves, one side or both
-- a part of the maps that its effect leaves, accepted or not
kept : {A : Type 0} (f : Maps → A) (R : Room) (s : Maps) (c : Command) → f (effect s c) ≡ f s → f s ≡ f (after R s c)
unfolding after
kept f R s c e = go (accepted (reply R s c))
  where
    go : (b : Bool) → f s ≡ f (cond b (effect s c) s)
    go true = sym e
    go false = refl

module _ {R : Room} {s : Maps} {z : Sizes} {room lroom : ℕ} {T : Tables} {O : LiftedTables} (S : Stands R s z room lroom T O) where
  module _ {c c' : Command} (q : c ≡ c') {r : Answer} {x : Stepped} where
    pub looked : effect s c' ≡ s → x ≡ stepped r z → r ≡ reply R s c' → {w v : ℕ} → Taken R s c x (lent T.links T.places T.spans w) (lent_lifted O.links O.places O.objects v)
    looked e p f {w} {v} =
        let U = lent T.links T.places T.spans w in
        let Q = lent_lifted O.links O.places O.objects v in
        subst (λ (d : Command). Taken R s d x U Q) (sym q)
        (subst (λ (y : Stepped). Taken R s c' y U Q) (sym p)
        (record {
          answer = f;
          plan = subst (λ (y : Maps). HoldsPlan y.plan z.m z.n T.links T.places T.spans) (kept (λ (y : Maps). y) R s c' e) S.plan.held;
          lifted = again (subst (λ (y : Maps). HoldsLifted y.lifted y.objects z.lm z.ln O) (kept (λ (y : Maps). y) R s c' e) S.lifted.held);
          fit = subst (λ (y : Maps). ObjectsFit y.plan) (kept (λ (y : Maps). y) R s c' e) S.plan.fit;
        }))
      where
        -- work is lent as it is
        again : {M : Map} {l : List ℕ} {a b : ℕ} {v : ℕ} → HoldsLifted M l a b O → HoldsLifted M l a b (lent_lifted O.links O.places O.objects v)
        again H = record { map = H.map; objects = H.objects }

    pub edited-both : is_lift c' ≡ false → Fitting c' → {m n : ℕ} → x ≡ stepped r (sizes m n z.lm z.ln) → {T' : Tables} → Edited R s c' r m n T'.links T'.places T'.spans → Taken R s c x T' O
    edited-both e g p {T'} X =
        subst (λ (d : Command). Taken R s d x T' O) (sym q)
        (subst (λ (y : Stepped). Taken R s c' y T' O) (sym p)
        (record {
          answer = X.answer;
          plan = X.plan;
          lifted =
              subst₂ (λ (M : Map) (l : List ℕ). HoldsLifted M l z.lm z.ln O) (kept (λ (y : Maps). y.lifted) R s c' (effect-lifted s c' e).0)
              (kept (λ (y : Maps). y.objects) R s c' (effect-lifted s c' e).1) S.lifted.held;
          fit = plan-fit R s S.plan.good S.plan.fit c' g;
        }))

  pub raised_both : {c : Command} → c ≡ command.Lift → {r : Answer} {x : Stepped} → x ≡ relifted r z → {O' : LiftedTables}
      → Replaced R s command.Lift r (cond (accepted r) (suc z.m) z.lm) (cond (accepted r) r.value z.ln) O' → {w : ℕ} → Taken R s c x (lent T.links T.places T.spans w) O'
  unfolding effect
  raised_both q {r} {x} p {O'} X {w} =
      let U = lent T.links T.places T.spans w in
      subst (λ (d : Command). Taken R s d x U O') (sym q)
      (subst (λ (y : Stepped). Taken R s command.Lift y U O') (sym p)
      (record {
        answer = X.answer;
        plan = subst (λ (M : Map). HoldsPlan M z.m z.n T.links T.places T.spans) (kept (λ (y : Maps). y.plan) R s command.Lift refl) S.plan.held;
        lifted = X.lifted;
        fit = subst ObjectsFit (kept (λ (y : Maps). y.plan) R s command.Lift refl) S.plan.fit;
      }))

  -- what is left stands again, in tables of the same lengths
  pub stands_on : {c : Command} {r : Stepped} {T' : Tables} {O' : LiftedTables} → Taken R s c r T' O' → lengths T' ≡ lengths T → lifted_lengths O' ≡ lifted_lengths O
      → Good R (after R s c) → Stands R (after R s c) r.sizes room lroom T' O'
  stands_on X e f G = record {
    plan = record { good = G; fit = X.fit; held = X.plan; room = S.plan.room ∙ ap plan_capacity (sym e) };
    lifted = record { good = G; held = X.lifted; room = S.lifted.room ∙ ap lifted_capacity (sym f) };
    room_is = S.room_is;
    lroom_is = S.lroom_is;
  }
