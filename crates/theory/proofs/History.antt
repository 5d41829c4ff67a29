-- What a list of commands does: the plan is its accepted edits, the lifted map the lift at the last accepted LIFT.
--     effect-lifted    a command that is no LIFT leaves the lifted map and its objects
--     edits-plan       the plan is the accepted edits in order
--     last-lift        the lifted map is the lift at the last accepted LIFT
--     last-lift-only   no other map is
--     maps-append      one list of commands after another
use Rattle.std.proofs.Common.{◌≡◌, ℕ, Bool, true, false, cond, ◌&&◌, List, [], ◌∷◌, ◌++◌, sym, refl, ap, ◌∙◌, subst}
use Rattle.paper.specs.Below.{only}
use Rattle.paper.specs.Map.{Map}
use Rattle.paper.specs.Lift.{lift, carried_objects}
use Rattle.paper.specs.Refusal.{accepted}
use Rattle.paper.specs.Step.{Maps, Room, Kind, writes_plan, writes_lifted, looks, ends_run, kind_of, is_plan_write, is_lifted_write, is_edit, is_lift, edited, effect_of, effect, reply, after}
use Rattle.paper.specs.declared.Command.{Command}
use Rattle.paper.specs.declared.Command.TheVariants as command
use Rattle.theory.specs.History.{maps_from, Entry, edits_from, applied, NoLift, LastLift, never, last}
use Rattle.theory.proofs.Bool.{clash, and_both}
use Rattle.theory.proofs.Kind.{apart, is-lift}

-- an accepted command has its effect, a refused one none
after-yes : (R : Room) (s : Maps) (c : Command) → accepted (reply R s c) ≡ true → after R s c ≡ effect s c
unfolding after
after-yes R s c e = ap (λ b. cond b (effect s c) s) e

after-no : (R : Room) (s : Maps) (c : Command) → accepted (reply R s c) ≡ false → after R s c ≡ s
unfolding after
after-no R s c e = ap (λ b. cond b (effect s c) s) e

-- a command that is no edit leaves the plan, one that is no LIFT the lifted map and its objects
leaves-plan : (k : Kind) (P : Map) (s : Maps) → is_plan_write k ≡ false → (effect_of k P s).plan ≡ s.plan
leaves-plan writes_plan P s e = absurd (clash refl e)
leaves-plan writes_lifted P s e = refl
leaves-plan looks P s e = refl
leaves-plan ends_run P s e = refl

leaves-lifted : (k : Kind) (P : Map) (s : Maps) → is_lifted_write k ≡ false → ((effect_of k P s).lifted ≡ s.lifted) × ((effect_of k P s).objects ≡ s.objects)
leaves-lifted writes_plan P s e = (refl, refl)
leaves-lifted writes_lifted P s e = absurd (clash refl e)
leaves-lifted looks P s e = (refl, refl)
leaves-lifted ends_run P s e = (refl, refl)

effect-plan : (s : Maps) (c : Command) → is_edit c ≡ false → (effect s c).plan ≡ s.plan
unfolding effect
effect-plan s c e = leaves-plan (kind_of c) (edited s.plan s.lifted c) s e

pub effect-lifted : (s : Maps) (c : Command) → is_lift c ≡ false → ((effect s c).lifted ≡ s.lifted) × ((effect s c).objects ≡ s.objects)
unfolding effect
effect-lifted s c e = leaves-lifted (kind_of c) (edited s.plan s.lifted c) s e

-- an edit leaves the plan that it makes
writes-that : (k : Kind) (P : Map) (s : Maps) → is_plan_write k ≡ true → (effect_of k P s).plan ≡ P
writes-that writes_plan P s e = refl
writes-that writes_lifted P s e = absurd (clash e refl)
writes-that looks P s e = absurd (clash e refl)
writes-that ends_run P s e = absurd (clash e refl)

effect-edits : (s : Maps) (c : Command) → is_edit c ≡ true → (effect s c).plan ≡ edited s.plan s.lifted c
unfolding effect
effect-edits s c e = writes-that (kind_of c) (edited s.plan s.lifted c) s e

-- ---- the plan
-- what one command adds to the edits is what it does to the plan
edit-plan : (R : Room) (s : Maps) (c : Command) (l : List Entry)
    → applied s.plan (only (is_edit c && accepted (reply R s c)) (record { edit = c; lifted = s.lifted }) ++ l) ≡ applied (after R s c).plan l
unfolding applied only
edit-plan R s c l = go (is_edit c) (accepted (reply R s c)) refl refl
  where
    go : (x y : Bool) → is_edit c ≡ x → accepted (reply R s c) ≡ y
        → applied s.plan (only (x && y) (record { edit = c; lifted = s.lifted }) ++ l) ≡ applied (after R s c).plan l
    go true true p q = ap (λ (P : Map). applied P l) (sym (effect-edits s c p)) ∙ ap (λ (m : Maps). applied m.plan l) (sym (after-yes R s c q))
    go true false p q = ap (λ (m : Maps). applied m.plan l) (sym (after-no R s c q))
    go false true p q = ap (λ (P : Map). applied P l) (sym (effect-plan s c p)) ∙ ap (λ (m : Maps). applied m.plan l) (sym (after-yes R s c q))
    go false false p q = ap (λ (m : Maps). applied m.plan l) (sym (after-no R s c q))

pub edits-plan : (R : Room) (s : Maps) (cs : List Command) → (maps_from R s cs).plan ≡ applied s.plan (edits_from R s cs)
unfolding maps_from edits_from applied
edits-plan R s [] = refl
edits-plan R s (c ∷ cs) = edits-plan R (after R s c) cs ∙ sym (edit-plan R s c (edits_from R (after R s c) cs))

-- ---- the lifted map
maps-append : (R : Room) (s : Maps) (cs ds : List Command) → maps_from R s (cs ++ ds) ≡ maps_from R (maps_from R s cs) ds
unfolding maps_from
maps-append R s [] ds = refl
maps-append R s (c ∷ cs) ds = maps-append R (after R s c) cs ds

-- the lifted side: the lifted map with the objects that its darts carry
abbrev LiftedSide : Type 0
LiftedSide = Map × List ℕ

abbrev lifted_side : Maps → LiftedSide
lifted_side s = (s.lifted, s.objects)

-- a command that is no accepted LIFT leaves it
lifted-stays : (R : Room) (s : Maps) (c : Command) → (is_lift c && accepted (reply R s c)) ≡ false → lifted_side (after R s c) ≡ lifted_side s
lifted-stays R s c e = go (is_lift c) (accepted (reply R s c)) refl refl e
  where
    go : (x y : Bool) → is_lift c ≡ x → accepted (reply R s c) ≡ y → (x && y) ≡ false → lifted_side (after R s c) ≡ lifted_side s
    go true true p q e = absurd (clash refl e)
    go true false p q e = ap lifted_side (after-no R s c q)
    go false true p q e = ap lifted_side (after-yes R s c q) ∙ (let h = effect-lifted s c p in λ i. (h.0 i, h.1 i))
    go false false p q e = ap lifted_side (after-no R s c q)

none_stays : (R : Room) (s : Maps) (cs : List Command) → NoLift R s cs → lifted_side (maps_from R s cs) ≡ lifted_side s
unfolding maps_from
none_stays R s [] n = refl
none_stays R s (c ∷ cs) n = none_stays R (after R s c) cs n.1 ∙ lifted-stays R s c n.0

-- an accepted LIFT leaves the lift of the plan, and the objects of its darts
lift-does : (R : Room) (s : Maps) → accepted (reply R s command.Lift) ≡ true → lifted_side (after R s command.Lift) ≡ (lift s.plan, carried_objects s.plan)
unfolding effect
lift-does R s e = ap lifted_side (after-yes R s command.Lift e)

-- a list of commands whose lifted side is this
abbrev LastSide : Room → Maps → List Command → LiftedSide → Type 0
LastSide R s cs x = LastLift R s cs x.0 x.1

pub last-lift : (R : Room) (s : Maps) (cs : List Command) → LastLift R s cs (maps_from R s cs).lifted (maps_from R s cs).objects
unfolding maps_from
last-lift R s [] = never tt refl refl
last-lift R s (c ∷ cs) = more (last-lift R (after R s c) cs)
  where
    S : LiftedSide
    S = lifted_side (maps_from R (after R s c) cs)

    first : (b : Bool) → (is_lift c && accepted (reply R s c)) ≡ b → NoLift R (after R s c) cs → S ≡ lifted_side (after R s c) → LastSide R s (c ∷ cs) S
    first true e n q =
        let t = and_both (is_lift c) (accepted (reply R s c)) e in
        let p = is-lift (apart c) t.0 in
        let a : accepted (reply R s command.Lift) ≡ true = subst (λ x. accepted (reply R s x) ≡ true) p t.1 in
        let w = q ∙ ap (λ x. lifted_side (after R s x)) p ∙ lift-does R s a in
        last [] cs (ap (λ x. x ∷ cs) p) a (subst (λ x. NoLift R (after R s x) cs) p n) (ap (λ (x : LiftedSide). x.0) w) (ap (λ (x : LiftedSide). x.1) w)
    first false e n q = let w = q ∙ lifted-stays R s c e in never (e, n) (ap (λ (x : LiftedSide). x.0) w) (ap (λ (x : LiftedSide). x.1) w)

    more : LastSide R (after R s c) cs S → LastSide R s (c ∷ cs) S
    more (never n q r) = first (is_lift c && accepted (reply R s c)) refl n (λ i. (q i, r i))
    more (last before rest e a n q r) = last (c ∷ before) rest (ap (λ l. c ∷ l) e) a n q r

pub last-lift-only : (R : Room) (s : Maps) (cs : List Command) (L : Map) (O : List ℕ) → LastLift R s cs L O → (L ≡ (maps_from R s cs).lifted) × (O ≡ (maps_from R s cs).objects)
unfolding maps_from
last-lift-only R s cs L O h = let w = side h in (ap (λ (x : LiftedSide). x.0) w, ap (λ (x : LiftedSide). x.1) w)
  where
    side : LastLift R s cs L O → (L, O) ≡ lifted_side (maps_from R s cs)
    side (never n q r) = (λ i. (q i, r i)) ∙ sym (none_stays R s cs n)
    side (last before rest e a n q r) =
        let t = maps_from R s before in
        (λ i. (q i, r i)) ∙ sym (lift-does R t a) ∙ sym (none_stays R (after R t command.Lift) rest n)
        ∙ sym (ap lifted_side (ap (maps_from R s) e ∙ maps-append R s before (command.Lift ∷ rest)))
