-- A run that lifts truly once and then repeats its first lift, or its first lift's objects, is not the run on paper: the statement on the last lift rules it out.
--     first-lift-repeated     no map that satisfies it is the first lift
--     first-objects-repeated  nor are the objects those of the first lift, where only objects have changed
use Rattle.std.proofs.Common.{◌≡◌, ℕ, List, ◌++◌, get_or, sym, refl, ap, ◌∙◌, arith}
use Rattle.paper.specs.Width.{plan_room, lifted_room, reply_room}
use Rattle.paper.specs.Map.{Map, count}
use Rattle.paper.specs.Lift.{lift, carried_objects}
use Rattle.paper.specs.Run.{blanks, room_of}
use Rattle.paper.specs.Example.{passes, plan_of}
use Rattle.paper.specs.Examples.{edge, span, span_of}
use Rattle.paper.specs.Examples as commands-of
use Rattle.theory.specs.History.{commands_from, commands, maps_from, LastLift}
use Rattle.theory.proofs.History.{last-lift-only}

-- an edge with one span, lifted; then with a second span, lifted again
abbrev first : List ℕ
first = edge ++ span 0 0 3

abbrev twice : List ℕ
twice = first ++ commands-of.lift ++ span 0 3 5 ++ commands-of.lift

-- the lift after the second LIFT has 16 darts, the first has 8
second-count : count (maps_from (room_of plan_room lifted_room reply_room) blanks (commands twice reply_room)).lifted ≡ 16
unfolding passes maps_from commands_from edge
second-count = refl

first_count : count (lift (plan_of first)) ≡ 8
unfolding passes edge
first_count = refl

pub first-lift-repeated : (L : Map) (O : List ℕ) → LastLift (room_of plan_room lifted_room reply_room) blanks (commands twice reply_room) L O → L ≡ lift (plan_of first) → ⊥
first-lift-repeated L O l e =
    let p : ◌≡◌ {A = ℕ} 16 8 = sym second-count ∙ ap count (sym (last-lift-only (room_of plan_room lifted_room reply_room) blanks (commands twice reply_room) L O l).0 ∙ e) ∙ first_count in
    omega arith

-- the same edge with its span first of object 7 and then, made anew, of object 9
abbrev seven : List ℕ
seven = edge ++ span_of 0 0 3 7

abbrev nine : List ℕ
nine = seven ++ commands-of.lift ++ edge ++ span_of 0 0 3 9 ++ commands-of.lift

nine-object : get_or (maps_from (room_of plan_room lifted_room reply_room) blanks (commands nine reply_room)).objects 0 0 ≡ 9
unfolding passes maps_from commands_from edge
nine-object = refl

seven-object : get_or (carried_objects (plan_of seven)) 0 0 ≡ 7
unfolding passes edge
seven-object = refl

pub first-objects-repeated : (L : Map) (O : List ℕ) → LastLift (room_of plan_room lifted_room reply_room) blanks (commands nine reply_room) L O
    → O ≡ carried_objects (plan_of seven) → ⊥
first-objects-repeated L O l e =
    let p : ◌≡◌ {A = ℕ} 9 7 =
    sym nine-object ∙ ap (λ (o : List ℕ). get_or o 0 0) (sym (last-lift-only (room_of plan_room lifted_room reply_room) blanks (commands nine reply_room) L O l).1 ∙ e)
    ∙ seven-object in
    omega arith
