-- Demand 3: what is found after every list of commands, and what was done.
--     lifts            the lift of a valid plan is what a step asks of it
--     lift-valid       the lift of a valid plan is a valid map
--     found            for all bytes, capacities and lengths of the reply memory
use Rattle.std.proofs.Common.{◌≡◌, ℕ, ◌+◌, ◌*◌, ◌<◌, ◌≤◌, List, [], length, get_or, sym, refl, ap, ◌∙◌, subst, subst₂, zero-le, zero-add, arith}
use native.Mathlib.Nat.{min-le_right}
use Rattle.paper.specs.Width.{dart_limit, dim_limit, reply_width, object_limit}
use Rattle.paper.specs.Map.{Map, count, owned}
use Rattle.paper.specs.Cell.{Cell}
use Rattle.paper.specs.Valid.{Valid}
use Rattle.paper.specs.Lift.{lift}
use Rattle.paper.specs.Step.{Maps, Room}
use Rattle.paper.specs.Run.{State, blanks, start, Outcome, outcome, room_of, run, reply_bytes}
use Rattle.paper.specs.declared.Command.{Command}
use Rattle.paper.specs.declared.Answer.{Answer}
use Rattle.theory.specs.Member.{◌∈◌}
use Rattle.theory.specs.Local.{Local}
use Rattle.theory.specs.Good.{Good}
use Rattle.theory.specs.Fit.{ObjectsFit}
use Rattle.theory.specs.History.{commands, maps_from, replies_from, accepted_of, refused_of, LastLift}
use Rattle.theory.specs.Over.{Over}
use Rattle.theory.specs.Found.{Found}
use Rattle.theory.proofs.Valid.{local-valid, valid-local}
use Rattle.theory.proofs.Ends.{ends-ascends, lawful}
use Rattle.theory.proofs.LiftValid.{lift-local, lift-count, lift-rows-empty}
use Rattle.theory.proofs.Object.{shared-cell, objects-count, objects-shared}
use Rattle.theory.proofs.Piece.{pieces_of}
use Rattle.theory.proofs.Step.{Lifts, blanks-good}
use Rattle.theory.proofs.History.{edits-plan, last-lift}
use Rattle.theory.proofs.Fit.{blanks-fit, commands-fit, maps-fit}
use Rattle.theory.proofs.Over.{run-over}
use Rattle.theory.proofs.Replies.{Small, replies_small, bytes_small}
use Rattle.theory.proofs.Run.{took_all, Done, run-done, all-maps, all-replies, all-taken, Accounts, all-accounts, reply-bytes, all-good}

-- the lift of a valid plan is a valid map, without spans, has as many darts as there are lifted darts, and their objects
pub lifts : Lifts
lifts M L = record {
  valid = lift-local M L (lawful M L) (λ k d l h. ends-ascends M k d);
  darts = lift-count M;
  bare = λ d h. lift-rows-empty M d;
  objects = objects-count M L;
  shared = objects-shared M L;
}

-- The lift of a valid plan is a valid map, whatever its dimension.
pub lift-valid : (M : Map) → Valid M → Valid (lift M)
lift-valid M A = local-valid (lift M) (lifts M (valid-local M A)).valid

module _ (bytes : List ℕ) (room lroom memory : ℕ) where
  abbrev R : Room
  R = room_of room lroom memory

  abbrev cs : List Command
  cs = commands bytes memory

  abbrev s : State
  s = took_all R start cs

  done : Done R start cs (run bytes room lroom memory)
  unfolding run
  done = run-done (length bytes) R bytes 0 start zero-le

  by-rules : Over R bytes 0 start cs (run bytes room lroom memory)
  unfolding run
  by-rules = run-over (length bytes) R bytes 0 start (omega arith)

  -- what the outcome holds is what the state after all commands holds
  of-state : {A : Type 0} (f : Outcome → A) → f (run bytes room lroom memory) ≡ f (outcome done.number s)
  of-state f = ap f done.state

  maps : s.maps ≡ maps_from R blanks cs
  maps = all-maps R start cs

  is-plan : (run bytes room lroom memory).plan ≡ (maps_from R blanks cs).plan
  unfolding outcome
  is-plan = of-state (λ o. o.plan) ∙ ap (λ (m : Maps). m.plan) maps

  is-lifted : (run bytes room lroom memory).lifted ≡ (maps_from R blanks cs).lifted
  unfolding outcome
  is-lifted = of-state (λ o. o.lifted) ∙ ap (λ (m : Maps). m.lifted) maps

  is-objects : (run bytes room lroom memory).objects ≡ (maps_from R blanks cs).objects
  unfolding outcome
  is-objects = of-state (λ o. o.objects) ∙ ap (λ (m : Maps). m.objects) maps

  is-replies : (run bytes room lroom memory).replies ≡ s.replies
  unfolding outcome
  is-replies = of-state (λ o. o.replies)

  is-taken : (run bytes room lroom memory).ended.taken ≡ s.taken
  unfolding outcome
  is-taken = of-state (λ o. o.ended.taken)

  is-accepted : (run bytes room lroom memory).ended.accepted ≡ s.accepts
  unfolding outcome
  is-accepted = of-state (λ o. o.ended.accepted)

  is-refused : (run bytes room lroom memory).ended.refused ≡ s.refuses
  unfolding outcome
  is-refused = of-state (λ o. o.ended.refused)

  good : Good R (maps_from R blanks cs)
  good = all-good lifts R blanks cs (blanks-good R)

  accounts : Accounts s
  unfolding accepted_of refused_of
  accounts = all-accounts R start cs (record { taken = refl; sum = refl; accepts = refl; refuses = refl })

  plan-local : Local (run bytes room lroom memory).plan
  plan-local = subst Local (sym is-plan) good.plan

  the-replies : (run bytes room lroom memory).replies ≡ replies_from R blanks cs
  the-replies = is-replies ∙ all-replies R start cs

  small : (a : Answer) → a ∈ (run bytes room lroom memory).replies → Small a
  small a h =
      replies_small R (min-le_right room dart_limit, min-le_right lroom dart_limit) lifts blanks cs (blanks-good R) a (subst (λ l. a ∈ l) the-replies h)

  pub found : Found bytes room lroom memory
  found = record {
    plan_valid = local-valid (run bytes room lroom memory).plan plan-local;
    lifted_valid = local-valid (run bytes room lroom memory).lifted (subst Local (sym is-lifted) good.lifted);
    lifted_bare = subst (λ (M : Map). (d : ℕ) → d < count M → owned M d ≡ []) (sym is-lifted) good.bare;
    lifted_objects = ap length is-objects ∙ good.objects ∙ sym (ap count is-lifted);
    lifted_shared =
        subst₂ (λ (M : Map) (O : List ℕ). (d e : ℕ) → d < count M → Cell M M.dim d e → get_or O d 0 ≡ get_or O e 0) (sym is-lifted) (sym is-objects)
        (shared-cell (maps_from R blanks cs).lifted (maps_from R blanks cs).objects good.lifted good.shared);
    plan_fits = subst (λ (M : Map). count M ≤ R.plan) (sym is-plan) good.plan_fits;
    lifted_fits = subst (λ (M : Map). count M ≤ R.lifted) (sym is-lifted) good.lifted_fits;
    plan_dim = subst (λ (M : Map). M.dim ≤ dim_limit) (sym is-plan) good.plan_dim;
    lifted_dim = subst (λ (M : Map). M.dim ≤ dim_limit) (sym is-lifted) good.lifted_dim;
    pieces = λ k d l h. pieces_of (run bytes room lroom memory).plan plan-local k d l h;
    over = by-rules;
    replies = the-replies;
    replies_bytes =
        ap (λ l. length (reply_bytes l)) is-replies ∙ reply-bytes s.replies ∙ ap (λ (n : ℕ). reply_width * n) (sym accounts.taken ∙ sym is-taken);
    replies_fit = subst (λ (n : ℕ). reply_width * n ≤ memory) (sym is-taken) done.fits;
    replies_small = small;
    replies_are_bytes = bytes_small (run bytes room lroom memory).replies small;
    plan_objects =
        λ b. subst ObjectsFit (sym is-plan) (maps-fit lifts R blanks cs (blanks-good R) blanks-fit (commands-fit bytes b (length bytes) memory 0 0)).plan;
    objects_small =
        λ b q h. let l : q < length (maps_from R blanks cs).objects = subst (λ (n : ℕ). q < n) (ap count is-lifted ∙ sym good.objects) h in
        subst (λ (O : List ℕ). get_or O q 0 < object_limit) (sym is-objects)
        ((maps-fit lifts R blanks cs (blanks-good R) blanks-fit (commands-fit bytes b (length bytes) memory 0 0)).lifted q l);
    plan_edits = is-plan ∙ edits-plan R blanks cs;
    lifted_lift = subst₂ (λ (M : Map) (O : List ℕ). LastLift R blanks cs M O) (sym is-lifted) (sym is-objects) (last-lift R blanks cs);
    taken = is-taken ∙ all-taken R start cs ∙ zero-add (length cs);
    accounts = is-taken ∙ accounts.sum ∙ sym (λ i. is-accepted i + is-refused i);
    accepted = is-accepted ∙ accounts.accepts ∙ ap accepted_of (sym is-replies);
    refused = is-refused ∙ accounts.refuses ∙ ap refused_of (sym is-replies);
  }
