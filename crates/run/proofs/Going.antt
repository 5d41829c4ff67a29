-- A run on its way: it begins, goes on by a command, and ends.
--     going_start      blank tables are those of the run's first state
--     going_on         a command more
--     going-past       its place is behind the one before
--     going_end        what is left where it does not go on
use Rattle.std.proofs.Common.{◌≡◌, ℕ, suc, ◌+◌, ◌*◌, ◌<◌, ◌≤◌, min, Bool, true, false, cond, ◌⊎◌, List, [], ◌∷◌, length, sym, refl, ap, ◌∙◌, subst, inl, inr, ⊎_elim, zero-le, arith, length-append, le-ltb, lt-ltb}
use Rattle.paper.specs.Width.{reply_width, dart_limit}
use Rattle.paper.specs.Table.{Tables, LiftedTables, lent, lent_lifted, Lengths, LiftedLengths, lengths, lifted_lengths, plan_capacity, lifted_capacity, links_table, places_table, spans_table, objects_table}
use Rattle.paper.specs.Refusal.{accepted}
use Rattle.paper.specs.Command.{read_at}
use Rattle.paper.specs.Step.{Room, reply}
use Rattle.paper.specs.Run.{State, took, Outcome, outcome, full, reply_bytes, reply_memory, Lent, run_in, left}
use Rattle.paper.specs.Run.{start as beginning}
use Rattle.paper.specs.declared.Command.{Command}
use Rattle.paper.specs.declared.Read.{Read}
use Rattle.paper.specs.declared.Answer.{Answer}
use Rattle.paper.specs.declared.Ended.{Ended}
use Rattle.theory.specs.Fit.{ObjectsFit}
use Rattle.theory.proofs.Step.{after-good, blanks-good}
use Rattle.theory.proofs.Fit.{blanks-fit}
use Rattle.theory.proofs.Over.{next_more}
use Rattle.theory.proofs.Found.{lifts, found}
use Rattle.step.specs.Standing.{Taken}
use Rattle.sizes.specs.declared.Stepped.{Stepped}
use Rattle.step.proofs.Taken.{stands_on}
use Rattle.progress.specs.declared.Progress.{Progress}
use Rattle.progress.specs.Reply.{replied}
use Rattle.progress.specs.Progress.{start, stops, ended}
use Rattle.progress.specs.Progress.{after as counted}
use Rattle.run.specs.Going.{Ahead, on, Going, Begun}
use Rattle.run.specs.Ran.{lent_to_run, room_in, Ran}
use Rattle.progress.proofs.Replied.{reply-length, reply-more}
use Rattle.run.proofs.Ahead.{ahead-on, ahead-end}

-- a command is accepted or refused
one_more : (b : Bool) (t x y : ℕ) → t ≡ x + y → suc t ≡ cond b 1 0 + x + (cond b 0 1 + y)
one_more true t x y e = omega arith
one_more false t x y e = omega arith

module _ {bytes : List ℕ} {R : Room} {o : Outcome} {before : List ℕ} {p : Progress} {room lroom : ℕ} {T : Tables} {O : LiftedTables} {memory : List ℕ}
    (G : Going bytes R o before p room lroom T O memory) where
  abbrev s : State
  s = G.state

  -- the reply memory is as long as it was
  pub same_memory : length memory ≡ length before
  same_memory = ap length G.memory_is ∙ reply-length s.replies before (rw G.listed G.fits)

  module _ (byte : p.at < length bytes) (more : reply_width * suc p.taken ≤ length memory) {x : Read} (read : x ≡ read_at bytes p.at) {r : Stepped}
      {T' : Tables} {O' : LiftedTables} (X : Taken R s.maps x.command r T' O') where
    abbrev c : Command
    c = x.command

    abbrev q : Progress
    q = counted p c x.next r

    abbrev s' : State
    s' = took R s c

    pub going-past : {y : Progress} → y ≡ q → p.at < y.at
    unfolding counted
    going-past z = subst (λ (y : Progress). p.at < y.at) (sym z) (subst (λ (y : Read). p.at < y.next) (sym read) (next_more bytes p.at byte))

    has_room : full R s ≡ false
    has_room = le-ltb R.reply (reply_width * suc s.taken) (let a = G.room_is in let b = same_memory in let d = G.taken in omega arith)

    further : Ahead R bytes q.at s' q.stopped o
    unfolding counted
    further =
        subst (λ (a : Answer). Ahead R bytes x.next s' (stops c a.number) o) (sym X.answer)
        (subst (λ (y : Read). Ahead R bytes y.next (took R s y.command) (stops y.command (reply R s.maps y.command).number) o) (sym read)
        (ahead-on R bytes p.at s byte has_room G.ahead))

    pub going_on : lengths T' ≡ lengths T → lifted_lengths O' ≡ lifted_lengths O
        → {memory' : List ℕ} → memory' ≡ replied memory (reply_width * p.taken) r.answer → {y : Progress} → y ≡ q
        → Going bytes R o before y room lroom T' O' memory'
    unfolding counted took
    going_on a b {memory'} m z = subst (λ (y : Progress). Going bytes R o before y room lroom T' O' memory') (sym z)
        (record {
          state = s';
          stands = stands_on G.stands X a b (after-good lifts R s.maps G.stands.plan.good c);
          taken = ap suc G.taken;
          accepts = λ i. cond (accepted (sym X.answer i)) 1 0 + G.accepts i;
          refuses = λ i. cond (accepted (sym X.answer i)) 0 1 + G.refuses i;
          listed = (let k = length-append s.replies (reply R s.maps c ∷ []) in let n = G.listed in omega arith);
          sum = one_more (accepted r.answer) p.taken p.accepted p.refused G.sum;
          memory_is =
              m
              ∙ (λ i. replied (G.memory_is i) (reply_width * sym G.listed i) (X.answer i))
              ∙ reply-more s.replies (reply R s.maps c) before (let k = same_memory in let n = G.listed in omega arith);
          fits = (let k = same_memory in omega arith);
          room_is = G.room_is;
          ahead = further;
        })

  -- ---- its end
  module _ (stop : (length bytes ≤ p.at) ⊎ (length memory < reply_width * suc p.taken)) where
    came : o ≡ outcome (ended (length bytes) p).number s
    unfolding ended
    came =
        ahead-end R bytes p.at s
        (⊎_elim inl (λ h. inr (lt-ltb R.reply (reply_width * suc s.taken) (let a = G.room_is in let b = same_memory in let d = G.taken in omega arith))) stop)
        G.ahead

    module _ (L : Lent) (E : o ≡ run_in bytes L) where
      is : {A : Type 0} (f : Outcome → A) → f (outcome (ended (length bytes) p).number s) ≡ f (run_in bytes L)
      is f = ap f (sym came ∙ E)

      is-plan : s.maps.plan ≡ (run_in bytes L).plan
      unfolding outcome
      is-plan = is (λ x. x.plan)

      is-lifted : s.maps.lifted ≡ (run_in bytes L).lifted
      unfolding outcome
      is-lifted = is (λ x. x.lifted)

      is-objects : s.maps.objects ≡ (run_in bytes L).objects
      unfolding outcome
      is-objects = is (λ x. x.objects)

      is-replies : s.replies ≡ (run_in bytes L).replies
      unfolding outcome
      is-replies = is (λ x. x.replies)

      is-ended : ended (length bytes) p ≡ (run_in bytes L).ended
      unfolding outcome ended
      is-ended =
          (λ i. record {
            number = (ended (length bytes) p).number;
            taken = sym G.taken i;
            accepted = sym G.accepts i;
            refused = sym G.refuses i;
          })
          ∙ is (λ x. x.ended)

      pub going_end : {r : Ended} → r ≡ ended (length bytes) p → lengths T ≡ L.plan → lifted_lengths O ≡ L.lifted → before ≡ L.memory → Ran bytes L r T O memory
      unfolding left
      going_end e a b d = record {
        ended = e ∙ is-ended;
        plan = λ i. lent (plan-links i) (plan-places i) (plan-spans i) (a i).work;
        lifted = λ i. lent_lifted (lifted_links i) (lifted_places i) (lifted_objects i) (b i).work;
        replies = G.memory_is ∙ (λ i. reply_memory (is-replies i) (d i));
        fit = subst ObjectsFit is-plan G.stands.plan.fit;
        found = found bytes (plan_capacity L.plan) (lifted_capacity L.lifted) (length L.memory);
      }
        where
          plan-links : T.links ≡ links_table (run_in bytes L).plan L.plan.links
          plan-links = G.stands.plan.held.map.links ∙ (λ i. links_table (is-plan i) (a i).links)

          plan-places : T.places ≡ places_table (run_in bytes L).plan L.plan.places
          plan-places = G.stands.plan.held.map.places ∙ (λ i. places_table (is-plan i) (a i).places)

          plan-spans : T.spans ≡ spans_table (run_in bytes L).plan L.plan.spans
          plan-spans = G.stands.plan.held.spans ∙ (λ i. spans_table (is-plan i) (a i).spans)

          lifted_links : O.links ≡ links_table (run_in bytes L).lifted L.lifted.links
          lifted_links = G.stands.lifted.held.map.links ∙ (λ i. links_table (is-lifted i) (b i).links)

          lifted_places : O.places ≡ places_table (run_in bytes L).lifted L.lifted.places
          lifted_places = G.stands.lifted.held.map.places ∙ (λ i. places_table (is-lifted i) (b i).places)

          lifted_objects : O.objects ≡ objects_table (run_in bytes L).objects L.lifted.objects
          lifted_objects = G.stands.lifted.held.objects ∙ (λ i. objects_table (is-objects i) (b i).objects)

-- ---- its start
lifted-few : (l : LiftedLengths) → min (lifted_capacity l) dart_limit ≡ lifted_capacity l
unfolding lifted_capacity
lifted-few l = omega arith

plan-few : (l : Lengths) → min (plan_capacity l) dart_limit ≡ plan_capacity l
unfolding plan_capacity
plan-few l = omega arith

module _ (bytes memory : List ℕ) {room lroom : ℕ} {T : Tables} {O : LiftedTables} (B : Begun room lroom T O) where
  abbrev L : Lent
  L = lent_to_run T O memory

  pub going_start : {p : Progress} → p ≡ start → Going bytes (room_in L) (run_in bytes L) memory p room lroom T O memory
  unfolding reply_memory reply_bytes run_in
  going_start e = subst (λ (p : Progress). Going bytes (room_in L) (run_in bytes L) memory p room lroom T O memory) (sym e)
      (record {
        state = beginning;
        stands = record {
          plan = record { good = blanks-good (room_in L); fit = blanks-fit.plan; held = B.plan; room = plan-few (lengths T) };
          lifted = record { good = blanks-good (room_in L); held = B.lifted; room = lifted-few (lifted_lengths O) };
          room_is = plan-few (lengths T) ∙ B.room_is;
          lroom_is = lifted-few (lifted_lengths O) ∙ B.lroom_is;
        };
        taken = refl;
        accepts = refl;
        refuses = refl;
        listed = refl;
        sum = refl;
        memory_is = refl;
        fits = zero-le;
        room_is = refl;
        ahead = on (found bytes (plan_capacity (lengths T)) (lifted_capacity (lifted_lengths O)) (length memory)).over;
      })
