-- The lift call: its refusals in their order, and what it leaves in the lifted side's tables.
--     Called           the answer and the tables are those of the call
--     call-top         a plan of dimension 5 is refused, and the tables stay
--     call-fault       so are tables that the check refuses
--     call-over        so is a plan whose lift has no room
--     call-done        else the lift is written
--     call-accepted    what is accepted: the dimension is another, the check accepts, and there is room
use Rattle.std.proofs.Common.{◌≡◌, ℕ, ◌<◌, ◌≤◌, Bool, false, cond, eqb, ltb, List, [], ◌∷◌, ◌++◌, length, sym, refl, ap, ◌∙◌, subst, ⊎_elim, arith, le-ltb, lt-ltb, ne_eqb}
use Rattle.paper.specs.Width.{dim_limit}
use Rattle.paper.specs.Lift.{lifted_darts, lift, carried_objects}
use Rattle.paper.specs.Table.{Tables, LiftedTables, lifted_lengths, lifted_tables}
use Rattle.paper.specs.Refusal.{Test, ◌if◌, answer, judge, accepted, accept}
use Rattle.paper.specs.declared.refusal.Refusal.TheVariants.{TooLarge, TopDimension}
use Rattle.paper.specs.Call.{held, bad_dimension, bad_count, faults, check_tests, check, lift_call, lift_leaves}
use Rattle.paper.specs.declared.Answer.{Answer}
use Rattle.theory.proofs.Bool.{eq-or, less-or}
use Rattle.checker.proofs.More.{checks-stop, checks-past}
use Rattle.lift.specs.Lifted.{BlankPast, Lifted}

module _ (T : Tables) (m n room : ℕ) where
  abbrev N : ℕ
  N = length (lifted_darts (held T m n))

  abbrev last : List Test
  last = TooLarge if ltb room N ∷ []

  abbrev tests : Bool → List Test
  tests b = bad_dimension m ∷ (TopDimension if b ∷ (bad_count T n ∷ (faults T m n ++ last)))

  judged : Answer
  judged = judge n (tests (eqb m dim_limit))

  -- ---- which refusal it is
  top-first : m ≡ dim_limit → judged ≡ answer 22 0
  unfolding judged judge
  top-first e = rw e refl

  past_top : (m ≡ dim_limit → ⊥) → judged ≡ judge n (check_tests T m n ++ last)
  unfolding judged judge
  past_top f = ap (λ b. judge n (tests b)) (ne_eqb m dim_limit f)

  fault-next : (m ≡ dim_limit → ⊥) → ((check T m n).number ≡ 0 → ⊥) → judged ≡ check T m n
  fault-next f g = past_top f ∙ checks-stop T m n last g

  room-last : (m ≡ dim_limit → ⊥) → (check T m n).number ≡ 0 → judged ≡ cond (ltb room N) (answer 20 0) (answer 0 0)
  unfolding judge
  room-last f e = past_top f ∙ checks-past T m n last e

  no_room : (m ≡ dim_limit → ⊥) → (check T m n).number ≡ 0 → room < N → judged ≡ answer 20 0
  no_room f e l = room-last f e ∙ ap (λ b. cond b (answer 20 0) (answer 0 0)) (lt-ltb room N l)

  none_left : (m ≡ dim_limit → ⊥) → (check T m n).number ≡ 0 → N ≤ room → judged ≡ answer 0 0
  none_left f e l = room-last f e ∙ ap (λ b. cond b (answer 20 0) (answer 0 0)) (le-ltb room N l)

  -- ---- number 0
  none-met : (lift_call T m n room).number ≡ 0 → judged.number ≡ 0
  unfolding lift_call judged accept
  none-met e = ⊎_elim
      (λ z. z)
      (λ (f : judged.number ≡ 0 → ⊥). sym (ap (λ b. (cond b (answer 0 N) judged).number) (ne_eqb judged.number 0 f)) ∙ e)
      (eq-or judged.number 0)

  pub call-accepted : (lift_call T m n room).number ≡ 0
      → (m ≡ dim_limit → ⊥) × (((check T m n).number ≡ 0) × ((N ≤ room) × (lift_call T m n room ≡ answer 0 N)))
  unfolding lift_call judged accept
  call-accepted e = (low, (ok, (fits, ap (λ x. accept x N) (none_left low ok fits))))
    where
      other : {a : Answer} → judged ≡ a → a.number ≡ 0
      other q = ap (λ a. a.number) (sym q) ∙ none-met e

      low : m ≡ dim_limit → ⊥
      low q = let z = other (top-first q) in omega arith

      ok : (check T m n).number ≡ 0
      ok = ⊎_elim (λ z. z) (λ f. other (fault-next low f)) (eq-or (check T m n).number 0)

      fits : N ≤ room
      fits = ⊎_elim
          (λ (l : room < N). absurd (let z = other (no_room low ok l) in omega arith))
          (λ l. l)
          (less-or room N)

  -- ---- the answer and the tables, by what is judged
  module _ (O : LiftedTables) where
    abbrev pub Called : Answer → LiftedTables → Type 0
    Called r O' = (r ≡ lift_call T m n room) × (O' ≡ lift_leaves T m n room O)

    abbrev L : LiftedTables
    L = lifted_tables (lift (held T m n)) (carried_objects (held T m n)) (lifted_lengths O)

    by_call : (a : Answer) → lift_call T m n room ≡ a → {O' : LiftedTables} → O' ≡ cond (accepted a) L O → Called a O'
    unfolding lift_leaves
    by_call a e l = (sym e, l ∙ ap (λ x. cond (accepted x) L O) (sym e))

    refused : (a : Answer) → judged ≡ a → (a.number ≡ 0 → ⊥) → {O' : LiftedTables} → O' ≡ O → Called a O'
    unfolding lift_call judged accept
    refused a e f l =
        let no : accepted a ≡ false = ne_eqb a.number 0 f in
        by_call a (ap (λ x. accept x N) e ∙ ap (λ b. cond b (answer 0 N) a) no) (l ∙ sym (ap (λ b. cond b L O) no))

    done : judged ≡ answer 0 0 → {O' : LiftedTables} → O' ≡ L → Called (answer 0 N) O'
    unfolding lift_call judged accept
    done e l = by_call (answer 0 N) (ap (λ x. accept x N) e) l

    -- ---- the call, way out by way out
    pub call-top : m ≡ dim_limit → {O' : LiftedTables} → O' ≡ O → Called (answer 22 0) O'
    call-top e l = refused (answer 22 0) (top-first e) (λ z. omega arith) l

    module _ (low : m ≡ dim_limit → ⊥) where
      pub call-fault : ((check T m n).number ≡ 0 → ⊥) → {O' : LiftedTables} → O' ≡ O → Called (check T m n) O'
      call-fault f l = refused (check T m n) (fault-next low f) f l

      module _ (ok : (check T m n).number ≡ 0) {r old : ℕ} {O' : LiftedTables} (X : Lifted (held T m n) room old O r O') where
        pub call-over : room < r → Called (answer 20 0) O'
        call-over h = ⊎_elim
            (λ (l : room < N). refused (answer 20 0) (no_room low ok l) (λ z. omega arith) (X.stay l))
            (λ l. absurd (let e = X.count l in omega arith))
            (less-or room N)

        pub call-done : r ≤ room → BlankPast old O → Called (answer 0 r) O'
        call-done h B = ⊎_elim
            (λ l. absurd (let e = X.over l in omega arith))
            (λ (l : N ≤ room). subst (λ (k : ℕ). Called (answer 0 k) O') (sym (X.count l)) (done (none_left low ok l) (X.tables l B)))
            (less-or room N)
