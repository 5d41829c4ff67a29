-- The pieces call: its refusals in their order, and the plan that accepted tables hold.
--     plan-in          tables that the check accepts hold a valid map
--     plan-rows        their rows are in order
--     call-refused     a refusal is given with zeros, and the memory stays
--     fault-first, axis-next, dart-next     which it is
--     call-told        else the answer is that for the pieces
use Rattle.std.proofs.Common.{◌≡◌, ℕ, ◌<◌, ◌≤◌, Bool, true, false, cond, ltb, leb, List, [], ◌∷◌, ◌++◌, length, ℤ, sym, ap, ◌∙◌, le-ltb, lt-ltb, ne_eqb, le-leb, Result, Ok, Err, refl, arith}
use Rattle.std.specs.Result.{is_ok}
use borrow.Author.Tests.{lt-leb}
use Rattle.paper.specs.Below.{onto}
use Rattle.paper.specs.Map.{Span, Map}
use Rattle.paper.specs.Span.{ordered, ends_of}
use Rattle.paper.specs.Ends.{pieces}
use Rattle.paper.specs.Table.{Tables, row_at, lent}
use Rattle.paper.specs.Refusal.{Test, ◌if◌, number, answer, checked_of, judge, accepted}
use Rattle.paper.specs.declared.refusal.Refusal.TheVariants.{OutOfRange, NoSuchDart, TooLarge}
use Rattle.paper.specs.Call.{held, check_tests, check, pieces_call, pieces_memory}
use Rattle.paper.specs.declared.refusal.Refused.{Refused}
use Rattle.paper.specs.declared.Answer.{Answer}
use Rattle.paper.specs.declared.Pairs.{Pairs}
use Rattle.theory.specs.Accepted.{Accepted}
use Rattle.span.specs.Row.{RowIn}
use Rattle.hold.specs.Hold.{Reads}
use Rattle.hold.proofs.Hold.{reads-order, accepted-reads}
use Rattle.checker.proofs.More.{not-passed, passed, checks-stop, checks-past}
use Rattle.pieces.specs.Told.{is_too_large, Told}

-- ---- tables that the check accepts
module _ (ls : List ℕ) (ps ss : List ℤ) (w m n : ℕ) (A : Accepted (lent ls ps ss w) m n) where
  abbrev M : Map
  M = held (lent ls ps ss w) m n

  pub plan-in : Reads M m n ls ss
  plan-in = accepted-reads ls ps ss m n w A

  pub plan-rows : (e : ℕ) → e < n → RowIn ss e × (ordered (row_at ss e) ≡ true)
  plan-rows e h = (plan-in.rows e h, reads-order plan-in e h)

-- ---- the answers
module _ (T : Tables) (m n d k : ℕ) (before : List ℤ) where
  abbrev P : List Span
  P = pieces (held T m n) k d

  abbrev rest : List Test
  rest = OutOfRange if ltb m k ∷ (NoSuchDart if leb n d ∷ (TooLarge if is_too_large P before ∷ []))

  abbrev judged : Answer
  judged = judge n (check_tests T m n ++ rest)

  abbrev pub Called : Pairs → List ℤ → Type 0
  Called r after = (r ≡ pieces_call T m n d k (length before)) × (after ≡ pieces_memory T m n d k before)

  called : (a : Answer) → judged ≡ a → (r : Pairs) → r ≡ record { number = a.number; pairs = cond (accepted a) (length P) 0 } → (after : List ℤ) → after ≡ cond (accepted a) (onto (ends_of P) before) before → Called r after
  unfolding pieces_call pieces_memory
  called a e r q after z = (
    q ∙ (λ i. record { number = (sym e i).number; pairs = cond (accepted (sym e i)) (length P) 0 }),
    z ∙ ap (λ a. cond (accepted a) (onto (ends_of P) before) before) (sym e),
  )

  pub call-refused : (a : Answer) → judged ≡ a → (v : ℕ) → a.number ≡ v → (v ≡ 0 → ⊥) → Called (record { number = v; pairs = 0 }) before
  call-refused a e v f nz =
      let no : accepted a ≡ false = ne_eqb a.number 0 (λ z. nz (sym f ∙ z)) in
      called a e _ (λ i. record { number = sym f i; pairs = cond (sym no i) (length P) 0 }) _ (ap (λ b. cond b (onto (ends_of P) before) before) (sym no))

  -- the check's refusal, whose value is left out
  pub fault-first : (r : Result Unit Refused) → false ≡ is_ok r → checked_of r ≡ check T m n → Called (record { number = (checked_of r).number; pairs = 0 }) before
  fault-first (Ok x) q e = absurd (cc)
  fault-first (Err f) q e = let z = not-passed T m n f e in call-refused (check T m n) (checks-stop T m n rest z) (number f.refusal) (ap (λ r. r.number) (sym e)) (λ w. z (ap (λ r. r.number) (sym e) ∙ w))

  behind : answer 0 0 ≡ check T m n → judged ≡ judge n rest
  behind e = checks-past T m n rest (passed T m n e)

  pub axis-next : answer 0 0 ≡ check T m n → m < k → Called (record { number = 3; pairs = 0 }) before
  unfolding judge
  axis-next e h = call-refused (answer 3 0) (past e h) 3 refl (λ z. omega arith)
    where
      past : answer 0 0 ≡ check T m n → m < k → judged ≡ answer 3 0
      past e h = unfold judge in behind e ∙ ap (λ b. cond b (answer 3 0) (judge n (NoSuchDart if leb n d ∷ (TooLarge if is_too_large P before ∷ [])))) (lt-ltb m k h)

  past-axis : answer 0 0 ≡ check T m n → k ≤ m → judged ≡ judge n (NoSuchDart if leb n d ∷ (TooLarge if is_too_large P before ∷ []))
  unfolding judge
  past-axis e h = behind e ∙ ap (λ b. cond b (answer 3 0) (judge n (NoSuchDart if leb n d ∷ (TooLarge if is_too_large P before ∷ [])))) (le-ltb m k h)

  pub dart-next : answer 0 0 ≡ check T m n → k ≤ m → n ≤ d → Called (record { number = 4; pairs = 0 }) before
  unfolding judge
  dart-next e h l = call-refused (answer 4 0) past 4 refl (λ z. omega arith)
    where
      past : judged ≡ answer 4 0
      past = unfold judge in past-axis e h ∙ ap (λ b. cond b (answer 4 0) (judge n (TooLarge if is_too_large P before ∷ []))) (le-leb n d l)

  past-dart : answer 0 0 ≡ check T m n → k ≤ m → d < n → judged ≡ cond (is_too_large P before) (answer 20 0) (answer 0 0)
  unfolding judge
  past-dart e h l = past-axis e h ∙ ap (λ b. cond b (answer 4 0) (judge n (TooLarge if is_too_large P before ∷ []))) (lt-leb n d l)

  pub call-told : answer 0 0 ≡ check T m n → k ≤ m → d < n → (r : Pairs) (after : List ℤ) → Told P before r after → Called r after
  call-told e h l r after t = go (is_too_large P before) (past-dart e h l) t.answer t.memory
    where
      go : (b : Bool) → judged ≡ cond b (answer 20 0) (answer 0 0) → r ≡ cond b (record { number = 20; pairs = 0 }) (record { number = 0; pairs = length P })
          → after ≡ cond b before (onto (ends_of P) before) → Called r after
      go true e f g = called (answer 20 0) e r f after g
      go false e f g = called (answer 0 0) e r f after g
