-- The counts of raw tables: the refusals of the call in their order, and what it leaves.
--     Called           the answer, and what the memory holds then, as the call has to give them
--     fault-first      the check's refusal, and the memory stays
--     room_next        a memory without a number for each axis, and it stays
--     counts-told      else the counts are written
use Rattle.std.proofs.Common.{◌≡◌, ℕ, suc, ◌<◌, ◌≤◌, cond, ltb, List, [], ◌∷◌, ◌++◌, length, sym, refl, ap, ◌∙◌, subst, arith, le-ltb, lt-ltb, ne_eqb}
use Rattle.paper.specs.Below.{onto}
use Rattle.paper.specs.Table.{Tables}
use Rattle.paper.specs.Refusal.{Test, ◌if◌, number, answer, judge, accepted, accept}
use Rattle.paper.specs.declared.refusal.Refusal.TheVariants.{TooLarge}
use Rattle.paper.specs.Call.{check_tests, check}
use Rattle.paper.specs.declared.refusal.Refused.{Refused}
use Rattle.paper.specs.declared.Answer.{Answer}
use Rattle.theory.proofs.Judge.{accept-refused}
use Rattle.checker.proofs.More.{not-passed, passed, checks-stop, checks-past}
use Rattle.counts.specs.Call.{counts, counts_call, counts_memory}

module _ (T : Tables) (m n : ℕ) (before : List ℕ) where
  abbrev last : List Test
  last = TooLarge if ltb (length before) (suc m) ∷ []

  abbrev pub Called : Answer → List ℕ → Type 0
  Called r after = (r ≡ counts_call T m n (length before)) × (after ≡ counts_memory T m n before)

  called : (r : Answer) → counts_call T m n (length before) ≡ r → (after : List ℕ) → after ≡ cond (accepted r) (onto (counts T m n) before) before → Called r after
  unfolding counts_memory
  called r e after z = (sym e, z ∙ ap (λ a. cond (accepted a) (onto (counts T m n) before) before) (sym e))

  judged : (a : Answer) → judge n (check_tests T m n ++ last) ≡ a → counts_call T m n (length before) ≡ accept a (suc m)
  unfolding counts_call
  judged a e = ap (λ x. accept x (suc m)) e

  refused : (a : Answer) → judge n (check_tests T m n ++ last) ≡ a → (a.number ≡ 0 → ⊥) → Called a before
  refused a e f = called a (judged a e ∙ accept-refused a (suc m) f) before (ap (λ b. cond b (onto (counts T m n) before) before) (sym (ne_eqb a.number 0 f)))

  pub fault-first : (f : Refused) → answer (number f.refusal) f.value ≡ check T m n → Called (answer (number f.refusal) f.value) before
  fault-first f e = let z = not-passed T m n f e in subst (λ a. Called a before) (sym e) (refused (check T m n) (checks-stop T m n last z) z)

  module _ (ok : answer 0 0 ≡ check T m n) where
    behind : judge n (check_tests T m n ++ last) ≡ cond (ltb (length before) (suc m)) (answer 20 0) (answer 0 0)
    unfolding judge
    behind = checks-past T m n last (passed T m n ok)

    pub room_next : length before ≤ m → Called (answer 20 0) before
    room_next h = refused (answer 20 0) (behind ∙ ap (λ b. cond b (answer 20 0) (answer 0 0)) (lt-ltb (length before) (suc m) (omega arith))) (λ z. omega arith)

    pub counts-told : m < length before → Called (answer 0 (suc m)) (onto (counts T m n) before)
    unfolding accept
    counts-told h = called (answer 0 (suc m)) (judged (answer 0 0) (behind ∙ ap (λ b. cond b (answer 20 0) (answer 0 0)) (le-ltb (length before) (suc m) h))) (onto (counts T m n) before) refl
