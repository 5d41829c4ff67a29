-- The check, then more: a call on raw tables that tries the tests of the check, and then others of its own.
--     not-passed, passed     what the check's answer tells of its number
--     checks-stop      a refused check: its answer is the call's, and no other test is tried
--     checks-past      an accepted one: the others decide
use Rattle.std.proofs.Common.{◌≡◌, ℕ, List, ◌++◌, sym, ap, ◌∙◌, arith}
use Rattle.paper.specs.Table.{Tables}
use Rattle.paper.specs.Refusal.{Test, number, answer, judge}
use Rattle.paper.specs.Call.{check_tests, check}
use Rattle.paper.specs.declared.refusal.Refused.{Refused}
use Rattle.theory.proofs.Judge.{number-within, judge-off, judge-past, judge-stops}

module _ (T : Tables) (m n : ℕ) where
  pub not-passed : (f : Refused) → answer (number f.refusal) f.value ≡ check T m n → (check T m n).number ≡ 0 → ⊥
  not-passed f e z = let h = (number-within f.refusal).0 in let q = ap (λ r. r.number) e ∙ z in omega arith

  pub passed : answer 0 0 ≡ check T m n → (check T m n).number ≡ 0
  passed e = sym (ap (λ r. r.number) e)

  module _ (more : List Test) where
    pub checks-stop : ((check T m n).number ≡ 0 → ⊥) → judge n (check_tests T m n ++ more) ≡ check T m n
    unfolding check
    checks-stop f = judge-stops n (check_tests T m n) more f

    pub checks-past : (check T m n).number ≡ 0 → judge n (check_tests T m n ++ more) ≡ judge n more
    unfolding check
    checks-past e = judge-past n (check_tests T m n) more (judge-off n (check_tests T m n) e)
