-- The count of cells of raw tables: its refusals in their order, and its value.
--     fault-first      the check's refusal
--     axis-next        an axis past the dimension
--     cells_told       else the number of cells
use Rattle.std.proofs.Common.{◌≡◌, ℕ, ◌<◌, ◌≤◌, cond, ltb, List, [], ◌∷◌, ◌++◌, sym, ap, ◌∙◌, arith, le-ltb, lt-ltb}
use Rattle.paper.specs.Cell.{cells}
use Rattle.paper.specs.Table.{Tables}
use Rattle.paper.specs.Refusal.{Test, ◌if◌, number, answer, judge, accept}
use Rattle.paper.specs.declared.refusal.Refusal.TheVariants.{OutOfRange}
use Rattle.paper.specs.Call.{held, check_tests, check}
use Rattle.paper.specs.declared.refusal.Refused.{Refused}
use Rattle.paper.specs.declared.Answer.{Answer}
use Rattle.theory.proofs.Judge.{accept-refused}
use Rattle.checker.proofs.More.{not-passed, passed, checks-stop, checks-past}
use Rattle.cells.specs.Call.{cells_call}

module _ (T : Tables) (m n i : ℕ) where
  abbrev last : List Test
  last = OutOfRange if ltb m i ∷ []

  called : (a : Answer) → judge n (check_tests T m n ++ last) ≡ a → cells_call T m n i ≡ accept a (cells (held T m n) i)
  unfolding cells_call
  called a e = ap (λ x. accept x (cells (held T m n) i)) e

  refused : (a : Answer) → judge n (check_tests T m n ++ last) ≡ a → (a.number ≡ 0 → ⊥) → a ≡ cells_call T m n i
  refused a e f = sym (called a e ∙ accept-refused a (cells (held T m n) i) f)

  pub fault-first : (f : Refused) → answer (number f.refusal) f.value ≡ check T m n → answer (number f.refusal) f.value ≡ cells_call T m n i
  fault-first f e = let z = not-passed T m n f e in e ∙ refused (check T m n) (checks-stop T m n last z) z

  module _ (ok : answer 0 0 ≡ check T m n) where
    behind : judge n (check_tests T m n ++ last) ≡ cond (ltb m i) (answer 3 0) (answer 0 0)
    unfolding judge
    behind = checks-past T m n last (passed T m n ok)

    pub axis-next : m < i → answer 3 0 ≡ cells_call T m n i
    axis-next h = refused (answer 3 0) (behind ∙ ap (λ b. cond b (answer 3 0) (answer 0 0)) (lt-ltb m i h)) (λ z. omega arith)

    pub cells_told : i ≤ m → answer 0 (cells (held T m n) i) ≡ cells_call T m n i
    unfolding accept
    cells_told h = sym (called (answer 0 0) (behind ∙ ap (λ b. cond b (answer 3 0) (answer 0 0)) (le-ltb m i h)))
