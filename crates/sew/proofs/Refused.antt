-- The refusals of SEW, as the code tries them.
--     refused-operands, refused-pairing, refused-agreeing, refused_none     the number of SEW's first refusal
use Rattle.std.proofs.Common.{◌≡◌, ℕ, true, false, not, ◌∷◌, [], ◌++◌, refl, ap, ◌∙◌}
use Rattle.paper.specs.Map.{Map}
use Rattle.paper.specs.Sew.{sewable, agreeing}
use Rattle.paper.specs.Refusal.{number, ◌if◌, judge}
use Rattle.paper.specs.declared.refusal.Refusal.TheVariants.{NoPairing, PairDisagrees}
use Rattle.paper.specs.Step.{Maps, Room, refusals}
use Rattle.paper.specs.declared.Command.TheVariants as command
use Rattle.theory.proofs.Judge.{judge-off, judge-past, judge-stops}
use Rattle.sew.specs.Sewing.{operand_tests, pair_tests}

module _ (R : Room) (s : Maps) (i a b : ℕ) where
  abbrev P : Map
  P = s.plan

  abbrev sew : ℕ
  sew = (judge 0 (refusals R s (command.Sew i a b))).number

  split : refusals R s (command.Sew i a b) ≡ (operand_tests P i a b ++ pair_tests P i a b)
  unfolding refusals operand_tests pair_tests
  split = refl

  pub refused-operands : ((judge 0 (operand_tests P i a b)).number ≡ 0 → ⊥) → sew ≡ (judge 0 (operand_tests P i a b)).number
  refused-operands f = ap (λ l. (judge 0 l).number) split ∙ ap (λ x. x.number) (judge-stops 0 (operand_tests P i a b) (pair_tests P i a b) f)

  module _ (e : (judge 0 (operand_tests P i a b)).number ≡ 0) where
    behind : sew ≡ (judge 0 (pair_tests P i a b)).number
    behind = ap (λ l. (judge 0 l).number) split ∙ ap (λ x. x.number) (judge-past 0 (operand_tests P i a b) (pair_tests P i a b) (judge-off 0 (operand_tests P i a b) e))

    pub refused-pairing : sewable P i a b ≡ false → sew ≡ number NoPairing
    unfolding pair_tests judge
    refused-pairing t = behind ∙ (λ k. (judge 0 (NoPairing if not (t k) ∷ PairDisagrees if not (agreeing P i a b) ∷ [])).number)

    pub refused-agreeing : sewable P i a b ≡ true → agreeing P i a b ≡ false → sew ≡ number PairDisagrees
    unfolding pair_tests judge
    refused-agreeing t u = behind ∙ (λ k. (judge 0 (NoPairing if not (t k) ∷ PairDisagrees if not (u k) ∷ [])).number)

    pub refused_none : sewable P i a b ≡ true → agreeing P i a b ≡ true → sew ≡ 0
    unfolding pair_tests judge
    refused_none t u = behind ∙ (λ k. (judge 0 (NoPairing if not (t k) ∷ PairDisagrees if not (u k) ∷ [])).number)
