-- Memory that the counts go to, axis by axis.
--     none_written     those of no axis: it is as it was
--     more-written     the next axis's number behind them
use Rattle.std.proofs.Common.{◌≡◌, ℕ, ◌+◌, ◌<◌, List, length, set, sym, refl, ap, ◌∙◌, add-one}
use Rattle.paper.specs.Below.{list_onto, list_below, onto}
use Rattle.paper.proofs.Onto.{onto-more}
use Rattle.theory.proofs.Below.{list_length, list-more}

module _ (f : ℕ → ℕ) (before : List ℕ) where
  pub none_written : before ≡ onto (list_below 0 f) before
  unfolding list_onto
  none_written = refl

  pub more-written : (i : ℕ) → i < length before → set (onto (list_below i f) before) i (f i) ≡ onto (list_below (i + 1) f) before
  more-written i h =
      onto-more (list_below i f) before (f i) i (list_length i f) h
      ∙ ap (λ l. onto l before) (sym (ap (λ k. list_below k f) (add-one i) ∙ list-more i f))
