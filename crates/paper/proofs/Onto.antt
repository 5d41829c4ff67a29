-- Memory that is written from its start on.
--     onto-length      it stays as long as it was
--     onto-more        one number more, behind those that are written
use Rattle.std.proofs.Common.{◌≡◌, ℕ, suc, ◌<◌, ◌≤◌, List, [], ◌∷◌, ◌++◌, length, get_or, drop, set, sym, ap, ◌∙◌, append_assoc, arith, length-append, length-drop, drop-cons}
use lib.Seq.{set_at}
use Rattle.paper.specs.Below.{onto}

module _ {A : Type 0} (l before : List A) where
  pub onto-length : length l ≤ length before → length (onto l before) ≡ length before
  onto-length h =
      let a = length-append l (drop (length l) before) in
      let b = length-drop (length l) before in
      omega arith

  pub onto-more : (x : A) (k : ℕ) → length l ≡ k → k < length before → set (onto l before) k x ≡ onto (l ++ (x ∷ [])) before
  onto-more x k e h =
      ap (λ t. set (l ++ t) k x) (ap (λ (i : ℕ). drop i before) e ∙ drop-cons before k x h)
      ∙ set_at l (get_or before k x) (drop (suc k) before) x k e
      ∙ sym (append_assoc l (x ∷ []) (drop (suc k) before))
      ∙ ap (λ (i : ℕ). (l ++ (x ∷ [])) ++ drop i before) (let a = length-append l (x ∷ []) in let n : suc k ≡ length (l ++ (x ∷ [])) = omega arith in n)
