-- Lists told number by number, from the front.
--     list-drop, list_done     what is left of one
--     from_front       what is told from the front on is told of each number
--     same-below       two lists of the same length are the same where each member is
use Rattle.std.proofs.Common.{◌≡◌, ℕ, zero, suc, ◌<◌, ◌≤◌, Bool, true, ◌&&◌, [], ◌∷◌, drop, sym, refl, ap, ◌∙◌, le_refl, arith, drop_of_length-le, drop-cons}
use Rattle.std.proofs.Math.Bool.{and_assoc, and_comm, and-true}
use Rattle.paper.specs.Below.{all_below, list_below, same_list}
use Rattle.theory.proofs.Below.{list_length, list_at}

pub list-drop : {A : Type 0} (c : ℕ) (f : ℕ → A) (i : ℕ) → i < c → drop i (list_below c f) ≡ f i ∷ drop (suc i) (list_below c f)
list-drop c f i h =
    drop-cons (list_below c f) i (f i) (rw (list_length c f) h) ∙ ap (λ x. x ∷ drop (suc i) (list_below c f)) (list_at c f (f i) i h)

pub list_done : {A : Type 0} (c : ℕ) (f : ℕ → A) (i : ℕ) → c ≤ i → drop i (list_below c f) ≡ []
list_done c f i h = drop_of_length-le (list_below c f) {i = i} (rw (list_length c f) h)

-- T i tells whether all passes from i on: p does at i, and so on to the end
module _ (p T : ℕ → Bool) (c : ℕ) (step : (i : ℕ) → i < c → T i ≡ (p i && T (suc i))) (end : T c ≡ true) where
  so_far : (i : ℕ) → i ≤ c → T 0 ≡ (all_below i p && T i)
  unfolding all_below
  so_far zero h = refl
  so_far (suc i) h = so_far i (omega arith) ∙ ap (λ x. all_below i p && x) (step i h) ∙ sym (and_assoc (all_below i p) (p i) (T (suc i))) ∙ ap (λ x. x && T (suc i)) (and_comm (all_below i p) (p i))

  pub from_front : all_below c p ≡ T 0
  from_front = sym (so_far c (le_refl c) ∙ ap (λ x. all_below c p && x) end ∙ and-true (all_below c p))

pub same-below : {A : Type 0} (same : A → A → Bool) (c : ℕ) (f g : ℕ → A) → all_below c (λ i. same (f i) (g i)) ≡ same_list same (list_below c f) (list_below c g)
unfolding same_list
same-below same c f g =
    from_front (λ i. same (f i) (g i)) (λ i. same_list same (drop i (list_below c f)) (drop i (list_below c g))) c
    (λ i h t. same_list same (list-drop c f i h t) (list-drop c g i h t))
    (λ t. same_list same (list_done c f c (le_refl c) t) (list_done c g c (le_refl c) t))
