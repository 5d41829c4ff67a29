-- What is left where rows were made to lead to each other along axis a, pair by pair.
--     ways-long        that keeps the length
--     row_stays        a row that is in no pair
--     row-own, row-mate     rows that are, where none is in two pairs
use Rattle.std.proofs.Common.{◌≡◌, ℕ, ◌+◌, ◌*◌, ◌<◌, ◌≤◌, List, length, ◌∙◌, arith, length-set, get_or-set_other, get_or-set_same}
use Rattle.paper.specs.Width.{link_width}
use Rattle.over.specs.Over.{link_of, way, ways}
use Rattle.over.proofs.Read.{Written, Keeps}

module _ (a : ℕ) where
  pub ways-long : (x y : ℕ) (l : List ℕ) → length (ways a x y l) ≡ length l
  ways-long x y l = length-set (way a x y l) (y * link_width + a) x ∙ length-set l (x * link_width + a) y

  ways-keep : (n x y : ℕ) → (n ≡ x * link_width + a → ⊥) → (n ≡ y * link_width + a → ⊥) → Keeps (ways a) n x y
  ways-keep n x y o p l = get_or-set_other (way a x y l) (y * link_width + a) n x 0 p ∙ get_or-set_other l (x * link_width + a) n y 0 o

  module _ {R : ℕ → ℕ → Type 0} {ol ol' : List ℕ} (W : Written (ways a) R ol ol') (axis : a < link_width) where
    pub row_stays : (q b : ℕ) → b < link_width → (b ≡ a → (u v : ℕ) → R u v → (q ≡ u → ⊥) × (q ≡ v → ⊥)) → link_of ol' q b ≡ link_of ol q b
    row_stays q b l o = W.kept (q * link_width + b) (λ u v r.
        ways-keep (q * link_width + b) u v (λ p. (o (omega arith) u v r).0 (omega arith)) (λ p. (o (omega arith) u v r).1 (omega arith)))

    module _ (fits : (u v : ℕ) → R u v → (u * link_width + link_width ≤ length ol) × (v * link_width + link_width ≤ length ol))
        (apart : (u v u' v' : ℕ) → R u v → R u' v' → u ≡ v' → ⊥) where
      pub row-own : (u v : ℕ) → R u v → link_of ol' u a ≡ v
      row-own u v r =
          let k = (fits u v r).0 in
          W.done u v (u * link_width + a) v r
          (λ l e. get_or-set_other (way a u v l) (v * link_width + a) (u * link_width + a) u 0 (λ p. apart u v u v r r (omega arith))
          ∙ get_or-set_same l (u * link_width + a) v 0 (omega arith))
          (λ u' v' r' o q. ways-keep (u * link_width + a) u' v' (λ p. o (omega arith)) (λ p. apart u v u' v' r r' (omega arith)))

      pub row-mate : (u v : ℕ) → R u v → link_of ol' v a ≡ u
      row-mate u v r =
          let k = (fits u v r).1 in
          W.done u v (v * link_width + a) u r
          (λ l e. get_or-set_same (way a u v l) (v * link_width + a) u 0 (rw (length-set l (u * link_width + a) v) (omega arith)))
          (λ u' v' r' o q. ways-keep (v * link_width + a) u' v' (λ p. apart u' v' u v r' r (omega arith)) (λ p. q (omega arith)))
