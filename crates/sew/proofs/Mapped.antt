-- Links that agree on darts and axes carry the same partners.
--     carried-agree        a partner that is carried
--     wrong-agree          partners that no pairing has
--     paired-agree         pairs that a walk leaves
--     wrong-map, paired-map    the same for the links of a map, by the table that holds them
use Rattle.std.proofs.Common.{◌≡◌, ℕ, ◌+◌, ◌-◌, ◌<◌, ◌≤◌, Bool, List, sym, ◌∙◌, subst}
use Rattle.paper.specs.Map.{Map, link}
use Rattle.paper.specs.Sew.{far}
use Rattle.theory.specs.Carry.{Carried, stays, goes}
use Rattle.theory.proofs.Carry.{carried-left, carried-right}
use Rattle.kernel.specs.Link.{alpha}
use Rattle.hold.specs.Hold.{HasLinks}
use Rattle.orbit.specs.Flood.{axes, Links}
use Rattle.orbit.proofs.Links.{to-mark, agree-links}
use Rattle.orbit.proofs.Cell.{axes-far}
use Rattle.sew.specs.Label.{Labelled}
use Rattle.sew.specs.Pairs.{Pairs, Wrong, two, shared, meet, Paired}

module _ {α β : ℕ → ℕ → ℕ} {m n : ℕ} (K : Links α m n) (A : (j e : ℕ) → e < n → j ≤ m → α j e ≡ β j e) {S : ℕ → Bool} {a b : ℕ} (an : a < n) (bn : b < n) where
  pub carried-agree : {d e : ℕ} → Carried α α m S a b d e → Carried β β m S a b d e
  carried-agree stays = stays
  carried-agree (goes {d = d} {x = x} c j l s p q) =
      goes (carried-agree c) j l s
      (sym (A j d (to-mark K S an (carried-left c)).0 l) ∙ p) (sym (A j x (to-mark K S bn (carried-right c)).0 l) ∙ q)

  pub wrong-agree : Wrong α m S a b → Wrong β m S a b
  wrong-agree (two d e g c k f) = two d e g (carried-agree c) (carried-agree k) f
  wrong-agree (shared d e g c k f) = shared d e g (carried-agree c) (carried-agree k) f
  wrong-agree (meet d e g c k) = meet d e g (carried-agree c) (carried-agree k)

pub paired-agree : {α β : ℕ → ℕ → ℕ} {m n : ℕ} → Links α m n → ((j e : ℕ) → e < n → j ≤ m → α j e ≡ β j e) → {S : ℕ → Bool} {a b : ℕ} → a < n → b < n
    → {w : List ℕ} {t : ℕ} → Paired α m S n a b w t → Paired β m S n a b w t
paired-agree K A an bn P = record {
  kept = P.kept;
  carries = λ q h. carried-agree K A an bn (P.carries q h);
  all = λ c. P.all (carried-agree (agree-links K A) (λ j e h l. sym (A j e h l)) an bn c);
}

-- ---- a map's links, by a table; the axes far from i, by their bounds
module _ {M : Map} {m n : ℕ} {ls : List ℕ} (H : HasLinks M m n ls) (K : Links (alpha ls) m n) (i : ℕ) {a b : ℕ} (an : a < n) (bn : b < n) where
  pub wrong-map : Wrong (alpha ls) m (axes (i - 1) (i + 2)) a b → Wrong (link M) M.dim (far i) a b
  wrong-map x =
      subst (λ (k : ℕ). Wrong (link M) k (far i) a b) (sym H.dims)
      (subst (λ (S : ℕ → Bool). Wrong (link M) m S a b) (axes-far i) (wrong-agree K (λ j e h l. sym (H.links j e h l)) an bn x))

  pub paired-map : {w : List ℕ} {t : ℕ} → Paired (alpha ls) m (axes (i - 1) (i + 2)) n a b w t → Paired (link M) M.dim (far i) n a b w t
  paired-map {w} {t} x =
      subst (λ (k : ℕ). Labelled (link M) (link M) k (far i) (Pairs n) n a b w t) (sym H.dims)
      (subst (λ (S : ℕ → Bool). Labelled (link M) (link M) m S (Pairs n) n a b w t) (axes-far i) (paired-agree K (λ j e h l. sym (H.links j e h l)) an bn x))
