-- The pairs agree where the walk's do, by the tables.
--     agreeing-paired      the pairs in work agree exactly where SEW's do
use Rattle.std.proofs.Common.{◌≡◌, ℕ, ◌+◌, ◌<◌, Bool, true, ◌&&◌, ltb, leb, List, ℤ, sym, ◌∙◌, subst}
use Rattle.paper.specs.Below.{all_below}
use Rattle.paper.specs.Map.{Map, count, place, owned, eq_place, eq_row, link}
use Rattle.paper.specs.Orbit.{marked}
use Rattle.paper.specs.Table.{owned_at}
use Rattle.paper.specs.Sew.{far, wing, partners, partner, implies, agreeing}
use Rattle.theory.specs.Local.{Local}
use Rattle.theory.proofs.Bool.{imp_use, imp_intro, bool-ext}
use Rattle.theory.proofs.Below.{all_in, all-out}
use Rattle.fault.specs.Fault.{place_in}
use Rattle.orbit.specs.Sparse.{queue}
use Rattle.sew.specs.Pairs.{Paired}
use Rattle.sew.specs.Sewing.{agrees}
use Rattle.sew.proofs.Paired.{paired-partner, in_left, of_left}

module _ (M : Map) (L : Local M) (i a b : ℕ) (an : a < count M) (bn : b < count M) {n : ℕ} (en : count M ≡ n) {w : List ℕ} {t : ℕ}
    (P : Paired (link M) M.dim (far i) n a b w t) (m : ℕ) (em : M.dim ≡ m) (ps ss : List ℤ)
    (places : (d : ℕ) → d < n → place M d ≡ place_in ps m d) (rows : (d : ℕ) → d < n → owned M d ≡ owned_at ss d) where
  -- the test of a dart and its partner
  abbrev fits : ℕ → ℕ → Bool
  fits d e = implies (leb 1 i) (eq_place (place M d) (place M e)) && implies (ltb i M.dim) (eq_row (owned M d) (owned M e))

  same : (q : ℕ) → q < t → agrees ps ss m i (queue n w q) (queue (n + n) w q) ≡ fits (queue n w q) (partner (partners M i a b) (queue n w q))
  same q h =
      let d = queue n w q in
      let e = queue (n + n) w q in
      let dn = P.kept.left.below q h in
      let xn = P.kept.right.below q h in
      sym ((λ k. fits d (paired-partner M L i a b an bn en P q h k))
      ∙ (λ k. implies (leb 1 i) (eq_place (places d dn k) (places e xn k)) && implies (ltb i (em k)) (eq_row (rows d dn k) (rows e xn k))))

  pub agreeing-paired : all_below t (λ q. agrees ps ss m i (queue n w q) (queue (n + n) w q)) ≡ agreeing M i a b
  unfolding agreeing
  agreeing-paired = bool-ext (all_below t test) (all_below (count M) whole) into out
    where
      f : ℕ → ℕ
      f = partner (partners M i a b)

      test : ℕ → Bool
      test q = agrees ps ss m i (queue n w q) (queue (n + n) w q)

      whole : ℕ → Bool
      whole d = implies (marked (wing M i a) d) (fits d (f d))

      into : all_below t test ≡ true → all_below (count M) whole ≡ true
      into s = all_in (count M) whole (λ d h. imp_intro (marked (wing M i a) d) (fits d (f d))
          (λ u. let k = of_left M L i a b an bn en P d h u in
          subst (λ (x : ℕ). fits x (f x) ≡ true) k.2 (sym (same k.0 k.1) ∙ all-out t test s k.0 k.1)))

      out : all_below (count M) whole ≡ true → all_below t test ≡ true
      out s = all_in t test (λ q h.
          let d = queue n w q in
          let dn = subst (λ (k : ℕ). d < k) (sym en) (P.kept.left.below q h) in
          same q h ∙ imp_use (marked (wing M i a) d) (fits d (f d)) (all-out (count M) whole s d dn) (in_left M L i a b an bn en P q h))
