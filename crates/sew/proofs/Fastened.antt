-- The table of links, as SEW writes it.
--     column-more          one more dart is linked
--     fastened             both darts of every pair are linked: the table that the map after SEW has
use Rattle.std.proofs.Common.{◌≡◌, ℕ, ◌+◌, ◌*◌, ◌<◌, ◌≤◌, Bool, true, false, cond, ◌&&◌, eqb, List, length, set, ℤ, sym, refl, ap, ◌∙◌, subst, add-one, arith, lit<, eqb-true, le-leb}
use Rattle.paper.specs.Width.{link_width, dim_limit}
use Rattle.paper.specs.Map.{Map, count, link}
use Rattle.paper.specs.Orbit.{marked}
use Rattle.paper.specs.Table.{link_at, table_of}
use Rattle.paper.specs.Sew.{far, wing, mate}
use Rattle.paper.specs.Edit.{sewn}
use Rattle.theory.specs.Local.{Local}
use Rattle.theory.proofs.Sew.{mate-rest}
use Rattle.hold.specs.Hold.{HoldsPlan}
use Rattle.hold.specs.Rows.{columned, listed}
use Rattle.hold.proofs.Rows.{table-column, table_same}
use Rattle.hold.proofs.Relinked.{relinked_at, relinked-holds}
use Rattle.orbit.specs.Sparse.{queue}
use Rattle.sew.specs.Pairs.{Paired}
use Rattle.sew.proofs.Paired.{paired-sewable, paired-left, paired-right}

pub column-more : {A : Type 0} (w a : ℕ) (e : ℕ → ℕ) (v : ℕ → A) (q d : ℕ) (x : A) (l₀ : List A) {l l' : List A}
    → l ≡ columned w a e v q l₀ → d ≡ e q → x ≡ v (e q) → l' ≡ set l (d * w + a) x → l' ≡ columned w a e v (q + 1) l₀
unfolding columned
column-more w a e v q d x l₀ p h k r = r ∙ (λ j. set (p j) (h j * w + a) (k j)) ∙ ap (λ (c : ℕ). columned w a e v c l₀) (sym (add-one q))

module _ (M : Map) (L : Local M) (i a b : ℕ) (il : i ≤ M.dim) (an : a < count M) (bn : b < count M) {n : ℕ} (en : count M ≡ n) {w : List ℕ} {t : ℕ}
    (P : Paired (link M) M.dim (far i) n a b w t) where
  abbrev φ : ℕ → ℕ
  φ = mate M i a b

  -- both darts of each pair are written; the others have what SEW leaves them
  written : (d q : ℕ) → d < count M → q < link_width
      → cond (eqb q i && listed (queue (n + n) w) t d) (φ d) (cond (eqb q i && listed (queue n w) t d) (φ d) (link_at M d q)) ≡ relinked_at M L i φ il d q
  unfolding link_at
  written d q h l = go (eqb q i) (listed (queue (n + n) w) t d) (listed (queue n w) t d) (eqb-true q i) (paired-right M L i a b an bn en P d h) (paired-left M L i a b an bn en P d h)
    where
      go : (x y z : Bool) → (x ≡ true → q ≡ i) → y ≡ marked (wing M i b) d → z ≡ marked (wing M i a) d
          → cond (x && y) (φ d) (cond (x && z) (φ d) (link_at M d q)) ≡ cond x (φ d) (link_at M d q)
      go true true z e u s = refl
      go true false true e u s = refl
      go true false false e u s =
          ap (link_at M d) (e refl) ∙ ap (λ t. cond t (link M i d) d) (le-leb i M.dim il) ∙ sym (mate-rest M L i a b il an bn (paired-sewable M L i a b an bn en P) d (sym s) (sym u))
      go false y z e u s = refl

  pub fastened : {m : ℕ} {ls ls₁ ls₂ : List ℕ} {ps ss : List ℤ} → HoldsPlan M m n ls ps ss → M.dim ≤ dim_limit → n * link_width ≤ length ls
      → ls₁ ≡ columned link_width i (queue n w) φ t ls → ls₂ ≡ columned link_width i (queue (n + n) w) φ t ls₁ → HoldsPlan (sewn M i a b) m n ls₂ ps ss
  unfolding sewn
  fastened {ls = ls} {ls₁ = ls₁} {ls₂ = ls₂} H high room p q =
      relinked-holds M L i φ il H (length ls) (q ∙ ap (columned link_width i (queue (n + n) w) φ t) (p ∙ ap (columned link_width i (queue n w) φ t) H.map.links ∙ left) ∙ right)
    where
      len : ℕ
      len = length ls

      fits : count M * link_width ≤ len
      fits = rw en room

      nd : (x : ℕ) → x < n → x < count M
      nd x h = subst (λ (k : ℕ). x < k) (sym en) h

      one : ℕ → ℕ → ℕ
      one d q = cond (eqb q i && listed (queue n w) t d) (φ d) (link_at M d q)

      left : columned link_width i (queue n w) φ t (table_of link_width (count M) (link_at M) 0 len) ≡ table_of link_width (count M) one 0 len
      left = table-column 0 link_width (count M) (link_at M) len i (queue n w) φ t fits (omega arith) (λ q h. nd (queue n w q) (P.kept.left.below q h))

      right : columned link_width i (queue (n + n) w) φ t (table_of link_width (count M) one 0 len) ≡ table_of link_width (count M) (relinked_at M L i φ il) 0 len
      right =
          table-column 0 link_width (count M) one len i (queue (n + n) w) φ t fits (omega arith) (λ q h. nd (queue (n + n) w q) (P.kept.right.below q h))
          ∙ table_same 0 link_width (count M) _ (relinked_at M L i φ il) len (lit< tt) written
