-- Laws of the links of a level, dart after dart.
--     file-link        what linking the block of a dart asks
--     Filing, file-..  the loop of `link_level`
use Rattle.std.proofs.Common.{◌≡◌, ℕ, suc, ◌+◌, ◌-◌, ◌<◌, ◌≤◌, true, List, length, ℤ, sym, refl, ◌∙◌, subst, inl, inr, ⊎_elim, not-suc-le-zero, arith}
use Rattle.paper.specs.Map.{Map, count}
use Rattle.theory.proofs.Below.{less-cases}
use Rattle.number.specs.First.{first, number_of}
use Rattle.base.specs.Base.{base}
use Rattle.visit.specs.Block.{Outside, Laid, Connected}
use Rattle.visit.specs.Stead.{Stead}
use Rattle.visit.specs.Visit.{Below, Linkable}
use Rattle.sweep.specs.Level.{Past, Upon, Spread, Standing, Filed}
use Rattle.visit.proofs.Blocks.{row-outside}
use Rattle.visit.proofs.Visiting.{stead-kept}
use Rattle.sweep.proofs.Bare.{halves-some}
use Rattle.sweep.proofs.Drawing.{drawn-same}
use Rattle.sweep.proofs.Standing.{stand-below, stand-link}

-- a dart whose bases differ has rows
pub file-link : {M : Map} {m n d k h : ℕ} {links : List ℕ} {places spans : List ℤ} {w : List ℕ} {op : List ℤ} {ol : List ℕ} {room : ℕ}
    → Stead M m n links places spans w op ol room → Below M m n d k h w op ol → Laid M op ol d k → (base w n h d ≡ base w n (1 - h) d → ⊥) → Linkable M m n d k h w op ol
file-link {d = d} {h = h} S A L o = record { below = A; some = halves-some S h A.dart A.level (A.own d A.dart) A.before A.outset o; laid = L }

pub record Filing (M : Map) (n k h : ℕ) (op : List ℤ) (ol₀ w₀ ol w : List ℕ) (d : ℕ) : Type 0 where
  pub at : d ≤ n
  pub links : length ol ≡ length ol₀
  pub work : length w ≡ length w₀
  pub stands : Standing M n k h w (λ (e : ℕ). e < d) op ol
  pub laid : (e : ℕ) → e < n → d ≤ e → Laid M op ol e k

module _ {M : Map} {m n k h : ℕ} {links : List ℕ} {places spans : List ℤ} {w₀ : List ℕ} {op : List ℤ} {ol₀ : List ℕ} {room : ℕ}
    (S : Stead M m n links places spans w₀ op ol₀ room) (B : (k ≤ m) × (h ≤ 1)) (G : Spread M n k h w₀ (λ (e : ℕ). e < n) op ol₀) where
  pub file-none : Filing M n k h op ol₀ w₀ ol₀ w₀ 0
  file-none = record {
    at = omega arith;
    links = refl;
    work = refl;
    stands = record {
      drawn = drawn-same M (Upon n k (λ (e : ℕ). e < 0)) (Past n k) (λ e l u. (u.0, inl u.1))
          (λ e l u. (u.0, ⊎_elim (λ a. a) (λ a. absurd (not-suc-le-zero a.1)) u.1))
          (λ e l u. u) (λ e l u. u) G.reached.drawn;
      own = G.reached.own;
      next = λ e l i. absurd (not-suc-le-zero i);
      before = λ e l o. G.reached.before e l;
      outset = λ e l o. G.reached.outset e l;
    };
    laid = λ e l _. G.laid e l l;
  }

  module _ {ol w : List ℕ} {d : ℕ} (I : Filing M n k h op ol₀ w₀ ol w d) where
    pub file-stead : Stead M m n links places spans w op ol room
    file-stead = stead-kept I.work refl I.links S

    module _ (lt : d < n) where
      fresh : d < d → ⊥
      fresh a = let z : ⊥ = omega arith in z

      pub file-below : Below M m n d k h w op ol
      file-below = stand-below file-stead B.0 B.1 I.stands lt fresh

      in_map : {x : ℕ} → x < n → x < count M
      in_map {x} a = subst (λ (c : ℕ). x < c) (sym S.plan.holds.darts) a

      dims : k ≤ M.dim
      dims = subst (λ (c : ℕ). k ≤ c) (sym S.plan.holds.dims) B.0

      -- the next ones are laid still
      stays : {ol' w' : List ℕ} → Connected M n d k h op ol w ol' w' → (e : ℕ) → e < n → d + 1 ≤ e → Laid M op ol' e k
      stays N e l g =
          let L = I.laid e l (omega arith) in
          record {
            placed = L.placed;
            told = λ some.
                let z : number_of M e k 0 true ≡ first M e k = omega arith in
                N.written.links_same (first M e k) 0 (omega arith)
                (subst (Outside M d k) z (row-outside M e k d k (in_map l) (in_map lt) dims dims (λ p. let q = p.0 in omega arith) 0 true some))
                (λ j p q. let y : ⊥ = omega arith in absurd y) ∙ L.told some;
          }

      pub file-more : {ol' w' : List ℕ} → length ol' ≡ length ol → length w' ≡ length w → Connected M n d k h op ol w ol' w' → Filing M n k h op ol₀ w₀ ol' w' (d + 1)
      file-more a b N = record {
        at = omega arith;
        links = a ∙ I.links;
        work = b ∙ I.work;
        stands = stand-link file-stead B.0 B.1 I.stands lt fresh (λ (e : ℕ). e < d + 1) (λ x l. omega arith) (omega arith)
            (λ x l. ⊎_elim (λ (p : x ≡ d). inr p) (λ g. inl g) (less-cases (let u = l in omega arith))) N;
        laid = stays N;
      }

    -- every dart's are written
    pub file-done : n ≤ d → Filed M n k h w op ol
    file-done g = record {
      drawn = drawn-same M (Past n (suc k)) (Past n k)
          (λ e l u. (u.0, ⊎_elim (λ a. omega arith) (λ a. let b = a.0 in omega arith) u.1))
          (λ e l u. (u.0, ⊎_elim (λ (p : l ≡ k). inr (p, let a = u.0 in omega arith)) (λ a. inl a) (less-cases u.1)))
          (λ e l u. u) (λ e l u. u) I.stands.drawn;
      own = I.stands.own;
      next = λ e l. I.stands.next e l (omega arith);
    }
