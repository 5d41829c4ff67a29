-- Where the links of lifted darts lead, as numbers.
--     other-end        the next end on the side of an end of a piece is the piece's other end
--     pieces-same      along an axis below the plan's dimension, other than k, the pieces of level k are the same
--     pieces-alike     along any axis but k, pieces of level k that have equal feet have equal heads, and the other way round
--     over-self        the link over the boundary of a dart that is its own neighbour
--     targets          document 01's six cases, as numbers
use Rattle.std.proofs.Common.{◌≡◌, ℕ, suc, ◌<◌, ◌≤◌, Bool, true, false, cond, not, eqb, ltb, ◌⊎◌, List, length, get_or, ℤ, sym, refl, ap, ◌∙◌, subst, inl, inr, ⊎_elim, le_refl, add-one, arith, le-ltb, eq-eqb, ne_eqb, le-leb}
use lib.Signed.{lt_z}
use borrow.Author.Tests.{lt-leb}
use Rattle.paper.specs.Map.{Map, Span, count, link, row}
use Rattle.paper.specs.Span.{covered}
use Rattle.paper.specs.Ends.{ends, is_end, next, stretches, covered_by}
use Rattle.paper.specs.Lift.{Lifted, at, lifted_darts, number_in}
use Rattle.theory.specs.Local.{Local}
use Rattle.theory.specs.Member.{◌∈◌}
use Rattle.theory.specs.Ascending.{Ascends}
use Rattle.theory.specs.Cut.{Cut, cut_of, Lawful}
use Rattle.theory.specs.Move.{Member, move}
use Rattle.theory.proofs.Bool.{clash, decided, off}
use Rattle.theory.proofs.Member.{nth_in}
use Rattle.theory.proofs.Height.{Next, next-is, next-unique}
use Rattle.theory.proofs.Stretch.{stretch-ends, stretch-splits, kept_out}
use Rattle.theory.proofs.Ends.{ends-ascends, ends_same, lawful}
use Rattle.theory.proofs.Hop.{hop, slide, is-low, is-high, is-fall, is-slide, hop-yes, hop-no}
use Rattle.theory.proofs.Move.{move-target, move-member}
use Rattle.theory.proofs.Valid.{local-row}
use Rattle.number.specs.Count.{piece_count}
use Rattle.number.specs.First.{pieces_at, no_piece, end_of, dart_of, number_of}
use Rattle.number.specs.Targets.{target_of, Reaches, Missing, Targets}
use Rattle.number.proofs.First.{foot-below, dart-member, dart-number, dart-found}

-- ---- a piece's other end
-- the ends of a stretch are neighbours
stretch-next : (l : List ℤ) (p : Span) (s : Bool) → Ascends lt_z l → p ∈ stretches l → lt_z p.lo p.hi ≡ true
    → Next s (cond s p.lo p.hi) l (cond (not s) p.lo p.hi)
stretch-next l p true o w h = record { member = (stretch-ends l p w).1; past = h; tight = λ b k e. stretch-splits l p b o w k ∙ ap not e }
stretch-next l p false o w h =
    record { member = (stretch-ends l p w).0; past = h; tight = λ b k e. off (lt_z p.lo b) (sym (stretch-splits l p b o w k) ∙ e) }

other-end : (M : Map) (d k j : ℕ) (s : Bool) → j < piece_count M d k → next s (end_of M d k j s) (ends M k d) ≡ end_of M d k j (not s)
unfolding end_of piece_count
other-end M d k j s g =
    let l = ends M k d in
    let p = get_or (pieces_at M d k) j no_piece in
    let t = cond s p.lo p.hi in
    let u = cond (not s) p.lo p.hi in
    let w = (kept_out (row M d) (stretches l) p (nth_in (pieces_at M d k) j no_piece g)).0 in
    let n = stretch-next l p s (ends-ascends M k d) w (foot-below M d k j g) in
    next-unique s t (next s t l) u l (next-is s t u l n.member n.past) n

-- ---- neighbours with the same pieces
pub pieces-same : (M : Map) → Local M → (d k i : ℕ) → d < count M → i < M.dim → (i ≡ k → ⊥) → pieces_at M (link M i d) k ≡ pieces_at M d k
pieces-same M L d k i h a ne = λ n. covered_by (local-row M L i d h a n) (stretches (ends_same M L k i d h (omega arith) ne n))

-- both are stretches of the same list, and the next end of a stretch's end is its other one
pub pieces-alike : (M : Map) → Local M → (d k i : ℕ) → d < count M → i ≤ M.dim → (i ≡ k → ⊥) → (j j' : ℕ) (s : Bool) → j < piece_count M d k
    → j' < piece_count M (link M i d) k → end_of M d k j s ≡ end_of M (link M i d) k j' s → end_of M d k j (not s) ≡ end_of M (link M i d) k j' (not s)
pieces-alike M L d k i h l ne j j' s g g' q =
    sym (other-end M d k j s g) ∙ (λ n. next s (q n) (sym (ends_same M L k i d h l ne) n)) ∙ other-end M (link M i d) k j' s g'

module _ (M : Map) (L : Local M) (d k j : ℕ) (s : Bool) (h : d < count M) (l : k ≤ M.dim) (g : j < piece_count M d k) where
  abbrev t : ℤ
  t = end_of M d k j s

  abbrev x : Lifted
  x = dart_of M d k j s

  abbrev C : Cut
  C = cut_of M

  W : Lawful C
  W = lawful M L

  X : Member C x
  X = dart-member M L d k j s h l g

  -- ---- where an axis leads is the end of a piece
  reaches : (i e n : ℕ) (z : Bool) → i ≤ suc M.dim → move C i x ≡ at e n t z → Reaches M d k i j s e n z
  unfolding target_of
  reaches i e n z a q =
      let Y = subst (λ (y : Lifted). Member C y) q (move-member C W x X i a) in
      let r = dart-found M L (at e n t z) Y in (
        r.0,
        r.1,
        ap (λ (y : Lifted). y.t) r.2,
        ap (number_in (lifted_darts M)) (move-target M i x ∙ q ∙ r.2) ∙ dart-number M L e n r.0 z Y.dart Y.level r.1,
      )

  -- what is no lifted dart is the end of no piece
  missing : (e n : ℕ) (z : Bool) → e < count M → n ≤ M.dim → (Member C (at e n t z) → ⊥) → Missing M d k j s e n z
  missing e n z a b f i c q = f (subst (λ (y : ℤ). Member C (at e n y z)) (sym q) (dart-member M L e n i z a b c))

  leads : (i e : ℕ) (z : Bool) → e < count M → j < piece_count M e k → move C i x ≡ dart_of M e k j z → target_of M d k i j s ≡ number_of M e k j z
  unfolding target_of
  leads i e z a b q = ap (number_in (lifted_darts M)) (move-target M i x ∙ q) ∙ dart-number M L e k j z a l b

  stays : (i : ℕ) → move C i x ≡ x → target_of M d k i j s ≡ number_of M d k j s
  stays i q = leads i d s h g q

  -- ---- the same piece of a neighbour
  same-piece : (i p : ℕ) → p < M.dim → (p ≡ k → ⊥) → move C i x ≡ hop C p x → target_of M d k i j s ≡ number_of M (link M p d) k j s
  unfolding piece_count end_of
  same-piece i p a ne q =
      let c = sym (pieces-same M L d k p h a ne) in
      let b : j < piece_count M (link M p d) k = subst (λ (r : List Span). j < length r) c g in
      let e : t ≡ end_of M (link M p d) k j s = ap (λ (r : List Span). cond s (get_or r j no_piece).lo (get_or r j no_piece).hi) c in
      leads i (link M p d) s (L.within p d h (omega arith)) b
      (q ∙ hop-yes C x p (W.rows p d t s h a ∙ X.side) ∙ ap (λ (y : ℤ). at (link M p d) k y s) e)

  -- ---- one level up
  past : ltb (suc k) k ≡ false
  past = le-ltb (suc k) k (omega arith)

  apart : eqb (suc k) k ≡ false
  apart = ne_eqb (suc k) k (λ e. omega arith)

  same : eqb (suc k) (suc k) ≡ true
  same = eq-eqb (suc k) (suc k) refl

  up_is : (b : Bool) → is_end (ends M (suc k) d) t ≡ b → k < M.dim → move C (suc k) x ≡ cond b (at d (suc k) t s) (at d k t (not s))
  unfolding move
  up_is b e a = simp (add-one, past, apart, same, le-leb (suc k) M.dim a, e)

  top-is : (b : Bool) → covered (row M d) t (not s) ≡ b → k ≡ M.dim → move C (suc k) x ≡ cond b (at d k t (not s)) x
  unfolding move
  top-is b e q = simp (add-one, past, apart, same, lt-leb (suc k) M.dim (omega arith), ← q, e)

  climbs : k < M.dim → Reaches M d k (suc k) j s d (suc k) s ⊎ (Missing M d k j s d (suc k) s × Reaches M d k (suc k) j s d k (not s))
  climbs a = ⊎_elim
      (λ e. inl (reaches (suc k) d (suc k) s (omega arith) (up_is true e a)))
      (λ e. inr (missing d (suc k) s h a (λ Y. clash Y.end e), reaches (suc k) d k (not s) (omega arith) (up_is false e a)))
      (decided (is_end (ends M (suc k) d) t))

  turns : k ≡ M.dim → Reaches M d k (suc k) j s d k (not s) ⊎ (Missing M d k j s d k (not s) × (target_of M d k (suc k) j s ≡ number_of M d k j s))
  turns q = ⊎_elim
      (λ e. inl (reaches (suc k) d k (not s) (omega arith) (top-is true e q)))
      (λ e. inr (missing d k (not s) h l (λ Y. clash Y.side e), stays (suc k) (top-is false e q)))
      (decided (covered (row M d) t (not s)))

  -- ---- to the neighbour along the plan's last axis
  crosses : k < M.dim
      → Reaches M d k (suc M.dim) j s (link M M.dim d) k s
      ⊎ (Missing M d k j s (link M M.dim d) k s × (target_of M d k (suc M.dim) j s ≡ number_of M d k j s))
  crosses a =
      let q = is-high C W x X (suc M.dim) M.dim refl a (le_refl M.dim) in
      ⊎_elim
      (λ e. inl (reaches (suc M.dim) (link M M.dim d) k s (le_refl (suc M.dim)) (q ∙ hop-yes C x M.dim e)))
      (λ e. inr (
        missing (link M M.dim d) k s (L.within M.dim d h (le_refl M.dim)) l (λ Y. clash Y.side e),
        stays (suc M.dim) (q ∙ hop-no C x M.dim e),
      ))
      (decided (covered (row M (link M M.dim d)) t s))

  pub over-self : k < M.dim → link M M.dim d ≡ d → target_of M d k (suc M.dim) j s ≡ number_of M d k j s
  over-self a p = stays (suc M.dim)
      (is-high C W x X (suc M.dim) M.dim refl a (le_refl M.dim)
      ∙ hop-yes C x M.dim (ap (λ (e : ℕ). covered (row M e) t s) p ∙ X.side)
      ∙ ap (λ (e : ℕ). at e k t s) p)

  slides : k ≡ 0 → target_of M d k 0 j s ≡ number_of M d k j (not s)
  unfolding slide
  slides e = leads 0 d (not s) h g
      (is-slide C x 0 refl e ∙ (λ n. at d (sym e n) (next s t (ends M (sym e n) d)) (not s)) ∙ ap (λ (y : ℤ). at d k y (not s)) (other-end M d k j s g))

  pub targets : Targets M d k j s
  targets = record {
    low = λ i a. same-piece i i (omega arith) (λ e. omega arith) (is-low C W x X i a);
    pair = slides;
    down = λ n e. reaches k d n s (omega arith) (is-fall C x k n (sym e) (sym e));
    up = climbs;
    top = turns;
    high = λ i a b. same-piece (suc i) i b (λ e. omega arith) (is-high C W x X (suc i) i refl a (omega arith));
    over = crosses;
  }
