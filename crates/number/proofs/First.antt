-- The lifted darts and their numbers, piece by piece.
--     side-small                   a piece has two rows
--     first_next                   blocks follow each other
--     within-dart, first-later     one of a dart ends before the next dart's, and those of later darts come later
--     block_within, block_apart    each lies in the list, and no two overlap
--     foot-below, foot-rises       a foot is below its head, and the ends of pieces rise
--     head-below                   a head is at the next foot or below it
--     dart-member, dart-number     the lifted dart at the end of a piece is one, and its number
--     dart-found, number-found     each lifted dart is one of those, and so is each number
use Rattle.std.proofs.Common.{◌≡◌, ℕ, zero, suc, ◌+◌, ◌*◌, ◌<◌, ◌≤◌, Bool, true, false, cond, ◌⊎◌, List, [], ◌∷◌, ◌++◌, length, get_or, pos, sym, refl, ap, ◌∙◌, subst, inl, inr, ⊎_elim, suc-le-suc, le_of_suc-le-suc, not-suc-le-zero, arith, length-append, get_or-append-add}
use mathlib.Core.List.Memᴰ
use lib.ListN.{get_or-append}
use lib.Signed.{lt_z, le_z}
use Rattle.paper.specs.Below.{sum_below, join_below, join_of, only}
use Rattle.paper.specs.Map.{Map, Span, count, row}
use Rattle.paper.specs.Span.{starts_from, ordered, covered}
use Rattle.paper.specs.Ends.{ends, stretches, covered_by}
use Rattle.paper.specs.Lift.{Lifted, at, lifted_at, lifted_darts, number_in}
use Rattle.theory.specs.Local.{Local}
use Rattle.theory.specs.Member.{◌∈◌}
use Rattle.theory.specs.Cut.{cut_of}
use Rattle.theory.specs.Move.{Member}
use Rattle.theory.proofs.Bool.{eq-or, lt-or}
use Rattle.theory.proofs.Below.{less-cases}
use Rattle.theory.proofs.Member.{nth_in, join-out, join-of-out}
use Rattle.theory.proofs.Order.{Z-order, le_in, le_out, le-lt, lt-le}
use Rattle.theory.proofs.Row.{ordered-parts, ordered-proper}
use Rattle.theory.proofs.Ends.{ends-ascends, ends-own}
use Rattle.theory.proofs.Stretch.{held, stretches-order, kept-order, stretch-held}
use Rattle.theory.proofs.Block.{block, block-length}
use Rattle.theory.proofs.Number.{lifted_of, lifted-in, at-member, at-number}
use Rattle.number.specs.Count.{piece_count, below}
use Rattle.number.specs.First.{pieces_at, no_piece, end_of, dart_of, first, side, number_of}
use Rattle.number.proofs.Sum.{sum_more}
use Rattle.number.proofs.Count.{level-number, first-number, lifted-length}

pub side-small : (s : Bool) → side s < 2
side-small true = omega arith
side-small false = omega arith

-- ---- blocks
pub first_next : (M : Map) (d k : ℕ) → first M d (suc k) ≡ first M d k + piece_count M d k * 2
unfolding first sum_below
first_next M d k = omega arith

-- a block of a dart ends before the next dart's
pub within-dart : (M : Map) (d k : ℕ) → k ≤ M.dim → first M d (suc k) ≤ first M (suc d) 0
unfolding first
within-dart M d k l = let a = sum_more (suc k) (suc M.dim) (piece_count M d) (suc-le-suc l) in unfold sum_below in omega arith

pub first-later : (M : Map) (d e l : ℕ) → d ≤ e → first M d 0 ≤ first M e l
unfolding first
first-later M d e l h = let a = sum_more d e (below M (suc M.dim)) h in unfold sum_below in omega arith

pub block_within : (M : Map) → Local M → (d k : ℕ) → d < count M → k ≤ M.dim → first M d k + piece_count M d k * 2 ≤ length (lifted_darts M)
block_within M L d k h l =
    let a = first_next M d k in
    let b = within-dart M d k l in
    let c = first-later M (suc d) (count M) 0 h in
    let e : length (lifted_darts M) ≡ first M (count M) 0 = lifted-length M L ∙ (unfold first sum_below in omega arith) in
    omega arith

pub block_apart : (M : Map) (d k e l : ℕ) → d < count M → e < count M → k ≤ M.dim → l ≤ M.dim → ((d ≡ e) × (k ≡ l) → ⊥)
    → (first M d k + piece_count M d k * 2 ≤ first M e l) ⊎ (first M e l + piece_count M e l * 2 ≤ first M d k)
block_apart M d k e l hd he hk hl ne = ⊎_elim
    (λ (p : d ≡ e). ⊎_elim (λ h. inl (rw p (level k l h))) (λ h. inr (rw p (level l k h))) (lt-or k l (λ q. ne (p, q))))
    (λ f. ⊎_elim (λ h. inl (dart d k e l hk h)) (λ h. inr (dart e l d k hl h)) (lt-or d e f))
    (eq-or d e)
  where
    level : (k l : ℕ) → k < l → first M e k + piece_count M e k * 2 ≤ first M e l
    level k l h = let a = first_next M e k in let b : first M e (suc k) ≤ first M e l = unfold first in (let c = sum_more (suc k) l (piece_count M e) h in omega arith) in omega arith

    dart : (d k e l : ℕ) → k ≤ M.dim → d < e → first M d k + piece_count M d k * 2 ≤ first M e l
    dart d k e l g h = let a = first_next M d k in let b = within-dart M d k g in let c = first-later M (suc d) e l h in omega arith

-- ---- ends of pieces
pieces-order : (M : Map) (d k : ℕ) → ordered (pieces_at M d k) ≡ true
pieces-order M d k = kept-order (row M d) (stretches (ends M k d)) (stretches-order (ends M k d) (ends-ascends M k d))

row-proper : (l : List Span) (j : ℕ) (z : Span) → ordered l ≡ true → j < length l → lt_z (get_or l j z).lo (get_or l j z).hi ≡ true
row-proper l j z o h = ordered-proper l (get_or l j z) o (nth_in l j z h)

row-follows : (l : List Span) (j : ℕ) (z : Span) → ordered l ≡ true → suc j < length l → lt_z (get_or l (suc j) z).lo (get_or l j z).hi ≡ false
row-follows [] j z o h = absurd (not-suc-le-zero h)
row-follows (x ∷ l) zero z o h = go l (ordered-parts x l o) (le_of_suc-le-suc h)
  where
    go : (l : List Span) → (lt_z x.lo x.hi ≡ true) × (starts_from x.hi l ≡ true) × (ordered l ≡ true) → 0 < length l → lt_z (get_or l 0 z).lo x.hi ≡ false
    go [] p h = absurd (not-suc-le-zero h)
    go (y ∷ l) p h = le_out x.hi y.lo p.1
row-follows (x ∷ l) (suc j) z o h = row-follows l j z (ordered-parts x l o).2 (le_of_suc-le-suc h)

pub foot-below : (M : Map) (d k j : ℕ) → j < piece_count M d k → lt_z (end_of M d k j true) (end_of M d k j false) ≡ true
unfolding end_of piece_count
foot-below M d k j h = row-proper (pieces_at M d k) j no_piece (pieces-order M d k) h

pub foot-rises : (M : Map) (d k j : ℕ) → suc j < piece_count M d k → (s : Bool) → lt_z (end_of M d k j s) (end_of M d k (suc j) s) ≡ true
unfolding end_of piece_count
foot-rises M d k j h true =
    let o = pieces-order M d k in
    let p = get_or (pieces_at M d k) j no_piece in
    let q = get_or (pieces_at M d k) (suc j) no_piece in
    lt-le lt_z Z-order p.lo p.hi q.lo (row-proper (pieces_at M d k) j no_piece o (omega arith)) (row-follows (pieces_at M d k) j no_piece o h)
foot-rises M d k j h false =
    let o = pieces-order M d k in
    let p = get_or (pieces_at M d k) j no_piece in
    let q = get_or (pieces_at M d k) (suc j) no_piece in
    le-lt lt_z Z-order p.hi q.lo q.hi (row-follows (pieces_at M d k) j no_piece o h) (row-proper (pieces_at M d k) (suc j) no_piece o h)

pub head-below : (M : Map) (d k j : ℕ) → suc j < piece_count M d k → le_z (end_of M d k j false) (end_of M d k (suc j) true) ≡ true
unfolding end_of piece_count
head-below M d k j h =
    let p = get_or (pieces_at M d k) j no_piece in
    let q = get_or (pieces_at M d k) (suc j) no_piece in
    le_in p.hi q.lo (row-follows (pieces_at M d k) j no_piece (pieces-order M d k) h)

-- ---- positions in joined lists
module _ {A : Type 0} where
  join-within : (n : ℕ) (f : ℕ → List A) (d : ℕ) → d < n → length (join_below d f) + length (f d) ≤ length (join_below n f)
  unfolding join_below
  join-within zero f d h = absurd (not-suc-le-zero h)
  join-within (suc n) f d h =
      let a = length-append (join_below n f) (f n) in
      ⊎_elim (λ (e : d ≡ n). rw e (omega arith)) (λ l. let b = join-within n f d l in omega arith) (less-cases h)

  join-at : (n : ℕ) (f : ℕ → List A) (d q : ℕ) (z : A) → d < n → q < length (f d) → get_or (join_below n f) (length (join_below d f) + q) z ≡ get_or (f d) q z
  unfolding join_below
  join-at zero f d q z h k = absurd (not-suc-le-zero h)
  join-at (suc n) f d q z h k = ⊎_elim
      (λ (e : d ≡ n). subst (λ (c : ℕ). get_or (join_below n f ++ f n) (length (join_below c f) + q) z ≡ get_or (f c) q z) (sym e) (get_or-append-add (join_below n f) (f n) q z))
      (λ l. let a = join-within n f d l in
      get_or-append (join_below n f) (f n) z (length (join_below d f) + q) (omega arith) ∙ join-at n f d q z l k)
      (less-cases h)

  mem-nth : (l : List A) (x z : A) → x ∈ l → (j : ℕ) × (j < length l) × (get_or l j z ≡ x)
  mem-nth [] x z h = absurd (Memᴰ.not-nil h)
  mem-nth (y ∷ l) x z h = ⊎_elim (λ e. (0, omega arith, sym e)) (λ u. let r = mem-nth l x z u in (suc r.0, suc-le-suc r.1, r.2)) (Memᴰ.cases_cons h)

  -- ---- two for each stretch that a row covers
  twice : (b : Bool) (x y : A) → only b x ++ only b y ≡ cond b (x ∷ y ∷ []) []
  unfolding only
  twice true x y = refl
  twice false x y = refl

  join_kept : (r : List Span) (f g : Span → List A) (l : List Span) → ((p : Span) → p ∈ l → f p ≡ cond (held r p) (g p) []) → join_of l f ≡ join_of (covered_by r l) g
  unfolding join_of covered_by
  join_kept r f g [] e = refl
  join_kept r f g (p ∷ l) e = go (held r p) (e p (Memᴰ.head refl)) (join_kept r f g l (λ q h. e q (Memᴰ.tail h)))
    where
      go : (b : Bool) → f p ≡ cond b (g p) [] → join_of l f ≡ join_of (covered_by r l) g → f p ++ join_of l f ≡ join_of (only b p ++ covered_by r l) g
      go true e i = unfold only in (λ n. e n ++ i n)
      go false e i = unfold only in (λ n. e n ++ i n)

  twice-at : (f g : Span → A) (l : List Span) (j : ℕ) (s : Bool) (z : A) (n : Span) → j < length l
      → get_or (join_of l (λ p. f p ∷ g p ∷ [])) (j * 2 + side s) z ≡ cond s (f (get_or l j n)) (g (get_or l j n))
  unfolding join_of
  twice-at f g [] j s z n h = absurd (not-suc-le-zero h)
  twice-at f g (p ∷ l) zero true z n h = refl
  twice-at f g (p ∷ l) zero false z n h = refl
  twice-at f g (p ∷ l) (suc j) s z n h =
      let e : suc j * 2 + side s ≡ suc (suc (j * 2 + side s)) = omega arith in
      ap (λ (q : ℕ). get_or (join_of (p ∷ l) (λ p. f p ∷ g p ∷ [])) q z) e ∙ twice-at f g l j s z n (le_of_suc-le-suc h)

-- ---- the lifted darts of a plan dart at a level
abbrev at_piece : ℕ → ℕ → Span → List Lifted
at_piece d k p = at d k p.lo true ∷ at d k p.hi false ∷ []

-- a lifted dart of a piece of d at level k is one of its own plan dart and level
own : (M : Map) (x : Lifted) (d k j : ℕ) (s : Bool) → j < length (pieces_at M d k) → x ≡ dart_of M d k j s
    → (j : ℕ) × (j < piece_count M x.d x.k) × (x ≡ dart_of M x.d x.k j x.s)
unfolding piece_count
own M x d k j s h e =
    subst (λ (y : Lifted). (j : ℕ) × (j < length (pieces_at M y.d y.k)) × (y ≡ dart_of M y.d y.k j y.s)) (sym e) (j, h, refl)

module _ (M : Map) (L : Local M) where
  block-pieces : (d k : ℕ) → d < count M → lifted_at M d k ≡ join_of (pieces_at M d k) (at_piece d k)
  block-pieces d k h = block M L d k h ∙ join_kept (row M d)
      (λ p. only (covered (row M d) p.lo true) (at d k p.lo true) ++ only (covered (row M d) p.lo true) (at d k p.hi false)) (at_piece d k)
      (stretches (ends M k d))
      (λ p w. twice (covered (row M d) p.lo true) (at d k p.lo true) (at d k p.hi false)
      ∙ ap (λ b. cond b (at_piece d k p) []) (sym (stretch-held (row M d) (ends M k d) (ends-ascends M k d) (λ e. ends-own M L k d e h) p w)))

  -- what stands at the number of an end of a piece
  dart-at : (d k j : ℕ) (s : Bool) (z : Lifted) → d < count M → k ≤ M.dim → j < piece_count M d k
      → (number_of M d k j s < length (lifted_darts M)) × (get_or (lifted_darts M) (number_of M d k j s) z ≡ dart_of M d k j s)
  unfolding lifted_darts end_of
  dart-at d k j s z h l g =
      let n = j * 2 + side s in
      let a : length (lifted_at M d k) ≡ 2 * piece_count M d k = unfold piece_count in block-length M L d k h in
      let g' : j < length (pieces_at M d k) = unfold piece_count in g in
      let b = side-small s in
      let c = block_within M L d k h l in
      let e = join-within (suc M.dim) (lifted_at M d) k (suc-le-suc l) in
      let u = first-number M L d (omega arith) in
      let v = level-number M L d k h in
      let f : number_of M d k j s ≡ length (join_below d (lifted_of M)) + (length (join_below k (lifted_at M d)) + n) = unfold first in omega arith in (
        omega arith,
        ap (λ (q : ℕ). get_or (lifted_darts M) q z) f
            ∙ join-at (count M) (lifted_of M) d (length (join_below k (lifted_at M d)) + n) z h (omega arith)
            ∙ join-at (suc M.dim) (lifted_at M d) k n z (suc-le-suc l) (omega arith)
            ∙ ap (λ (x : List Lifted). get_or x n z) (block-pieces d k h)
            ∙ twice-at (λ p. at d k p.lo true) (λ p. at d k p.hi false) (pieces_at M d k) j s z no_piece g'
            ∙ on-side d k (get_or (pieces_at M d k) j no_piece) s,
      )
    where
      on-side : (d k : ℕ) (p : Span) (s : Bool) → cond s (at d k p.lo true) (at d k p.hi false) ≡ at d k (cond s p.lo p.hi) s
      on-side d k p true = refl
      on-side d k p false = refl

  pub dart-member : (d k j : ℕ) (s : Bool) → d < count M → k ≤ M.dim → j < piece_count M d k → Member (cut_of M) (dart_of M d k j s)
  dart-member d k j s h l g =
      let x = dart_of M d k j s in
      let a = dart-at d k j s x h l g in
      subst (λ (y : Lifted). Member (cut_of M) y) a.1 (at-member M (number_of M d k j s) x a.0)

  pub dart-number : (d k j : ℕ) (s : Bool) → d < count M → k ≤ M.dim → j < piece_count M d k → number_in (lifted_darts M) (dart_of M d k j s) ≡ number_of M d k j s
  dart-number d k j s h l g =
      let x = dart_of M d k j s in
      let a = dart-at d k j s x h l g in
      ap (number_in (lifted_darts M)) (sym a.1) ∙ at-number M (λ k d _ _. ends-ascends M k d) (number_of M d k j s) x a.0

  -- ---- each lifted dart is one of those
  pub dart-found : (x : Lifted) → Member (cut_of M) x → (j : ℕ) × (j < piece_count M x.d x.k) × (x ≡ dart_of M x.d x.k j x.s)
  unfolding lifted_darts end_of
  dart-found x X =
      let a = join-out (count M) (lifted_of M) (lifted-in M x X) in
      let b = join-out (suc M.dim) (lifted_at M a.0) a.2 in
      let c = join-of-out (pieces_at M a.0 b.0) (at_piece a.0 b.0) (subst (λ (l : List Lifted). x ∈ l) (block-pieces a.0 b.0 a.1) b.2) in
      let e = mem-nth (pieces_at M a.0 b.0) c.0 no_piece c.1 in
      go a.0 b.0 e.0 c.0 e.1 e.2 c.2
    where
      go : (d k j : ℕ) (p : Span) → j < length (pieces_at M d k) → get_or (pieces_at M d k) j no_piece ≡ p → x ∈ at_piece d k p
          → (j : ℕ) × (j < piece_count M x.d x.k) × (x ≡ dart_of M x.d x.k j x.s)
      go d k j p h e w = ⊎_elim
          (λ (q : x ≡ at d k p.lo true). own M x d k j true h (q ∙ ap (λ (p : Span). at d k p.lo true) (sym e)))
          (λ u. own M x d k j false h (Memᴰ.eq_of_singleton u ∙ ap (λ (p : Span). at d k p.hi false) (sym e)))
          (Memᴰ.cases_cons w)

  pub number-found : (q : ℕ) → q < length (lifted_darts M)
      → (d : ℕ) × (k : ℕ) × (j : ℕ) × (s : Bool) × (d < count M) × (k ≤ M.dim) × (j < piece_count M d k) × (q ≡ number_of M d k j s)
  number-found q h =
      let z = at 0 0 (pos 0) true in
      let x = get_or (lifted_darts M) q z in
      let X = at-member M q z h in
      let a = dart-found x X in (
        x.d,
        x.k,
        a.0,
        x.s,
        X.dart,
        X.level,
        a.1,
        sym (at-number M (λ k d _ _. ends-ascends M k d) q z h) ∙ ap (number_in (lifted_darts M)) a.2 ∙ dart-number x.d x.k a.0 x.s X.dart X.level a.1,
      )
