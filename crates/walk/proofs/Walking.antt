-- The pass over the ends and a row, a turn at a time.
--     all_left         at the start all pieces are left
--     none_left        none is past the last stretch, or past the last span
--     row-few          a row has few spans
--     last_end, probed one span is asked: no stretch is left above it, or one is
--     past_all, at-span, onward      the descent: no piece is left; the span at hand covers the next one; or those behind it are descended
--     in_row, probed-again     the piece after a piece: its span is one of the row, and is asked again
--     Counting         the pieces counted and those that are left are all
--     piece-at         a stop before the last end is at a piece
--     first, more, counted     at the first stop, from stop to stop, past the last end
use Rattle.std.proofs.Common.{◌≡◌, ℕ, zero, suc, ◌+◌, ◌-◌, ◌*◌, ◌<◌, ◌≤◌, Bool, true, false, ◌⊎◌, List, [], ◌∷◌, length, get_or, drop, ℤ, pos, sym, refl, ap, ◌∙◌, subst, inl, inr, ⊎_elim, add-zero, add-one, arith, drop_of_length-le}
use lib.Signed.{lt_z, le_z}
use Rattle.paper.specs.Width.{span_limit, per_span, span_width}
use Rattle.paper.specs.Map.{Span}
use Rattle.paper.specs.Span.{ordered, covers}
use Rattle.paper.specs.Ends.{stretches, covered_by}
use Rattle.paper.specs.Table.{row_at}
use Rattle.theory.specs.Ascending.{Ascends}
use Rattle.theory.proofs.Bool.{decided, clash, and_both, and_intro}
use Rattle.theory.proofs.Order.{Z-order, le_in, le_out, asym, le-lt}
use Rattle.theory.proofs.Row.{ordered-parts}
use Rattle.theory.proofs.Height.{foot-covered}
use Rattle.theory.proofs.Stretch.{stretch, spans-covers}
use Rattle.span.specs.Row.{span_from, spans_from, RowIn}
use Rattle.span.proofs.Row.{row_from, row_count, spans-next, count-within}
use Rattle.ends.specs.Key.{height_of, key_at, ends_from, ends_at}
use Rattle.ends.proofs.Keys.{height-lt, height-le}
use Rattle.ends.proofs.Parts.{ends_next, ends-length}
use Rattle.walk.specs.Walk.{Walkable, left, stretch_at, PieceAt, Reached, Probed}
use Rattle.walk.specs.Seek.{Sought}
use Rattle.span.proofs.Covering.{covering-at, covering-within, covering-covers}
use Rattle.walk.proofs.Pieces.{no-stretch, no_row, past-span, past-gap, past-piece}

pub all_left : (v : List ℕ) (p n : ℕ) (s : List ℤ) (d : ℕ) → left v p n s d 0 0 ≡ covered_by (row_at s d) (stretches (ends_at v p n))
all_left v p n s d = let e : n - 0 ≡ n = omega arith in rw e

pub none_left : (v : List ℕ) (p n : ℕ) (s : List ℤ) (d i j : ℕ) → (n ≤ i + 1) ⊎ (length (row_at s d) ≤ j) → left v p n s d i j ≡ []
none_left v p n s d i j (inl h) = no-stretch (drop j (row_at s d)) (ends_from v p i (n - i)) (rw (ends-length v p i (n - i)) (omega arith))
none_left v p n s d i j (inr h) = rw (drop_of_length-le (row_at s d) h) (no_row (stretches (ends_from v p i (n - i))))

-- ---- the spans and the ends that are left
spans-drop : (s : List ℤ) (at c j : ℕ) → drop j (spans_from s at c) ≡ spans_from s (at + j * per_span) (c - j)
unfolding spans_from
spans-drop s at c zero = let e : at + 0 * per_span ≡ at = omega arith in let f : c - 0 ≡ c = omega arith in rw (e, f)
spans-drop s at zero (suc j) = let e : 0 - suc j ≡ 0 = omega arith in rw e
spans-drop s at (suc c) (suc j) =
    let e : at + suc j * per_span ≡ at + per_span + j * per_span = omega arith in
    let f : suc c - suc j ≡ c - j = omega arith in
    rw (e, f) (spans-drop s (at + per_span) c j)

ordered-drop : (j : ℕ) (r : List Span) → ordered r ≡ true → ordered (drop j r) ≡ true
ordered-drop zero r o = o
ordered-drop (suc j) [] o = o
ordered-drop (suc j) (x ∷ r) o = ordered-drop j r (ordered-parts x r o).2

module _ {v : List ℕ} {p n : ℕ} {s : List ℤ} {d : ℕ} (P : Walkable v p n s d) where
  span-next : (j : ℕ) → j < length (row_at s d) → drop j (row_at s d) ≡ span_from s (d * span_width + 1 + j * per_span) ∷ drop (j + 1) (row_at s d)
  span-next j h =
      let k = row_count s d P.row in
      rw (row_from s d P.row.counted, spans-drop, spans-drop) (spans-next s (d * span_width + 1) _ j (omega arith))

  ends-ascend : (i : ℕ) → i ≤ n → Ascends lt_z (ends_from v p i (n - i))
  ends-ascend zero h = let e : n - 0 ≡ n = omega arith in rw e P.ascend
  ends-ascend (suc i) h = let a : Ascends lt_z (_ ∷ ends_from v p (i + 1) (n - (i + 1))) = rw (ends_next v p i n h) at (ends-ascend i (omega arith)) in rw (add-one i) at a.1

  -- a turn, at end i and span j
  module _ (i j : ℕ) (ins : i + 1 < n) (jl : j < length (row_at s d)) where
    abbrev x : Span
    x = span_from s (d * span_width + 1 + j * per_span)

    abbrev f : ℤ
    f = height_of (key_at v p i)

    abbrev g : ℤ
    g = height_of (key_at v p (i + 1))

    eA : ends_from v p i (n - i) ≡ f ∷ ends_from v p (i + 1) (n - (i + 1))
    eA = ends_next v p i n (omega arith)

    eB : ends_from v p (i + 1) (n - (i + 1)) ≡ g ∷ ends_from v p (i + 1 + 1) (n - (i + 1 + 1))
    eB = ends_next v p (i + 1) n ins

    gap-passed : lt_z f x.lo ≡ true → left v p n s d i j ≡ left v p n s d (i + 1) j
    gap-passed l =
        rw (eA, eB, span-next j jl)
        (past-gap x (drop (j + 1) (row_at s d)) f g (ends_from v p (i + 1 + 1) (n - (i + 1 + 1))) (rw (span-next j jl) at (ordered-drop j (row_at s d) P.order)) l)

    span-passed : lt_z x.hi g ≡ true → left v p n s d i j ≡ left v p n s d i (j + 1)
    span-passed l =
        rw (eA, eB, span-next j jl)
        (past-span x (drop (j + 1) (row_at s d)) f g (ends_from v p (i + 1 + 1) (n - (i + 1 + 1))) (rw eB at (ends-ascend (i + 1) (omega arith))) l)

    piece-met : lt_z f x.lo ≡ false → lt_z x.hi g ≡ false → left v p n s d i j ≡ stretch f g ∷ left v p n s d (i + 1) j
    piece-met h k = rw (eA, eB, span-next j jl) (past-piece x (drop (j + 1) (row_at s d)) f g (ends_from v p (i + 1 + 1) (n - (i + 1 + 1))) h k)

    foot-below : lt_z f g ≡ true
    foot-below = let a : Ascends lt_z (f ∷ (g ∷ ends_from v p (i + 1 + 1) (n - (i + 1 + 1)))) = rw (eA, eB) at (ends-ascend i (omega arith)) in a.0.0

    -- the span does not start above the foot: it covers the stretch where it covers side down of the head
    module _ (h : lt_z f x.lo ≡ false) {b : Bool} (eb : b ≡ covers x g false) where
      its-piece : b ≡ true → PieceAt v p n s d i j
      its-piece e =
          let k = le_out g x.hi (and_both (lt_z x.lo g) (le_z g x.hi) (sym eb ∙ e)).1 in
          let y = and_intro (le_z x.lo f) (le_z g x.hi) (le_in x.lo f h) (le_in g x.hi k) in
          let o = span-next j jl in
          record {
            inside = ins;
            next = piece-met h k;
            up = covering-at j (row_at s d) x (drop (j + 1) (row_at s d)) f true P.order o (spans-covers x (stretch f g) f true y (foot-covered (stretch f g) foot-below));
            down = covering-at j (row_at s d) x (drop (j + 1) (row_at s d)) g false P.order o (sym eb ∙ e);
          }

      not-its : b ≡ false → left v p n s d i j ≡ left v p n s d i (j + 1)
      not-its e = span-passed (⊎_elim (λ q. q)
          (λ q. absurd (clash (and_intro (lt_z x.lo g) (le_z g x.hi) (le-lt lt_z Z-order x.lo f g h foot-below) (le_in g x.hi q)) (sym eb ∙ e))) (decided (lt_z x.hi g)))

-- ---- one span
pub row-few : (s : List ℤ) (d : ℕ) → RowIn s d → length (row_at s d) ≤ span_limit
row-few s d R = let e = row_count s d R in let f = (count-within (get_or s (d * span_width) (pos 0)) R.counted).1 in omega arith

module _ {v : List ℕ} {p n : ℕ} {s : List ℤ} {d : ℕ} (P : Walkable v p n s d) {i j lo end : ℕ} (jl : j < length (row_at s d))
    (el : height_of lo ≡ get_or s (d * span_width + 1 + j * per_span) (pos 0)) (S : Sought v p n i lo end) where
  gaps : (k m : ℕ) → m + k < n → ((x : ℕ) → m ≤ x → x < m + k → key_at v p x < lo) → left v p n s d m j ≡ left v p n s d (m + k) j
  gaps zero m h f = rw (add-zero m)
  gaps (suc k) m h f =
      let e : m + suc k ≡ m + 1 + k = omega arith in
      let l = height-lt (key_at v p m) lo (f m (omega arith) (omega arith)) in
      rw e (gap-passed P m j (omega arith) jl (rw el at l) ∙ gaps k (m + 1) (omega arith) (λ x a b. f x (omega arith) (omega arith)))

  passed_to : left v p n s d i j ≡ left v p n s d end j
  passed_to =
      let a = S.from in
      let b = S.within in
      let e : i + (end - i) ≡ end = omega arith in
      let q = gaps (end - i) i (omega arith) (λ x u k. S.below x u (omega arith)) in
      rw e at q

  pub last_end : n ≤ end + 1 → Probed v p n s d i j end false
  last_end h = record {
    on = S.from;
    within = S.within;
    passed = passed_to;
    met = λ e. absurd (clash e refl);
    missed = λ e. none_left v p n s d end j (inl h) ∙ sym (none_left v p n s d end (j + 1) (inl h));
  }

  module _ (ins : end + 1 < n) {b : Bool} (eb : b ≡ covers (span_from s (d * span_width + 1 + j * per_span)) (height_of (key_at v p (end + 1))) false) where
    from-lo : lt_z (height_of (key_at v p end)) (get_or s (d * span_width + 1 + j * per_span) (pos 0)) ≡ false
    from-lo =
        let l : lo ≤ key_at v p end = ⊎_elim (λ e. e) (λ e. omega arith) S.found in
        rw el at (height-le lo (key_at v p end) l)

    pub probed : Probed v p n s d i j end b
    probed = record {
      on = S.from;
      within = S.within;
      passed = passed_to;
      met = its-piece P end j ins jl from-lo eb;
      missed = not-its P end j ins jl from-lo eb;
    }

-- ---- the descent
module _ {v : List ℕ} {p n : ℕ} {s : List ℤ} {d i j : ℕ} where
  -- no piece is left
  pub past_all : {j' : ℕ} → i ≤ n → (n ≤ i + 1) ⊎ (length (row_at s d) ≤ j) → Reached v p n s d i j n j'
  past_all {j'} h e = record { stop = inl refl; on = h; passed = none_left v p n s d i j e ∙ sym (none_left v p n s d n j' (inl (omega arith))) }

  module _ {end : ℕ} {covers : Bool} (L : Probed v p n s d i j end covers) where
    pub at-span : covers ≡ true → Reached v p n s d i j end j
    at-span e = record { stop = inr (L.met e); on = L.on; passed = L.passed }

    pub onward : covers ≡ false → {end' j' : ℕ} → Reached v p n s d end (j + 1) end' j' → Reached v p n s d i j end' j'
    onward e R = let a = L.on in let b = R.on in record { stop = R.stop; on = omega arith; passed = L.passed ∙ L.missed e ∙ R.passed }

-- ---- the piece after a piece
module _ {v : List ℕ} {p n : ℕ} {s : List ℤ} {d : ℕ} (P : Walkable v p n s d) {i j : ℕ} (Q : PieceAt v p n s d i j) where
  -- its span is one of the row
  pub in_row : j < length (row_at s d)
  in_row = covering-within j (row_at s d) (stretch_at v p i).hi false Q.down

  -- and starts below the foot of the next stretch, which is the head of the piece
  starts-below : lt_z (height_of (key_at v p (i + 1))) (get_or s (d * span_width + 1 + j * per_span) (pos 0)) ≡ false
  starts-below =
      let x = span_from s (d * span_width + 1 + j * per_span) in
      let g = (stretch_at v p i).hi in
      let c = covering-covers j (row_at s d) x (drop (j + 1) (row_at s d)) g false (span-next P j in_row) Q.down in
      asym lt_z Z-order x.lo g (and_both (lt_z x.lo g) (le_z g x.hi) c).0

  pub probed-again : i + 2 < n → {b : Bool} → b ≡ covers (span_from s (d * span_width + 1 + j * per_span)) (height_of (key_at v p (i + 2))) false → Probed v p n s d (i + 1) j (i + 1) b
  probed-again h eb =
      let e : i + 2 ≡ i + 1 + 1 = omega arith in
      let k : i + 1 + 1 < n = omega arith in
      record {
        on = omega arith;
        within = omega arith;
        passed = refl;
        met = its-piece P (i + 1) j k in_row starts-below (rw e at eb);
        missed = not-its P (i + 1) j k in_row starts-below (rw e at eb);
      }

  -- no stretch is left behind it
  pub last-piece : n ≤ i + 2 → Probed v p n s d (i + 1) j (i + 1) false
  last-piece h =
      let k : n ≤ i + 1 + 1 = omega arith in
      record {
        on = omega arith;
        within = Q.inside;
        passed = refl;
        met = λ e. absurd (clash e refl);
        missed = λ e. none_left v p n s d (i + 1) j (inl k) ∙ sym (none_left v p n s d (i + 1) (j + 1) (inl k));
      }

-- the descent of the spans behind span j, of as many as the row has, told by the position that it found
pub behind : {v : List ℕ} {p n : ℕ} {s : List ℤ} {d i j all end : ℕ} (l : ℕ) → all ≡ length (row_at s d) → j < all
    → Reached v p n s d i (length (row_at s d) - (all - (j + 1))) end (length (row_at s d) - l) → Reached v p n s d i (j + 1) end (all - l)
behind {v} {p} {n} {s} {d} {i} {j} {all} {end} l e h R =
    let k : length (row_at s d) - (all - (j + 1)) ≡ j + 1 = omega (arith, e) in
    subst (λ (x : ℕ). Reached v p n s d i (j + 1) end (x - l)) (sym e) (subst (λ (x : ℕ). Reached v p n s d i x end (length (row_at s d) - l)) k R)

-- ---- the count
pub record Counting (v : List ℕ) (p n : ℕ) (s : List ℤ) (d i j pieces : ℕ) : Type 0 where
  pub stop : (i ≡ n) ⊎ PieceAt v p n s d i j
  pub few : pieces ≤ i
  pub whole : pieces + length (left v p n s d i j) ≡ length (covered_by (row_at s d) (stretches (ends_at v p n)))

pub first : {v : List ℕ} {p n : ℕ} {s : List ℤ} {d i j : ℕ} → Reached v p n s d 0 0 i j → Counting v p n s d i j 0
first {v} {p} {n} {s} {d} R = let e = ap length (sym R.passed ∙ all_left v p n s d) in record { stop = R.stop; few = omega arith; whole = omega arith }

-- a stop before the last end is at a piece
pub piece-at : {v : List ℕ} {p n : ℕ} {s : List ℤ} {d i j : ℕ} → (i ≡ n) ⊎ PieceAt v p n s d i j → i < n → PieceAt v p n s d i j
piece-at S h = ⊎_elim (λ e. let z : ⊥ = omega arith in absurd z) (λ k. k) S

module _ {v : List ℕ} {p n : ℕ} {s : List ℤ} {d i j pieces : ℕ} (C : Counting v p n s d i j pieces) where
  pub more : i < n → {i' j' : ℕ} → Reached v p n s d (i + 1) j i' j' → Counting v p n s d i' j' (pieces + 1)
  more h R =
      let e = ap length (piece-at C.stop h).next in
      let f = ap length R.passed in
      let w = C.whole in
      let k = C.few in
      let l = R.on in
      record { stop = R.stop; few = omega arith; whole = omega arith }

  pub counted : n ≤ i → pieces ≡ length (covered_by (row_at s d) (stretches (ends_at v p n)))
  counted h = let e = ap length (none_left v p n s d i j (inl (omega arith))) in let w = C.whole in omega arith
