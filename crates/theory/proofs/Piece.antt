-- The pieces of a cell.
--     pieces-order     they ascend and don't overlap
--     pieces-cover     they cover exactly what the spans around the cell cover
--     ends-count       a cell has at most twice as many ends as spans over its distinct top cells
--     pieces-count     and fewer pieces
--     top-around       around a top cell there are no spans but those of its row
--     pieces-top       its pieces are these
--     pieces_of        all of it
use Rattle.std.proofs.Common.{◌≡◌, ℕ, zero, suc, ◌+◌, ◌-◌, ◌*◌, ◌<◌, ◌≤◌, Bool, true, false, cond, not, ◌&&◌, List, [], ◌∷◌, length, ℤ, sym, refl, ◌∙◌, subst, ⊎_elim, zero-le, le_refl, not-suc-le-zero, arith, length-append}
use lib.Signed.{lt_z, le_z}
use Rattle.paper.specs.Below.{any_below, sum_below, join_below}
use Rattle.paper.specs.Map.{Span, Map, count, row}
use Rattle.paper.specs.Orbit.{here, marked}
use Rattle.paper.specs.Cell.{Cell, cell, top}
use Rattle.paper.specs.Span.{ordered, covered, ends_of}
use Rattle.paper.specs.Ends.{around, ascending, ends, stretches, spans, covered_by, pieces, first_of_top, spans_over}
use Rattle.theory.specs.Local.{Local}
use Rattle.theory.specs.Member.{◌∈◌}
use Rattle.theory.specs.Piece.{PiecesOf}
use Rattle.theory.proofs.Bool.{clash, and_both, bool-ext}
use Rattle.theory.proofs.Below.{any_out}
use Rattle.theory.proofs.Member.{any-of-in, any-of-out, cond-in, join-in}
use Rattle.theory.proofs.Order.{Z-order, le_out, lt-le, le-lt, ascends-sub}
use Rattle.theory.proofs.Valid.{reach-within, in_cell, of-cell, top-row}
use Rattle.theory.proofs.Height.{covered-in, covered_out, span-ends, span-end, end-span, foot-covered}
use Rattle.theory.proofs.Ascending.{ascending-ascends, ascending-in, ascending-out, ascending-short}
use Rattle.theory.proofs.Ends.{around-in, around-out, ends-ascends, ends-out}
use Rattle.theory.proofs.Row.{ordered-proper, ordered-ext, nothing-within}
use Rattle.theory.proofs.Stretch.{stretches-order, stretches-length, stretch-ends, kept-order, kept_in, kept_out, kept-short, spans-covers, stretch-at}

-- ---- for any row
module _ (r : List Span) where
  abbrev B : List ℤ
  B = ascending (ends_of r)

  abbrev parts : List Span
  parts = covered_by r (stretches B)

  parts-order : ordered parts ≡ true
  parts-order = kept-order r (stretches B) (stretches-order B (ascending-ascends (ends_of r)))

  parts-cover : (t : ℤ) (s : Bool) → covered parts t s ≡ covered r t s
  parts-cover t s = bool-ext (covered parts t s) (covered r t s) down up
    where
      down : covered parts t s ≡ true → covered r t s ≡ true
      down c =
          let p = covered_out parts t s c in
          let x = any-of-out (λ x. spans x p.0) r (kept_out r (stretches B) p.0 p.1).1 in
          covered-in r x.0 t s x.1 (spans-covers x.0 p.0 t s x.2 p.2)

      up : covered r t s ≡ true → covered parts t s ≡ true
      up c =
          let x = covered_out r t s c in
          let e = span-ends r x.0 x.1 in
          let p = stretch-at x.0 t s x.2 B (ascending-ascends (ends_of r)) (ascending-in x.0.lo (ends_of r) e.0) (ascending-in x.0.hi (ends_of r) e.1) in
          covered-in parts p.0 t s (kept_in r (stretches B) p.0 p.1 (any-of-in (λ x. spans x p.0) r x.0 x.1 p.3)) p.2

  -- one fewer than the ends, or none
  parts-short : (b : List ℤ) → length (covered_by r (stretches b)) ≤ length b - 1
  parts-short [] = unfold covered_by in zero-le
  parts-short (x ∷ l) = let a = kept-short r (stretches (x ∷ l)) in let e = stretches-length x l in omega arith

  -- where the spans are those of a row in order
  module _ (q : List Span) (o : ordered q ≡ true) (f : (x : Span) → x ∈ r → x ∈ q) (g : (x : Span) → x ∈ q → x ∈ r) where
    -- its stretches are its spans
    whole : (x p : Span) → x ∈ q → p ∈ stretches B → spans x p ≡ true → p ≡ x
    whole x p h k e =
        let a = and_both (le_z x.lo p.lo) (le_z p.hi x.hi) e in
        let xp = le_out x.lo p.lo a.0 in
        let px = le_out p.hi x.hi a.1 in
        let w = ordered-proper (stretches B) p (stretches-order B (ascending-ascends (ends_of r))) k in
        let i = stretch-ends B p k in
        let foot : p.lo ≡ x.lo = ⊎_elim (λ u. sym (Z-order.tri x.lo p.lo u xp))
        (λ u. absurd (clash (lt-le lt_z Z-order p.lo p.hi x.hi w px) u)) (nothing-within q x p.lo o h (ends-of p.lo i.0)) in
        let head : p.hi ≡ x.hi = ⊎_elim (λ u. absurd (clash (le-lt lt_z Z-order x.lo p.lo p.hi xp w) u))
        (λ u. Z-order.tri p.hi x.hi u px) (nothing-within q x p.hi o h (ends-of p.hi i.1)) in
        λ j. record { lo = foot j; hi = head j }
      where
        ends-of : (b : ℤ) → b ∈ B → b ∈ ends_of q
        ends-of b h =
            let x = end-span r b (ascending-out b (ends_of r) h) in
            span-end q x.0 b (f x.0 x.1) x.2

    parts_whole : parts ≡ q
    parts_whole = ordered-ext parts q parts-order o down up
      where
        down : (p : Span) → p ∈ parts → p ∈ q
        down p h =
            let k = kept_out r (stretches B) p h in
            let x = any-of-out (λ x. spans x p) r k.1 in
            subst (λ (z : Span). z ∈ q) (sym (whole x.0 p (f x.0 x.1) k.0 x.2)) (f x.0 x.1)

        up : (x : Span) → x ∈ q → x ∈ parts
        up x h =
            let c = foot-covered x (ordered-proper q x o h) in
            let e = span-ends r x (g x h) in
            let p = stretch-at x x.lo true c B (ascending-ascends (ends_of r)) (ascending-in x.lo (ends_of r) e.0) (ascending-in x.hi (ends_of r) e.1) in
            subst (λ (z : Span). z ∈ parts) (whole x p.0 h p.1 p.3) (kept_in r (stretches B) p.0 p.1 (any-of-in (λ y. spans y p.0) r x (g x h) p.3))

-- ---- how many ends
pub ends-length : (r : List Span) → length (ends_of r) ≡ 2 * length r
unfolding ends_of
ends-length [] = refl
ends-length (x ∷ r) = let a = ends-length r in omega arith

join-length : {A : Type 0} (n : ℕ) (f : ℕ → Bool) (g : ℕ → List A) → length (join_below n (λ e. cond (f e) (g e) [])) ≡ sum_below n (λ e. cond (f e) (length (g e)) 0)
unfolding join_below sum_below
join-length zero f g = refl
join-length {A = A} (suc n) f g =
    length-append (join_below n (λ e. cond (f e) (g e) [])) (cond (f n) (g n) []) ∙ go (f n) (join-length n f g)
  where
    go : (b : Bool) → length (join_below n (λ e. cond (f e) (g e) [])) ≡ sum_below n (λ e. cond (f e) (length (g e)) 0)
        → length (join_below n (λ e. cond (f e) (g e) [])) + length (cond b (g n) []) ≡ cond b (length (g n)) 0 + sum_below n (λ e. cond (f e) (length (g e)) 0)
    go true h = omega arith
    go false h = omega arith

-- ---- the pieces of a cell of any map
pub pieces-order : (M : Map) (k d : ℕ) → ordered (pieces M k d) ≡ true
unfolding pieces
pieces-order M k d = parts-order (around M k d)

pub pieces-cover : (M : Map) (k d : ℕ) (t : ℤ) (s : Bool) → covered (pieces M k d) t s ≡ covered (around M k d) t s
unfolding pieces
pieces-cover M k d t s = parts-cover (around M k d) t s

-- ---- cells of a valid map
module _ (M : Map) (L : Local M) where
  -- a dart of the cell that is not the first of its top cell there has an earlier one
  earlier : (k d e : ℕ) → marked (cell M k d) e ≡ true → first_of_top M k d e ≡ false → (x : ℕ) × (x < e) × (marked (cell M k d) x ≡ true) × (marked (top M e) x ≡ true)
  unfolding first_of_top
  earlier k d e m q =
      let f : ℕ → Bool = λ x. marked (cell M k d) x && marked (top M e) x in
      let r = any_out e f (got (marked (cell M k d) e) (any_below e f) m q) in
      let b = and_both (marked (cell M k d) r.0) (marked (top M e) r.0) r.2 in
      (r.0, r.1, b.0, b.1)
    where
      got : (x y : Bool) → x ≡ true → (x && not y) ≡ false → y ≡ true
      got x true p e = refl
      got x false p e = sym (rw p at e)

  -- each dart of the cell has the row of a first one
  first_of : (k d c e : ℕ) → d < count M → e < c → Cell M k d e → (g : ℕ) × (g < count M) × (first_of_top M k d g ≡ true) × (row M g ≡ row M e)
  first_of k d zero e h l r = absurd (not-suc-le-zero l)
  first_of k d (suc c) e h l r = go (first_of_top M k d e) refl (first_of k d c)
    where
      en : e < count M
      en = reach-within M L h r

      Out : ℕ → Type 0
      Out e = (g : ℕ) × (g < count M) × (first_of_top M k d g ≡ true) × (row M g ≡ row M e)

      go : (b : Bool) → first_of_top M k d e ≡ b → ((e : ℕ) → d < count M → e < c → Cell M k d e → Out e) → Out e
      go true q f = (e, en, q, refl)
      go false q f =
          let x = earlier k d e (in_cell M L k d e h r) q in
          let xn : x.0 < count M = let z = x.1 in let y = en in omega arith in
          let y = f x.0 h (let z = x.1 in omega arith) (of-cell M L k d x.0 h xn x.2) in
          (y.0, y.1, y.2, y.3 ∙ sym (top-row M L e x.0 en (of-cell M L M.dim e x.0 en xn x.3)))

  pub ends-count : (k d : ℕ) → d < count M → length (ends M k d) ≤ 2 * spans_over M k d
  unfolding spans_over
  ends-count k d h =
      let q = join_below (count M) (λ e. cond (first_of_top M k d e) (row M e) []) in
      let a = ascends-sub lt_z Z-order (ends M k d) (ascending (ends_of q)) (ends-ascends M k d) (ascending-ascends (ends_of q))
      (λ t w. ascending-in t (ends_of q) (found t w)) in
      let b = ascending-short (ends_of q) in
      let c = ends-length q in
      let e = join-length (count M) (first_of_top M k d) (row M) in
      omega arith
    where
      found : (t : ℤ) → t ∈ ends M k d → t ∈ ends_of (join_below (count M) (λ e. cond (first_of_top M k d e) (row M e) []))
      found t w =
          let c = ends-out M L k d t h w in
          let f = first_of k d (suc c.0) c.0 h (le_refl (suc c.0)) c.1 in
          let x = end-span (row M f.0) t (subst (λ (r : List Span). t ∈ ends_of r) (sym f.3) c.2) in
          span-end (join_below (count M) (λ e. cond (first_of_top M k d e) (row M e) [])) x.0 t
          (join-in (count M) (λ e. cond (first_of_top M k d e) (row M e) []) f.0 f.1 (cond-in (first_of_top M k d f.0) (row M f.0) f.2 x.1)) x.2

  pub pieces-count : (k d : ℕ) → d < count M → 1 ≤ spans_over M k d → length (pieces M k d) + 1 ≤ 2 * spans_over M k d
  unfolding pieces ends
  pieces-count k d h l =
      let a = parts-short (around M k d) (ends M k d) in
      let b = ends-count k d h in
      omega arith

  -- all darts of a top cell have one row
  pub top-around : (d : ℕ) (x : Span) → d < count M → x ∈ around M M.dim d → x ∈ row M d
  top-around d x h w = let c = around-out M L M.dim d x h w in subst (λ (r : List Span). x ∈ r) (sym (top-row M L d c.0 h c.1)) c.2

  pub pieces-top : (d : ℕ) → d < count M → pieces M M.dim d ≡ row M d
  unfolding pieces
  pieces-top d h = parts_whole (around M M.dim d) (row M d) (L.order d h) (λ x w. top-around d x h w) (λ x w. around-in M L M.dim d d x h here w)

pub pieces_of : (M : Map) → Local M → (k d : ℕ) → k ≤ M.dim → d < count M → PiecesOf M k d
pieces_of M L k d l h = record {
  order = pieces-order M k d;
  cover = pieces-cover M k d;
  many = pieces-count M L k d h;
  top = λ e. subst (λ (j : ℕ). pieces M j d ≡ row M d) (sym e) (pieces-top M L d h);
}
