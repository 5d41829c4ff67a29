-- Laws of a cell's count.
--     covered-few              a row covers no more stretches than there are ends
--     next_known               a dart with the spans of the one before it has as many pieces
--     next-bare                a dart without spans has none
--     counted-..               the work with the pieces added: its length, the queue, the sum, the bases in the cell and out of it
--     Counting, ..             the loop of `count_cell`
use Rattle.std.proofs.Common.{◌≡◌, ℕ, zero, suc, ◌+◌, ◌-◌, ◌*◌, ◌<◌, ◌≤◌, true, List, [], ◌∷◌, length, get_or, take, set, ℤ, pos, nat_abs, sym, refl, ap, ◌∙◌, subst, ⊎_elim, zero-le, le_refl, not-suc-le-zero, add-zero, arith, length-set, get_or-take}
use lib.Seq.{take-set-le}
use Rattle.paper.specs.Width.{dart_limit, span_width}
use Rattle.paper.specs.Below.{sum_below}
use Rattle.paper.specs.Map.{Span}
use Rattle.paper.specs.Ends.{stretches_from, stretches, covered_by}
use Rattle.paper.specs.Table.{owned_at, row_at}
use Rattle.theory.specs.Alike.{alike}
use Rattle.theory.proofs.Alike.{alike-spans}
use Rattle.theory.proofs.Below.{less-cases}
use Rattle.span.specs.Row.{RowIn}
use Rattle.span.proofs.Row.{row_count}
use Rattle.ends.specs.Key.{ends_at}
use Rattle.theory.proofs.Stretch.{kept-short}
use Rattle.ends.proofs.Parts.{ends-length}
use Rattle.walk.specs.Walk.{Walkable}
use Rattle.base.specs.Base.{slot, base, Bases}
use Rattle.base.proofs.Slots.{base-here, base-other, bases-kept}
use Rattle.census.specs.Cell.{pieces_of, sum_of, counted, Nextable, Countable, Counted}
use Rattle.number.proofs.Sum.{sum-at, sum-add, sum_more}
use Rattle.number.proofs.Own.{row-none, none-covered}

-- ---- pieces are few
stretches-le : (x : ℤ) (l : List ℤ) → length (stretches_from x l) ≤ length l
unfolding stretches_from
stretches-le x [] = zero-le
stretches-le x (y ∷ l) = let a = stretches-le y l in omega arith

pub covered-few : (s B : List ℤ) (e : ℕ) → pieces_of s B e ≤ length B
covered-few s [] e = kept-short (row_at s e) []
covered-few s (x ∷ B) e = let a = kept-short (row_at s e) (stretches_from x B) in let b = stretches-le x B in omega arith

-- a dart with the spans of the one before it has as many
pub next_known : {v : List ℕ} {p ends : ℕ} {s : List ℤ} {w : List ℕ} {from q last : ℕ} → Nextable v p ends s w from q last → from < q
    → (a b : ℕ) → a ≡ get_or w (q - 1) 0 → b ≡ get_or w q 0 → alike (owned_at s a) (owned_at s b) ≡ true → last ≡ pieces_of s (ends_at v p ends) (get_or w q 0)
next_known {v} {p} {ends} {s} N h a b f g e =
    N.known h
    ∙ ap (pieces_of s (ends_at v p ends)) (sym f)
    ∙ ap (λ (r : List Span). length (covered_by r (stretches (ends_at v p ends)))) (alike-spans (owned_at s a) (owned_at s b) e)
    ∙ ap (pieces_of s (ends_at v p ends)) g

-- a dart without spans has none
pub next-bare : {v : List ℕ} {p ends : ℕ} {s : List ℤ} {w : List ℕ} {from q last : ℕ} → Nextable v p ends s w from q last
    → (e : ℕ) → e ≡ get_or w q 0 → nat_abs (get_or s (e * span_width) (pos 0)) ≡ 0 → 0 ≡ pieces_of s (ends_at v p ends) (get_or w q 0)
next-bare {v} {p} {ends} {s} {w} {from} {q} N e f z =
    let R = subst (RowIn s) (sym f) N.walk.row in
    let r = row-none (row_at s e) (sym (row_count s e R) ∙ z) in
    sym (none-covered (stretches (ends_at v p ends))) ∙ ap (λ (r : List Span). length (covered_by r (stretches (ends_at v p ends)))) (sym r)
    ∙ ap (pieces_of s (ends_at v p ends)) f

-- ---- pieces added
module _ (c : ℕ → ℕ) (n : ℕ) (w : List ℕ) (from : ℕ) where
  pub counted-length : (j : ℕ) → length (counted c n w from j) ≡ length w
  unfolding counted
  counted-length zero = refl
  counted-length (suc j) =
      let u = counted c n w from j in
      let e = get_or w (from + j) 0 in
      length-set u (slot n 0 e) (base u n 0 e + c e) ∙ counted-length j

  -- the queue stays
  pub counted-front : (j : ℕ) → take (n + n) (counted c n w from j) ≡ take (n + n) w
  unfolding counted
  counted-front zero = refl
  counted-front (suc j) =
      let u = counted c n w from j in
      let e = get_or w (from + j) 0 in
      take-set-le (n + n) u (slot n 0 e) (base u n 0 e + c e) (omega arith) ∙ counted-front j

  pub counted-queue : (j q : ℕ) → q < n + n → get_or (counted c n w from j) q 0 ≡ get_or w q 0
  counted-queue j q h =
      sym (get_or-take (n + n) (counted c n w from j) q 0 h) ∙ ap (λ (l : List ℕ). get_or l q 0) (counted-front j) ∙ get_or-take (n + n) w q 0 h

  -- a dart that is none of them
  pub counted-out : (j e : ℕ) → ((i : ℕ) → i < j → get_or w (from + i) 0 ≡ e → ⊥) → base (counted c n w from j) n 0 e ≡ base w n 0 e
  unfolding counted
  counted-out zero e o = refl
  counted-out (suc j) e o =
      let u = counted c n w from j in
      let x = get_or w (from + j) 0 in
      base-other u n 0 x e (base u n 0 x + c x) (λ p. o j (le_refl (suc j)) (sym p)) ∙ counted-out j e (λ i h. o i (omega arith))

  module _ (B : Bases w n) where
    pub counted-sum : (j : ℕ) → ((i : ℕ) → i < j → get_or w (from + i) 0 < n) → sum_below n (base (counted c n w from j) n 0) ≡ sum_below n (base w n 0) + sum_of c w from j
    unfolding counted
    counted-sum zero b = unfold sum_below in sym (add-zero (sum_below n (base w n 0)))
    counted-sum (suc j) b =
        let u = counted c n w from j in
        let x = get_or w (from + j) 0 in
        let y = base u n 0 x + c x in
        let h = b j (le_refl (suc j)) in
        let r = counted-sum j (λ i l. b i (omega arith)) in
        let a =
        sum-add n (base u n 0) (base (set u (slot n 0 x) y) n 0) x (c x) h (base-here u n 0 x y (bases-kept (counted-length j) B) zero-le h)
        (λ d l ne. base-other u n 0 x d y ne) in
        let z : sum_of c w from (suc j) ≡ c x + sum_of c w from j = (unfold sum_below in refl) in
        omega arith

    -- a dart that is one of them; each is so once
    pub counted-in : (j i : ℕ) → i < j → ((a : ℕ) → a < j → get_or w (from + a) 0 < n) → ((a b : ℕ) → a < j → b < j → get_or w (from + a) 0 ≡ get_or w (from + b) 0 → a ≡ b)
        → base (counted c n w from j) n 0 (get_or w (from + i) 0) ≡ base w n 0 (get_or w (from + i) 0) + c (get_or w (from + i) 0)
    unfolding counted
    counted-in zero i h b one = absurd (not-suc-le-zero h)
    counted-in (suc j) i h b one =
        let u = counted c n w from j in
        let x = get_or w (from + j) 0 in
        let y = base u n 0 x + c x in
        ⊎_elim
        (λ (p : i ≡ j). subst (λ (k : ℕ). base (set u (slot n 0 x) y) n 0 (get_or w (from + k) 0) ≡ base w n 0 (get_or w (from + k) 0) + c (get_or w (from + k) 0)) (sym p)
        (base-here u n 0 x y (bases-kept (counted-length j) B) zero-le (b j (le_refl (suc j)))
        ∙ ap (λ (k : ℕ). k + c x) (counted-out j x (λ a l e. let z = one a j (omega arith) (le_refl (suc j)) e in omega arith))))
        (λ l. base-other u n 0 x (get_or w (from + i) 0) y (λ e. let z = one i j h (le_refl (suc j)) e in omega arith)
        ∙ counted-in j i l (λ a k. b a (omega arith)) (λ a d k o. one a d (omega arith) (omega arith)))
        (less-cases h)

-- ---- the loop
pub record Counting (v : List ℕ) (p ends : ℕ) (s : List ℤ) (w₀ w : List ℕ) (n from to total room sum last q : ℕ) : Type 0 where
  pub low : from ≤ q
  pub high : q ≤ to
  pub long : length w ≡ length w₀
  pub made : w ≡ counted (pieces_of s (ends_at v p ends)) n w₀ from (q - from)
  pub adds : sum ≡ total + 2 * sum_of (pieces_of s (ends_at v p ends)) w₀ from (q - from)
  pub fits : sum ≤ room
  pub known : from < q → last ≡ pieces_of s (ends_at v p ends) (get_or w₀ (q - 1) 0)

module _ {v : List ℕ} {p ends : ℕ} {s : List ℤ} {w₀ : List ℕ} {n from to total room : ℕ} (R : Countable v p ends s w₀ n from to total room) where
  abbrev c : ℕ → ℕ
  c = pieces_of s (ends_at v p ends)

  pub begin : (last : ℕ) → Counting v p ends s w₀ w₀ n from to total room total last from
  unfolding counted sum_below
  begin last =
      let z : from - from ≡ 0 = omega arith in
      record { low = le_refl from; high = R.order; long = refl; made = rw z refl; adds = rw z (omega arith); fits = R.fits; known = λ h. absurd (no h) }
    where
      no : from < from → ⊥
      no h = omega arith

  -- the queue is as it was
  queue-kept : {w : List ℕ} {sum last q : ℕ} → Counting v p ends s w₀ w n from to total room sum last q → (i : ℕ) → i < to → get_or w i 0 ≡ get_or w₀ i 0
  queue-kept {q = q} C i h = let l = R.last in ap (λ (l : List ℕ). get_or l i 0) C.made ∙ counted-queue c n w₀ from (q - from) i (omega arith)

  pub nextable : {w : List ℕ} {sum last q : ℕ} → Counting v p ends s w₀ w n from to total room sum last q → q < to → Nextable v p ends s w from q last
  nextable {w} {sum} {last} {q} C h = record {
    here = let l = R.bases.long in let a = R.last in let b = C.long in omega arith;
    walk = subst (Walkable v p ends s) (sym (queue-kept C q h)) (R.walks q C.low h);
    before = λ l. subst (RowIn s) (sym (queue-kept C (q - 1) (omega arith))) (R.walks (q - 1) (omega arith) (omega arith)).row;
    known = λ l. C.known l ∙ ap c (sym (queue-kept C (q - 1) (omega arith)));
  }

  module _ {w : List ℕ} {sum last q : ℕ} (C : Counting v p ends s w₀ w n from to total room sum last q) (h : q < to) (e : ℕ) (at : e ≡ get_or w q 0) where
    dart : e ≡ get_or w₀ q 0
    dart = at ∙ queue-kept C q h

    there : e ≡ get_or w₀ (from + (q - from)) 0
    there =
        let l = C.low in
        let z : q ≡ from + (q - from) = omega arith in
        dart ∙ ap (λ (k : ℕ). get_or w₀ k 0) z

    pub dart-below : e < n
    dart-below = subst (λ (x : ℕ). x < n) (sym dart) (R.darts q C.low h)

    walk : Walkable v p ends s e
    walk = subst (λ (x : ℕ). Walkable v p ends s x) (sym dart) (R.walks q C.low h)

    module _ (x : ℕ) (counts : x ≡ c (get_or w q 0)) where
      is : x ≡ c e
      is = counts ∙ ap c (sym at)

      pub few-pieces : x ≤ dart_limit
      few-pieces =
          let a = covered-few s (ends_at v p ends) e in
          let b = ends-length v p 0 ends in
          let f = walk.few in
          let i = is in
          omega arith

      sum-next : sum + 2 * x ≡ total + 2 * sum_of c w₀ from (suc (q - from))
      sum-next =
          let a = C.adds in
          let z : x ≡ c (get_or w₀ (from + (q - from)) 0) = is ∙ ap c there in
          let y : sum_of c w₀ from (suc (q - from)) ≡ c (get_or w₀ (from + (q - from)) 0) + sum_of c w₀ from (q - from) = (unfold sum_below in refl) in
          omega arith

      -- the bases so far are half the sum
      pub base-fits : sum + 2 * x ≤ room → base w n 0 e + x < 65536
      base-fits f =
          let a = sum-at n (base w n 0) e dart-below in
          let b : sum_below n (base w n 0) ≡ sum_below n (base w₀ n 0) + sum_of c w₀ from (q - from) =
          ap (λ (l : List ℕ). sum_below n (base l n 0)) C.made
          ∙ counted-sum c n w₀ from R.bases (q - from) (λ i l. let g = C.low in R.darts (from + i) (omega arith) (omega arith)) in
          let d = C.adds in
          let g = R.adds in
          let k = R.few in
          omega arith

      pub more : {w' : List ℕ} → sum + 2 * x ≤ room → w' ≡ set w (slot n 0 e) (base w n 0 e + x)
          → Counting v p ends s w₀ w' n from to total room (sum + 2 * x) x (q + 1)
      unfolding counted
      more f put =
          let l = C.low in
          let z : (q + 1) - from ≡ suc (q - from) = omega arith in
          record {
            low = omega arith;
            high = omega arith;
            long = ap length put ∙ length-set w (slot n 0 e) (base w n 0 e + x) ∙ C.long;
            made = put ∙ rw z (λ i. set (C.made i) (slot n 0 (there i)) (base (C.made i) n 0 (there i) + (is ∙ ap c there) i));
            adds = rw z sum-next;
            fits = f;
            known = λ _. let y : q ≡ (q + 1) - 1 = omega arith in is ∙ ap c (dart ∙ ap (λ (k : ℕ). get_or w₀ k 0) y);
          }

      pub full : (w' : List ℕ) → room < sum + 2 * x → Counted c n w₀ from to total room w' (room + 1)
      full w' f =
          let m = sum_more (suc (q - from)) (to - from) (λ i. c (get_or w₀ (from + i) 0)) (let l = C.low in omega arith) in
          let a = sum-next in
          let big : room < total + 2 * sum_of c w₀ from (to - from) = omega arith in
          record { sum = λ l. absurd (no l big); made = λ l. absurd (no l big); over = λ _. refl }
        where
          no : {a b : ℕ} → a ≤ b → b < a → ⊥
          no l h = omega arith

  pub ended : {w : List ℕ} {sum last q : ℕ} → Counting v p ends s w₀ w n from to total room sum last q → to ≤ q → Counted c n w₀ from to total room w sum
  ended {w} {sum} {last} {q} C h =
      let g = C.high in
      let z : q ≡ to = omega arith in
      let a = C.adds ∙ ap (λ (k : ℕ). total + 2 * sum_of c w₀ from (k - from)) z in
      let f = C.fits in
      record {
        sum = λ _. a;
        made = λ _. C.made ∙ ap (λ (k : ℕ). counted c n w₀ from (k - from)) z;
        over = λ l. absurd (let y : ⊥ = omega arith in y);
      }
