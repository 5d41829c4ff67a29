-- Gathering, a dart at a time: the ends that stand in the work are those of the darts passed.
--     Gathering        the loop's invariant
--     start            it holds at the start
--     spans-there      how many spans the dart at a place has
--     known-ends       a row that is known has no end that is new
--     listed           the darts up to the next have rows in the table
--     known_more       a dart more whose row is known
--     joinable         a dart's row can be joined
--     more             a dart more
--     full, ended      the two ways out
use Rattle.std.proofs.Common.{◌≡◌, ℕ, ◌+◌, ◌-◌, ◌*◌, ◌<◌, ◌≤◌, true, ◌||◌, eqb, leb, ◌⊎◌, List, [], ◌∷◌, ◌++◌, length, get_or, ℤ, pos, nat_abs, sym, refl, ap, ◌∙◌, subst, inl, inr, ⊎_elim, eq-or-lt_of_le, arith, eqb-true, leb-true}
use mathlib.Core.List.Memᴰ
use Rattle.paper.specs.Width.{span_width}
use Rattle.paper.specs.Below.{join_of}
use Rattle.paper.specs.Map.{Span}
use Rattle.paper.specs.Span.{ordered, ends_of}
use Rattle.paper.specs.Ends.{ascending}
use Rattle.paper.specs.Table.{owned_at, row_at}
use Rattle.theory.specs.Member.{◌∈◌}
use Rattle.theory.specs.Alike.{alike}
use Rattle.theory.proofs.Alike.{alike-spans}
use Rattle.theory.proofs.Bool.{or_case, and_both}
use Rattle.theory.proofs.Ascending.{ascending-ascends}
use Rattle.span.specs.Row.{RowIn}
use Rattle.span.proofs.Row.{row_count}
use Rattle.ends.specs.Key.{ends_from, ends_at}
use Rattle.kernel.specs.Part.{part}
use Rattle.ends.specs.Join.{ends_with, Held, Joinable}
use Rattle.ends.specs.Gather.{darts, row_ends, known_by, known, Gatherable, Listed}
use Rattle.kernel.proofs.Part.{part_in, part_out}
use Rattle.ends.proofs.Parts.{ends-length}
use Rattle.ends.proofs.Holding.{held_fits, held-over}
use Rattle.ends.proofs.Rows.{rows_more, rows_same, rows_long}

pub record Gathering (v₀ v : List ℕ) (room : ℕ) (s : List ℤ) (g : List ℕ) (from to half ends q : ℕ) : Type 0 where
  pub first : from ≤ q
  pub last : q ≤ to
  pub hl : half ≤ 1
  pub el : ends ≤ room
  pub same : length v ≡ length v₀
  pub passed : ends_at v half ends ≡ row_ends s (darts g from q)

pub start : {v : List ℕ} {room : ℕ} {s : List ℤ} {g : List ℕ} {from to : ℕ} → Gatherable v room s g from to → Gathering v v room s g from to 0 0 from
unfolding ends_from part join_of ends_of ascending
start {from = from} G =
    let e : from - from ≡ 0 = omega arith in
    record { first = omega arith; last = G.first; hl = omega arith; el = omega arith; same = refl; passed = rw e }

-- ---- the darts passed
module _ (g : List ℕ) (from q : ℕ) (h : from ≤ q) where
  -- those before place q, and the one there
  next-in : (d : ℕ) → (d ≡ get_or g q 0) ⊎ (d ∈ darts g from q) → d ∈ darts g from (q + 1)
  next-in d (inl e) = subst (λ (k : ℕ). k ∈ darts g from (q + 1)) (sym e) (part_in 0 g from (q + 1 - from) q h (omega arith))
  next-in d (inr u) =
      let r = part_out 0 g from (q - from) d u in
      let l = r.2 in
      subst (λ (k : ℕ). k ∈ darts g from (q + 1)) (sym r.3) (part_in 0 g from (q + 1 - from) r.0 r.1 (omega arith))

  next-out : (d : ℕ) → d ∈ darts g from (q + 1) → (d ≡ get_or g q 0) ⊎ (d ∈ darts g from q)
  next-out d u =
      let r = part_out 0 g from (q + 1 - from) d u in
      let l = r.2 in
      ⊎_elim (λ (e : r.0 ≡ q). inl (r.3 ∙ ap (λ k. get_or g k 0) e))
      (λ k. inr (subst (λ (k : ℕ). k ∈ darts g from q) (sym r.3) (part_in 0 g from (q - from) r.0 r.1 (omega arith))))
      (eq-or-lt_of_le (below r.0 l))
    where
      below : (k : ℕ) → k < from + (q + 1 - from) → k ≤ q
      below k l = omega arith

  all_in : (to : ℕ) → q < to → (d : ℕ) → d ∈ darts g from (q + 1) → d ∈ darts g from to
  all_in to l d u =
      let r = part_out 0 g from (q + 1 - from) d u in
      let k = r.2 in
      subst (λ (k : ℕ). k ∈ darts g from to) (sym r.3) (part_in 0 g from (to - from) r.0 r.1 (omega arith))

-- ---- a row that is known
known-end : (s : List ℤ) (g : List ℕ) (from q : ℕ) → from ≤ q → known s g from q ≡ true
    → (b : ℤ) → b ∈ ends_of (row_at s (get_or g q 0)) → (k : ℕ) × (from ≤ k) × (k < q) × (b ∈ ends_of (row_at s (get_or g k 0)))
known-end s g from q h e b w = ⊎_elim
    (λ u. absurd (none (row_at s (get_or g q 0)) (eqb-true (length (row_at s (get_or g q 0))) 0 u) w))
    (λ u. ⊎_elim (λ x. by 1 (omega arith) x) (λ x. by 2 (omega arith) x) (or_case (known_by s g from q 1) (known_by s g from q 2) u))
    (or_case (eqb (length (row_at s (get_or g q 0))) 0) (known_by s g from q 1 || known_by s g from q 2) e)
  where
    none : (r : List Span) → length r ≡ 0 → b ∈ ends_of r → ⊥
    none [] z u = let y : b ∈ [] = (unfold ends_of in u) in Memᴰ.not-nil y
    none (x ∷ r) z u = let y : ⊥ = omega arith in y

    by : (k : ℕ) → 0 < k → known_by s g from q k ≡ true → (k : ℕ) × (from ≤ k) × (k < q) × (b ∈ ends_of (row_at s (get_or g k 0)))
    by k p u =
        let r = alike (owned_at s (get_or g (q - k) 0)) (owned_at s (get_or g q 0)) in
        let v = and_both (leb k (q - from)) r u in
        let l = leb-true k (q - from) v.0 in
        (q - k, omega arith, omega arith, subst (λ (z : List Span). b ∈ ends_of z) (sym (alike-spans (owned_at s (get_or g (q - k) 0)) (owned_at s (get_or g q 0)) v.1)) w)

-- how many spans the dart at q has
pub spans-there : {s : List ℤ} {g : List ℕ} {from q e : ℕ} → Listed s g from q → e ≡ get_or g q 0 → nat_abs (get_or s (e * span_width) (pos 0)) ≡ length (row_at s (get_or g q 0))
spans-there {s} {g} {from} {q} {e} A p =
    row_count s e (subst (RowIn s) (sym p) (A.rows q A.first (omega arith))) ∙ ap (λ (x : ℕ). length (row_at s x)) p

pub known-ends : (s : List ℤ) (g : List ℕ) (from q : ℕ) → from ≤ q → known s g from q ≡ true → row_ends s (darts g from (q + 1)) ≡ row_ends s (darts g from q)
known-ends s g from q h e =
    rows_same s (darts g from (q + 1)) (darts g from q)
    (λ d b u w. ⊎_elim
    (λ (p : d ≡ get_or g q 0).
    let x = known-end s g from q h e b (subst (λ (y : ℕ). b ∈ ends_of (row_at s y)) p w) in
    let a = x.2 in
    (get_or g x.0 0, part_in 0 g from (q - from) x.0 x.1 (omega arith), x.3))
    (λ v. (d, v, w)) (next-out g from q h d u))
    (λ d u. next-in g from q h d (inr u))

module _ {v₀ v : List ℕ} {room : ℕ} {s : List ℤ} {g : List ℕ} {from to half ends q : ℕ}
    (G : Gathering v₀ v room s g from to half ends q) (P : Gatherable v₀ room s g from to) where
  -- a dart is left
  module _ (h : q < to) where
    pub listed : Listed s g from q
    listed =
        let l = P.last in
        record { first = G.first; last = omega arith; rows = λ k a b. P.rows k a (omega arith) }

    pub known_more : known s g from q ≡ true → Gathering v₀ v room s g from to half ends (q + 1)
    known_more e =
        let f = G.first in
        record {
          first = omega arith;
          last = omega arith;
          hl = G.hl;
          el = G.el;
          same = G.same;
          passed = G.passed ∙ sym (known-ends s g from q f e);
        }

    module _ (e : ℕ) (ee : e ≡ get_or g q 0) where
      pub joinable : Joinable v half ends room s e
      joinable =
          let b = G.same in
          let l = P.long in
          record {
            half = G.hl;
            within = G.el;
            few = P.few;
            long = omega arith;
            ascend = rw G.passed (ascending-ascends (ends_of (join_of (darts g from q) (λ e. row_at s e))));
            row = subst (RowIn s) (sym ee) (P.rows q G.first h);
            order = subst (λ k. ordered (row_at s k) ≡ true) (sym ee) (P.order q G.first h);
          }

      is_union : ends_with v half ends s e ≡ row_ends s (darts g from (q + 1))
      is_union =
          ap (λ l. ascending (ends_of (row_at s e) ++ l)) G.passed
          ∙ rows_more s (darts g from q) (darts g from (q + 1)) e
          (λ d u. next-in g from q G.first d (⊎_elim (λ p. inl (p ∙ ee)) (λ b. inr b) u))
          (λ d u. ⊎_elim (λ p. inl (p ∙ sym ee)) (λ b. inr b) (next-out g from q G.first d u))

      module _ (v' : List ℕ) (r : ℕ) (J : Held (ends_with v half ends s e) v' (1 - half) room r) where
        -- the ends with that dart's
        H : Held (row_ends s (darts g from (q + 1))) v' (1 - half) room r
        H = rw is_union at J

        pub more : r ≤ room → length v' ≡ length v → Gathering v₀ v' room s g from to (1 - half) r (q + 1)
        more l k =
            let f = G.first in
            record { first = omega arith; last = omega arith; hl = omega arith; el = l; same = k ∙ G.same; passed = (held_fits H l).1 }

        pub full : room < r → Held (row_ends s (darts g from to)) v' 0 room (room + 1)
        full l =
            let u = held-over H l in
            let b = rows_long s (darts g from (q + 1)) (darts g from to) (all_in g from q G.first to h) in
            record {
              half = omega arith;
              count = λ k. let z : ⊥ = omega arith in absurd z;
              held = λ k. let z : ⊥ = omega arith in absurd z;
              over = λ k. refl;
            }

  pub ended : to ≤ q → Held (row_ends s (darts g from to)) v half room ends
  ended h =
      let k = G.last in
      let e : q ≡ to = omega arith in
      let f : ends_at v half ends ≡ row_ends s (darts g from to) = rw e at G.passed in
      let l : ends ≡ length (row_ends s (darts g from to)) = sym (ends-length v half 0 ends) ∙ ap length f in
      let m = G.el in
      record { half = G.hl; count = λ k. l; held = λ k. f; over = λ k. let z : ⊥ = omega arith in absurd z }
