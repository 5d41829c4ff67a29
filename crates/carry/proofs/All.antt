-- The pass over all darts is the paper's: where the tables hold a plan and the places of its lift, what it asks holds, and it writes the objects that the lifted darts carry.
--     carriable        what the pass asks
--     carried-all      what it writes
use Rattle.std.proofs.Common.{◌≡◌, ℕ, zero, suc, ◌*◌, ◌%◌, ◌<◌, ◌≤◌, Bool, true, false, List, length, get_or, ℤ, pos, sym, refl, ap, ◌∙◌, ⊎_elim, zero-le, arith, eq-eqb, ne_eqb, eqb-true}
use lib.ListN.{length-map, get_or-eq_default}
use Rattle.paper.specs.Below.{sum_below}
use Rattle.paper.specs.Map.{Map, Owned, spans_of, no_span, count, owned, row}
use Rattle.paper.specs.Span.{ordered, covering, covered}
use Rattle.paper.specs.Table.{object_fits, owned_at, row_at}
use Rattle.paper.specs.Lift.{Lifted, at, lifted_darts, object_at, carried, carried_objects}
use Rattle.theory.specs.Local.{Local}
use Rattle.theory.specs.Cut.{cut_of}
use Rattle.theory.specs.Move.{Member}
use Rattle.theory.proofs.Bool.{eq-or, lt-or, less-or}
use Rattle.theory.proofs.Member.{nth_in}
use Rattle.theory.proofs.Number.{number-at}
use Rattle.theory.proofs.Object.{object-at}
use Rattle.kernel.specs.Copy.{copied}
use Rattle.number.specs.Count.{piece_count, below}
use Rattle.base.specs.Base.{base}
use Rattle.number.specs.First.{dart_of, first, number_of}
use Rattle.number.proofs.Count.{lifted-length}
use Rattle.number.proofs.First.{side-small, first_next, within-dart, first-later, dart-member, dart-number, number-found}
use Rattle.number.proofs.Sum.{sum_more}
use Rattle.number.proofs.Top.{count-top}
use Rattle.number.proofs.Own.{count-bare}
use Rattle.carry.specs.Carried.{upward, height_in, carried_at, carried_rows, from_of, to_of, carried_all, Own, Carriable, Aim}
use Rattle.carry.proofs.Rows.{rows-copied}

-- ---- numbers of lifted darts
module _ (M : Map) (L : Local M) where
  -- numbers of feet are even
  number-side : (d k j : ℕ) (s : Bool) → upward (number_of M d k j s) ≡ s
  unfolding first
  number-side d k j true = eq-eqb (number_of M d k j true % 2) 0 (omega arith)
  number-side d k j false = ne_eqb (number_of M d k j false % 2) 0 (λ e. omega arith)

  -- a dart's numbers end where the next one's begin
  dart-next : (d : ℕ) → first M d (suc M.dim) ≡ first M (suc d) 0
  unfolding first sum_below
  dart-next d = omega arith

  all-numbers : first M (count M) 0 ≡ length (lifted_darts M)
  all-numbers = let e : first M (count M) 0 ≡ 2 * sum_below (count M) (below M (suc M.dim)) = unfold first sum_below in omega arith in e ∙ sym (lifted-length M L)

  -- the lifted dart with a number: its plan dart is told by where the number lies, its side by whether it is even
  number-dart : (d q : ℕ) → q < length (lifted_darts M) → first M d 0 ≤ q → q < first M (suc d) 0
      → (x : Lifted) × Member (cut_of M) x × (x.d ≡ d) × (x.s ≡ upward q) × ((z : Lifted) → get_or (lifted_darts M) q z ≡ x)
  number-dart d q h a b =
      let f = number-found M L q h in
      go f.0 f.1 f.2 f.3 f.4 f.5 f.6 f.7
    where
      go : (e k j : ℕ) (s : Bool) → e < count M → k ≤ M.dim → j < piece_count M e k → q ≡ number_of M e k j s
          → (x : Lifted) × Member (cut_of M) x × (x.d ≡ d) × (x.s ≡ upward q) × ((z : Lifted) → get_or (lifted_darts M) q z ≡ x)
      go e k j s u v w t =
          let X = dart-member M L e k j s u v w in (
            dart_of M e k j s,
            X,
            own,
            sym (ap upward t ∙ number-side e k j s),
            λ z. ap (λ (p : ℕ). get_or (lifted_darts M) p z) (t ∙ sym (dart-number M L e k j s u v w)) ∙ number-at M (dart_of M e k j s) z X,
          )
        where
          -- q is below the numbers of the next dart, and not below this one's
          own : e ≡ d
          own =
              let x = first_next M e k in
              let y = within-dart M e k v in
              let z = first-later M e e k (omega arith) in
              let r = side-small s in
              ⊎_elim (λ (p : e ≡ d). p)
              (λ ne. ⊎_elim
              (λ (l : e < d). absurd (let c = first-later M (suc e) d 0 l in let o : ⊥ = omega arith in o))
              (λ (l : d < e). absurd (let c = first-later M (suc d) e 0 l in let o : ⊥ = omega arith in o))
              (lt-or e d ne)) (eq-or e d)

-- ---- the pass
module _ (M : Map) (L : Local M) {m n : ℕ} {spans op : List ℤ} {w : List ℕ} (A : Aim M m n spans op w) where
  abbrev N : ℕ
  N = length (lifted_darts M)

  abbrev from : ℕ → ℕ
  from d = from_of spans w n (m % 2) d

  abbrev to : ℕ → ℕ
  to d = to_of spans w n (m % 2) d

  in-plan : (d : ℕ) → d < n → d < count M
  in-plan d h = let e = A.darts in omega arith

  -- the rows of a dart end, and begin, where the numbers of its lifted darts do
  to_is : (d : ℕ) → d < n → to d ≡ first M (suc d) 0
  to_is d h =
      let a = A.tops d h in
      let b = ap (first M d) A.dim in
      let c = count-top M L d (in-plan d h) in
      let e = ap (λ (r : List Owned). length (spans_of r)) (A.same d h) in
      let f = first_next M d M.dim in
      let g = dart-next M L d in
      omega arith

  from_is : (d : ℕ) → d ≤ n → from d ≡ first M d 0
  from_is zero h = unfold first sum_below in refl
  from_is (suc d) h = to_is d h

  to-within : (d : ℕ) → d < n → to d ≤ N
  to-within d h =
      let e = to_is d h in
      let f = first-later M (suc d) (count M) 0 (in-plan d h) in
      let g = all-numbers M L in
      omega arith

  -- the side of a row of dart d is covered, and the row carries what its lifted dart does
  row_carries : (d q : ℕ) → d < n → from d ≤ q → q < to d
      → (covered (row_at spans d) (height_in op m q) (upward q) ≡ true) × (carried_at spans op m d q ≡ get_or (carried_objects M) q 0)
  unfolding carried_at carried
  row_carries d q h a b =
      let e = from_is d (omega arith) in
      let f = to_is d h in
      let g = to-within d h in
      let r = number-dart M L d q (omega arith) (omega arith) (omega arith) in
      let x = r.0 in
      let t : height_in op m q ≡ x.t = A.heights q (omega arith) ∙ ap (λ (y : Lifted). y.t) (r.4 (at 0 0 (pos 0) true)) in
      let o : owned_at spans d ≡ owned M x.d = sym (A.same d h) ∙ ap (owned M) (sym r.2) in (
        (λ i. covered (spans_of (o i)) (t i) (sym r.3 i)) ∙ r.1.side,
        (λ i. object_at (o i) (covering (spans_of (o i)) (t i) (sym r.3 i))) ∙ ap (carried M) (sym (r.4 (at 0 0 (pos 0) false))) ∙ sym (object-at M q (omega arith)),
      )

  own : (d : ℕ) → d < n → Own spans d
  own d h = record {
    row = A.rows d h;
    order = ap (λ (r : List Owned). ordered (spans_of r)) (sym (A.same d h)) ∙ L.order d (in-plan d h);
    fits = λ j. ap (λ (r : List Owned). object_fits (get_or r j no_span).object) (sym (A.same d h)) ∙ fits j;
  }
    where
      fits : (j : ℕ) → object_fits (get_or (owned M d) j no_span).object ≡ true
      fits j = ⊎_elim
          (λ (l : j < length (owned M d)). A.fit d (in-plan d h) (get_or (owned M d) j no_span) (nth_in (owned M d) j no_span l))
          (λ (l : length (owned M d) ≤ j). ap (λ (y : Owned). object_fits y.object) (get_or-eq_default (owned M d) no_span l))
          (less-or j (length (owned M d)))

  -- the numbers of the top level are a dart's last ones
  last : (d : ℕ) → d < n → from d ≤ base w n (m % 2) d
  last d h =
      let a = A.tops d h in
      let b = from_is d (omega arith) in
      let c = first-later M d d m (omega arith) in
      omega arith

  -- a dart whose top level begins where its rows do has no piece at level 0, and so no spans
  none : (d : ℕ) → d < n → base w n (m % 2) d ≡ from d → length (row_at spans d) ≡ 0
  none d h e =
      let a = A.tops d h in
      let b = from_is d (omega arith) in
      let s = A.some in
      let x = sum_more 1 m (piece_count M d) s in
      let z : piece_count M d 0 ≡ 0 = unfold first sum_below in omega arith in
      let y = count-bare M L d 0 (in-plan d h) zero-le z in
      ap (λ (r : List Owned). length (spans_of r)) (sym (A.same d h)) ∙ eqb-true (length (row M d)) 0 y

  pub carriable : {len : ℕ} → N ≤ len → Carriable spans op w m n len
  carriable h = record {
    bases = A.bases;
    own = own;
    later = last;
    bare = none;
    within = λ d l. let e = to-within d l in let f = A.places in let g = A.few in record { dims = A.dims; places = omega arith; objects = omega arith; few = omega arith };
    met = λ d l q a b. (row_carries d q l a b).0;
  }

  objects-length : length (carried_objects M) ≡ N
  unfolding carried_objects
  objects-length = length-map (lifted_darts M) (carried M)

  -- the darts below d have written what theirs carry
  so_far : (o : List ℕ) → N ≤ length o → (d : ℕ) → d ≤ n → carried_all spans op w m n d o ≡ copied (first M d 0) (carried_objects M) o
  unfolding carried_all
  so_far o h zero l = unfold copied first sum_below in refl
  so_far o h (suc d) l =
      let e = to-within d l in
      let f = objects-length in
      let g = to_is d l in
      let k = first-later M d (suc d) 0 (omega arith) in
      (λ i. carried_rows (carried_at spans op m d) (from_is d (omega arith) i) (g i) (so_far o h d (omega arith) i))
      ∙ rows-copied (carried_at spans op m d) (first M d 0) (first M (suc d) 0) (carried_objects M) o k (omega arith) (omega arith)
      (λ q a b. let c = from_is d (omega arith) in (row_carries d q l (omega arith) (omega arith)).1)

  pub carried-all : (o : List ℕ) → N ≤ length o → carried_all spans op w m n n o ≡ copied (length (carried_objects M)) (carried_objects M) o
  carried-all o h =
      so_far o h n (omega arith)
      ∙ ap (λ (k : ℕ). copied k (carried_objects M) o) (ap (λ (k : ℕ). first M k 0) (sym A.darts) ∙ all-numbers M L ∙ sym objects-length)
