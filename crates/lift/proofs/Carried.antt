-- The objects of the lift, once its places are written.
--     lift-height      the height of a lifted dart stands behind the coordinates of its plan dart
--     plan-aim         what the pass over the objects needs to know
use Rattle.std.proofs.Common.{◌≡◌, ℕ, ◌+◌, ◌*◌, ◌%◌, ◌<◌, ◌≤◌, true, List, [], ◌∷◌, ◌++◌, length, get_or, ℤ, pos, ap, ◌∙◌, le_refl, arith, get_or-append-add}
use Rattle.paper.specs.Width.{place_width, dim_limit}
use Rattle.paper.specs.Map.{Map, count, place}
use Rattle.paper.specs.Table.{Tables, LiftedTables, place_at, places_table}
use Rattle.paper.specs.Lift.{at, lifted_darts, lift}
use Rattle.paper.specs.Call.{held}
use Rattle.theory.proofs.Number.{at-member}
use Rattle.theory.proofs.LiftValid.{lift-count, lift-place}
use Rattle.kernel.proofs.Copied.{copied-length, copied-before}
use Rattle.hold.proofs.Rows.{table-length, table_at}
use Rattle.number.specs.First.{first}
use Rattle.base.specs.Base.{base}
use Rattle.carry.specs.Carried.{height_in, Aim}
use Rattle.lift.specs.Lifted.{places_put, Liftable}

-- what is behind the first numbers of a list
behind : (l : List ℤ) (z : ℤ) (m : ℕ) → length l ≡ m → get_or (l ++ (z ∷ [])) m (pos 0) ≡ z
behind l z m e =
    let k : m ≡ length l + 0 = omega arith in
    ap (λ (i : ℕ). get_or (l ++ (z ∷ [])) i (pos 0)) k ∙ get_or-append-add l (z ∷ []) 0 (pos 0)

module _ {T : Tables} {m n : ℕ} {O : LiftedTables} {room : ℕ} (X : Liftable T m n O room) (low : m < dim_limit) (some : 0 < m) where
  abbrev M : Map
  M = held T m n

  abbrev N : ℕ
  N = length (lifted_darts M)

  module _ (fits : N ≤ room) where
    abbrev L : Map
    L = lift M

    abbrev rows : List ℤ
    rows = places_table L (count L * place_width)

    rows_long : length rows ≡ count L * place_width
    rows_long = table-length (pos 0) place_width (count L) (place_at L) (count L * place_width)

    put-long : length (places_put L O.places) ≡ length O.places
    put-long =
        let a = X.lifted.places in
        let b = lift-count M in
        let e = rows_long in
        copied-length (pos 0) (count L * place_width) rows O.places (omega arith) (omega arith)

    lift-height : (q : ℕ) → q < N → height_in (places_put L O.places) m q ≡ (get_or (lifted_darts M) q (at 0 0 (pos 0) true)).t
    unfolding place_at
    lift-height q h =
        let z = at 0 0 (pos 0) true in
        let x = get_or (lifted_darts M) q z in
        let b = lift-count M in
        let e = rows_long in
        copied-before (pos 0) (count L * place_width) rows O.places (omega arith) (q * place_width + m) (omega arith)
        ∙ table_at (pos 0) place_width (count L) (place_at L) (count L * place_width) q m (le_refl (count L * place_width)) (omega arith) (omega arith)
        ∙ ap (λ p. get_or p m (pos 0)) (lift-place M q z h)
        ∙ behind (place M x.d) x.t m (X.plan.valid.coordinates x.d (at-member M q z h).dart ∙ X.plan.holds.dims)

    pub plan-aim : {op : List ℤ} {w : List ℕ} → op ≡ places_put (lift M) O.places → length w ≡ T.work
        → ((d : ℕ) → d < n → base w n (m % 2) d ≡ first M d m) → Aim M m n T.spans op w
    plan-aim {op} {w} p k f =
        let R = X.lifted in
        let a = R.places in
        let b = R.few in
        let c = X.own.work in
        let e = put-long in
        let g = ap length p in
        record {
          dim = X.plan.holds.dims;
          some = some;
          darts = X.plan.holds.darts;
          bases = record { few = X.plan.few; long = omega arith };
          rows = X.plan.rows;
          same = X.plan.same;
          fit = X.objects;
          tops = f;
          dims = omega arith;
          few = omega arith;
          places = omega arith;
          heights = λ q h. ap (λ l. height_in l m q) p ∙ lift-height q h;
        }
