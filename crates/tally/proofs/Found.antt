-- The cell that a flood finds.
--     ready-front, turned      a flood on the front of the work
--     front-in, front_out      a dart in the queue, by the whole work and by its front
--     whole-front              only the front matters to the queue
--     sound                    a plan's tables may be walked
--     sound-kept               of the work only the lengths matter
--     bases                    a flood leaves the bases
--     queue-fits               the queue has at most n darts
--     gatherable               what gathering a new cell's ends asks
--     queue-cell, cell-ends    what is new in the queue is the cell, and the ends of its rows are those around it
use Rattle.std.proofs.Common.{◌≡◌, ℕ, ◌+◌, ◌-◌, ◌*◌, ◌<◌, ◌≤◌, true, false, List, ◌++◌, length, get_or, drop, ℤ, sym, refl, ap, ◌∙◌, subst, arith, length-take-le, get_or-take, take_at, drop_at}
use Rattle.paper.specs.Width.{work_width, dart_limit, dim_limit, link_width}
use Rattle.paper.specs.Map.{Map, count}
use Rattle.paper.specs.Orbit.{marked, orbit, here}
use Rattle.paper.specs.Cell.{Cell, cell}
use Rattle.paper.specs.Ends.{ends, stretches, covered_by}
use Rattle.paper.specs.Lift.{lifted_darts}
use Rattle.theory.specs.Local.{Local}
use Rattle.theory.specs.Member.{◌∈◌}
use Rattle.theory.proofs.Orbit.{reach-trans}
use Rattle.theory.proofs.Valid.{reach-within, reach-sym, in_cell, of-cell}
use Rattle.theory.proofs.Block as block
use Rattle.hold.specs.Hold.{HasLinks, Reads}
use Rattle.hold.proofs.Hold.{reads-order, reads-row}
use Rattle.orbit.specs.Sparse.{queue, Sparse, In, is_in}
use Rattle.kernel.specs.Link.{alpha}
use Rattle.orbit.specs.Flood.{axes, Ready, Shut, Flooded}
use Rattle.orbit.proofs.Sparse.{fits, in-yes, in-no}
use Rattle.orbit.proofs.Front.{ready-kept}
use Rattle.orbit.proofs.Cell.{flood-in, flood-out}
use Rattle.orbit.proofs.Held.{reads-ready, cell-held}
use Rattle.ends.specs.Gather.{darts, row_ends, Gatherable}
use Rattle.kernel.proofs.Part.{part_in, part_out}
use Rattle.ends.proofs.Rows.{gathered-ends}
use Rattle.number.specs.Count.{piece_count}
use Rattle.base.specs.Base.{base}
use Rattle.base.proofs.Slots.{base_kept}
use Rattle.census.specs.Cell.{pieces_of}
use Rattle.tally.specs.Level.{front, Sound, Whole, Queued}

-- ---- the front of the work
pub ready-front : {m n : ℕ} {ls w : List ℕ} → Ready m n ls w → Ready m n ls (front n w)
ready-front {m} {n} {ls} {w} R =
    let l = length-take-le (n + n) w R.room in
    record { darts = R.darts; dims = R.dims; rows = R.rows; room = omega arith; links = R.links }

pub turned : {m n k d t t' : ℕ} {ls w y : List ℕ} → Ready m n ls w → length y ≡ length (front n w)
    → Flooded (alpha ls) m (axes k (k + 1)) n d (front n w) t y t' → Queued m n k ls d w t (y ++ drop (n + n) w) t'
turned {m} {n} {k} {d} {t} {t'} {ls} {w} {y} R e B =
    let l : length y ≡ n + n = e ∙ length-take-le (n + n) w R.room in
    record {
      found = subst (λ (z : List ℕ). Flooded (alpha ls) m (axes k (k + 1)) n d (front n w) t z t') (sym (take_at y (drop (n + n) w) (n + n) l)) B;
      behind = drop_at y (drop (n + n) w) (n + n) l;
    }

pub front-queue : (n : ℕ) (w : List ℕ) (q : ℕ) → q < n → queue n (front n w) q ≡ queue n w q
front-queue n w q h = get_or-take (n + n) w (n + q) 0 (omega arith)

module _ (n t : ℕ) (w : List ℕ) (X : Sparse n n (front n w) t) where
  at_front : (q : ℕ) → q < t → queue n (front n w) q ≡ queue n w q
  at_front q h = let f = fits n n (front n w) t X in front-queue n w q (omega arith)

  whole : Sparse n n w t
  whole = record {
    below = λ q h. subst (λ (e : ℕ). e < n) (at_front q h) (X.below q h);
    back = λ q h.
        let b = X.below q h in
        sym (ap (λ (e : ℕ). get_or w e 0) (at_front q h)) ∙ sym (get_or-take (n + n) w (queue n (front n w) q) 0 (omega arith)) ∙ X.back q h;
  }

  pub front-in : (e : ℕ) → is_in n w t e ≡ true → In n (front n w) t e
  front-in e h = let i = in-yes n n w t whole e h in (i.0, i.1, at_front i.0 i.1 ∙ i.2)

  pub front_out : (e : ℕ) → is_in n w t e ≡ false → In n (front n w) t e → ⊥
  front_out e h i = in-no n n w t whole e h (i.0, i.1, sym (at_front i.0 i.1) ∙ i.2)

-- only the front matters
pub whole-front : {m n k t : ℕ} {ls w w' : List ℕ} → front n w' ≡ front n w → Whole m n k ls w t → Whole m n k ls w' t
whole-front {m} {n} {k} {t} {ls} p W = record {
  set = subst (λ (y : List ℕ). Sparse n n y t) (sym p) W.set;
  shut = subst (λ (y : List ℕ). Shut (alpha ls) m (axes k (k + 1)) n y t) (sym p) W.shut;
}

-- ---- tables
pub sound-kept : {m n room : ℕ} {ls : List ℕ} {s : List ℤ} {w w' v v' : List ℕ} → length w' ≡ length w → length v' ≡ length v
    → Sound m n ls s w v room → Sound m n ls s w' v' room
sound-kept a b S =
    let k = S.work in
    let l = S.long in
    record {
      ready = ready-kept a S.ready;
      rows = S.rows;
      order = S.order;
      work = omega arith;
      few = S.few;
      long = omega arith;
    }

pub sound : {M : Map} {m n room : ℕ} {ls : List ℕ} {s : List ℤ} {w v : List ℕ} → Reads M m n ls s → m ≤ dim_limit → n * link_width ≤ length ls
    → n * work_width ≤ length w → room ≤ dart_limit → room * work_width ≤ length v → Sound m n ls s w v room
sound P dims long work few room-long = record {
  ready = reads-ready P dims long (omega arith);
  rows = P.rows;
  order = reads-order P;
  work = work;
  few = few;
  long = room-long;
}

-- ---- a flood from d
module _ {m n k d t room t' : ℕ} {ls : List ℕ} {s : List ℤ} {w₀ w v : List ℕ} (S₀ : Sound m n ls s w₀ v room) (dn : d < n) (km : k ≤ m)
    (kept : length w ≡ length w₀) (T : Queued m n k ls d w₀ t w t') where
  pub S : Sound m n ls s w v room
  S = sound-kept kept refl S₀

  abbrev α : ℕ → ℕ → ℕ
  α = alpha ls

  pub bases : (h e : ℕ) → base w n h e ≡ base w₀ n h e
  bases h e = base_kept w₀ w n h e T.behind

  pub X : Sparse n n (front n w) t'
  X = T.found.set

  pub few : t' ≤ n
  few = fits n n (front n w) t' X

  pub more : t ≤ t'
  more = T.found.grown.more

  pub queue-fits : (t ≤ n) × (t' ≤ n)
  queue-fits = let a = few in let b = more in (omega arith, a)

  pub at-queue : (q : ℕ) → q < t' → queue n (front n w) q ≡ queue n w q
  at-queue q h = let f = few in front-queue n w q (omega arith)

  pub dart-below : (q : ℕ) → n + t ≤ q → q < n + t' → get_or w q 0 < n
  dart-below q a b =
      let z : n + (q - n) ≡ q = omega arith in
      subst (λ (x : ℕ). get_or w x 0 < n) z (subst (λ (x : ℕ). x < n) (at-queue (q - n) (omega arith)) (X.below (q - n) (omega arith)))

  pub gatherable : Gatherable v room s w (n + t) (n + t')
  gatherable =
      let a = more in
      let b = few in
      let l = S.work in
      record {
        few = S.few;
        long = S.long;
        first = omega arith;
        last = omega arith;
        rows = λ q a b. S.rows (get_or w q 0) (dart-below q a b);
        order = λ q a b. S.order (get_or w q 0) (dart-below q a b);
      }

  -- ---- the cell that was found
  abbrev pub cell_darts : List ℕ
  cell_darts = darts w (n + t) (n + t')

  module _ (M : Map) (P : Reads M m n ls s) where
    H : HasLinks M m n ls
    H = P.holds

    Z : Local M
    Z = P.valid

    nd : {e : ℕ} → e < n → e < count M
    nd {e} h = subst (λ (x : ℕ). e < x) (sym H.darts) h

    dn' : {e : ℕ} → e < count M → e < n
    dn' {e} h = subst (λ (x : ℕ). e < x) H.darts h

    same-marks : orbit α m (axes k (k + 1)) n d ≡ cell M k d
    same-marks = cell-held M m n ls H S.ready.links k d dn

    pub queue-cell : (q : ℕ) → t ≤ q → q < t' → Cell M k d (queue n w q)
    queue-cell q a b =
        let e = queue n w q in
        let f = subst (λ (x : ℕ). marked (orbit α m (axes k (k + 1)) n d) x ≡ true) (at-queue q b) (flood-in S.ready.links dn T.found q a b) in
        of-cell M Z k d e (nd dn) (nd (subst (λ (x : ℕ). x < n) (at-queue q b) (X.below q b)))
        (subst (λ l. marked l e ≡ true) same-marks f)

    pub in-darts : (e : ℕ) → e ∈ cell_darts → Cell M k d e
    in-darts e i =
        let r = part_out 0 w (n + t) ((n + t') - (n + t)) e i in
        let a = r.1 in
        let b = r.2 in
        let z : n + (r.0 - n) ≡ r.0 = omega arith in
        subst (λ (x : ℕ). Cell M k d x) (ap (λ (x : ℕ). get_or w x 0) z ∙ sym r.3) (queue-cell (r.0 - n) (omega arith) (omega arith))

    of-darts : (e : ℕ) → Cell M k d e → e ∈ cell_darts
    of-darts e c =
        let x = flood-out S.ready.links dn T.found e (dn' (reach-within M Z (nd dn) c)) (subst (λ l. marked l e ≡ true) (sym same-marks) (in_cell M Z k d e (nd dn) c)) in
        let a = x.1 in
        let b = x.2 in
        subst (λ (y : ℕ). y ∈ cell_darts) (sym (at-queue x.0 b) ∙ x.3) (part_in 0 w (n + t) ((n + t') - (n + t)) (n + x.0) (omega arith) (omega arith))

    -- the ends that are gathered are those of each of its darts
    pub cell-ends : (e : ℕ) → Cell M k d e → row_ends s cell_darts ≡ ends M k e
    cell-ends e c =
        gathered-ends s M Z k e cell_darts (reach-within M Z (nd dn) c)
        (λ x i. reach-trans (reach-sym M Z (nd dn) c) (in-darts x i))
        (λ x r. of-darts x (reach-trans c r))
        (λ x h. reads-row P x (dn' h))

    pub cell-pieces : (l : List ℤ) → l ≡ row_ends s cell_darts → (e : ℕ) → Cell M k d e → pieces_of s l e ≡ piece_count M e k
    unfolding piece_count
    cell-pieces l b e c = λ i. length (covered_by (sym (reads-row P e (dn' (reach-within M Z (nd dn) c))) i) (stretches ((b ∙ cell-ends e c) i)))

    pub wide : room < length (row_ends s cell_darts) → room < length (lifted_darts M)
    wide h =
        let a = block.room M Z k d (nd dn) (let z = H.dims in omega arith) in
        let b = ap length (cell-ends d here) in
        omega arith
