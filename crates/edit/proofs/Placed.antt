-- PLACE on tables: the column of a corner is what the placed map has.
--     place-asks       what the function asks for holds of the plan's tables
--     placed-told      the links, places and rows that PLACE leaves
--     place-holds      the tables with the column set hold the placed map
--     place-done       so they are what the command leaves
use Rattle.std.proofs.Common.{◌≡◌, ℕ, ◌*◌, ◌<◌, ◌≤◌, cond, ◌&&◌, eqb, List, length, get_or, set, ℤ, pos, sym, ap, ◌∙◌, subst, subst₂, arith, lit<}
use Rattle.paper.specs.Width.{place_width, dim_limit}
use Rattle.paper.specs.Map.{Map, with_place, count, dart, link, place, owned}
use Rattle.paper.specs.Orbit.{marked, size, orbit}
use Rattle.paper.specs.Cell.{corner}
use Rattle.paper.specs.Table.{table_of, places_table}
use Rattle.paper.specs.Edit.{placed}
use Rattle.paper.specs.Refusal.{answer, judge}
use Rattle.paper.specs.Step.{Maps, Room, refusals, effect, value}
use Rattle.paper.specs.declared.Command.TheVariants as command
use Rattle.theory.specs.Local.{Local}
use Rattle.theory.specs.Told.{Told}
use Rattle.theory.proofs.Told.{remade-told}
use Rattle.kernel.specs.Link.{alpha}
use Rattle.hold.specs.Hold.{HoldsPlan}
use Rattle.hold.specs.Rows.{columned, listed}
use Rattle.hold.specs.Stand.{PlanStands, Edited}
use Rattle.hold.proofs.Rows.{table-own, table_same, table-column}
use Rattle.hold.proofs.Stand.{edit-accepted, plan-reads, plan-has-room}
use Rattle.orbit.specs.Sparse.{queue}
use Rattle.orbit.specs.Flood.{axes, Ready, Listed}
use Rattle.orbit.proofs.Held.{holds-links, cell-held}
use Rattle.orbit.proofs.Listed.{listed-marked, stands-ready}
use Rattle.edit.proofs.Writes.{set-where}
use Rattle.edit.proofs.Told.{told-links, told-places, told-spans, held-told}

pub place-asks : {R : Room} {s : Maps} {m n : ℕ} {ls : List ℕ} {ps ss : List ℤ} {w : List ℕ} → PlanStands R s m n ls ps ss (length w)
    → Ready m n ls w × (n * place_width ≤ length ps)
place-asks P = (stands-ready P, (plan-has-room P).places)

module _ {M : Map} {m n : ℕ} {ls : List ℕ} {ps ss : List ℤ} (H : HoldsPlan M m n ls ps ss) (L : Local M) (d x : ℕ) (z : ℤ) where
  -- a place with the coordinate set, where the dart is in the corner
  abbrev p : ℕ → List ℤ
  p e = cond (marked (corner M d) e) (set (place M e) x z) (place M e)

  pub placed-told : Told (placed M d x z) m n (link M) p (owned M)
  unfolding placed
  placed-told = subst₂ (λ a b. Told (placed M d x z) a b (link M) p (owned M)) H.map.dims H.map.darts (remade-told M (λ e. with_place (p e) (dart M e)) L.axes)

  pub place-holds : x < m → m ≤ dim_limit → n * place_width ≤ length ps → {w : List ℕ} {t : ℕ} → Listed n (corner M d) w t
      → {ps' : List ℤ} → ps' ≡ columned place_width x (queue n w) (λ _. z) t ps → HoldsPlan (placed M d x z) m n ls ps' ss
  place-holds h high room {w} {t} K e = record {
    map = record {
      dims = X.dims;
      darts = X.darts;
      links = H.map.links ∙ told-links Y (length ls) ∙ sym (told-links X (length ls));
      places = table-own (pos 0) place_width (count (placed M d x z)) _ (length ps) (e ∙ written);
    };
    spans = H.spans ∙ told-spans Y (length ss) ∙ sym (told-spans X (length ss));
  }
    where
      X : Told (placed M d x z) m n (link M) p (owned M)
      X = placed-told

      Y : Told M m n (link M) (place M) (owned M)
      Y = held-told H.map L

      had : ps ≡ table_of place_width n (λ e q. get_or (place M e) q (pos 0)) (pos 0) (length ps)
      had = H.map.places ∙ told-places Y (length ps)

      -- where the coordinate is set
      each : (e q : ℕ) → e < n → cond (eqb q x && listed (queue n w) t e) z (get_or (place M e) q (pos 0)) ≡ get_or (p e) q (pos 0)
      each e q g =
          ap (λ b. cond (eqb q x && b) z (get_or (place M e) q (pos 0))) (listed-marked K e g)
          ∙ set-where (place M e) x q z (pos 0) (rw (L.coordinates e (rw H.map.darts g), H.map.dims) h) (marked (corner M d) e)

      written : columned place_width x (queue n w) (λ _. z) t ps ≡ places_table (placed M d x z) (length ps)
      written =
          ap (columned place_width x (queue n w) (λ _. z) t) had
          ∙ table-column (pos 0) place_width n (λ e q. get_or (place M e) q (pos 0)) (length ps) x (queue n w) (λ _. z) t room (omega arith) K.set.below
          ∙ table_same (pos 0) place_width n _ (λ e q. get_or (p e) q (pos 0)) (length ps) (lit< tt) (λ e q g _. each e q g)
          ∙ sym (told-places X (length ps))

module _ {R : Room} {s : Maps} {m n : ℕ} {ls : List ℕ} {ps ss : List ℤ} {w₀ : ℕ} (P : PlanStands R s m n ls ps ss w₀) (d x : ℕ) (z : ℤ) where
  pub place-done : x < m → d < n → (judge 0 (refusals R s (command.Place d x z))).number ≡ 0
      → {w : List ℕ} {t : ℕ} → Listed n (orbit (alpha ls) m (axes 0 1) n d) w t → {ps' : List ℤ} → ps' ≡ columned place_width x (queue n w) (λ _. z) t ps
      → Edited R s (command.Place d x z) (answer 0 t) m n ls ps' ss
  unfolding effect value
  place-done h g first {w} {t} K e =
      let A = plan-reads P in
      let J = subst (λ ms. Listed n ms w t) (cell-held s.plan m n ls A.holds (holds-links s.plan m n ls A.holds A.valid) 0 d g) K in
      edit-accepted R s (command.Place d x z)
      (place-holds P.held A.valid d x z h (subst (λ (k : ℕ). k ≤ dim_limit) P.held.map.dims P.good.plan_dim) (plan-has-room P).places J e)
      first
      (ap (answer 0) (J.many ∙ ap (λ (k : ℕ). size k (corner s.plan d)) (sym P.held.map.darts)))
