-- UNSEW on tables: the column of the freed darts is what the unsewn map has.
--     unsew-asks       what the function asks for holds of the plan's tables
--     unsewn-told      the links, places and rows that UNSEW leaves
--     unsew-holds      the tables with the column set hold the unsewn map
--     unsew-done       so they are what the command leaves
use Rattle.std.proofs.Common.{◌≡◌, ℕ, ◌+◌, ◌-◌, ◌*◌, ◌<◌, ◌≤◌, Bool, true, false, cond, ◌&&◌, ◌||◌, eqb, leb, List, length, get_or, set, ℤ, sym, refl, ap, ◌∙◌, subst, subst₂, suc-le-suc, arith, lit<, length-set, eqb-true}
use Rattle.paper.specs.Width.{link_width, dim_limit}
use Rattle.paper.specs.Map.{Map, with_links, count, dart, link, place, owned}
use Rattle.paper.specs.Orbit.{marked, size, orbit}
use Rattle.paper.specs.Sew.{wing}
use Rattle.paper.specs.Table.{links_table}
use Rattle.paper.specs.Edit.{relinked, freed, unsewn}
use Rattle.paper.specs.Refusal.{answer, judge}
use Rattle.paper.specs.Step.{Maps, Room, refusals, effect, value}
use Rattle.paper.specs.declared.Command.TheVariants as command
use Rattle.theory.specs.Local.{Local}
use Rattle.theory.specs.Told.{Told}
use Rattle.theory.proofs.Below.{list_at}
use Rattle.theory.proofs.Told.{remade-told}
use Rattle.kernel.specs.Link.{alpha}
use Rattle.hold.specs.Hold.{HoldsPlan, Reads}
use Rattle.hold.specs.Rows.{columned, listed}
use Rattle.hold.specs.Stand.{PlanStands, Edited}
use Rattle.hold.proofs.Rows.{table-own, table_same, table-column}
use Rattle.hold.proofs.Stand.{edit-accepted, plan-reads, plan-has-room}
use Rattle.orbit.specs.Sparse.{queue}
use Rattle.orbit.specs.Flood.{axes, Links, Ready, Listed}
use Rattle.orbit.proofs.Held.{holds-links, wing-held}
use Rattle.orbit.proofs.Listed.{listed-marked, stands-ready}
use Rattle.edit.specs.Across.{Across}
use Rattle.edit.proofs.Writes.{set_at}
use Rattle.edit.proofs.Told.{told-links, told-places, told-spans, held-told}
use Rattle.edit.proofs.Across.{across-listed}

pub unsew-asks : {R : Room} {s : Maps} {m n : ℕ} {ls : List ℕ} {ps ss : List ℤ} {w : List ℕ} → PlanStands R s m n ls ps ss (length w) → Ready m n ls w
unsew-asks P = stands-ready P

module _ {M : Map} {m n : ℕ} {ls : List ℕ} {ps ss : List ℤ} (H : HoldsPlan M m n ls ps ss) (L : Local M) (i a : ℕ) where
  -- where a dart is linked along the axis afterwards
  abbrev φ : ℕ → ℕ
  φ d = cond (marked (freed M i a) d) d (link M i d)

  abbrev β : ℕ → ℕ → ℕ
  β j d = get_or (set (dart M d).links i (φ d)) j 0

  pub unsewn-told : Told (unsewn M i a) m n β (place M) (owned M)
  unfolding unsewn relinked
  unsewn-told = subst₂ (λ x y. Told (unsewn M i a) x y β (place M) (owned M)) H.map.dims H.map.darts
      (remade-told M (λ d. with_links (set (dart M d).links i (φ d)) (dart M d)) (λ d h. length-set (dart M d).links i (φ d) ∙ L.axes d h))

  pub unsew-holds : i ≤ m → m ≤ dim_limit → n * link_width ≤ length ls → {w : List ℕ} {t : ℕ} → Listed n (freed M i a) w t
      → {ls' : List ℕ} → ls' ≡ columned link_width i (queue n w) (λ d. d) t ls → HoldsPlan (unsewn M i a) m n ls' ps ss
  unsew-holds h high room {w} {t} K e = record {
    map = record {
      dims = X.dims;
      darts = X.darts;
      links = table-own 0 link_width (count (unsewn M i a)) _ (length ls) (e ∙ written);
      places = H.map.places ∙ told-places Y (length ps) ∙ sym (told-places X (length ps));
    };
    spans = H.spans ∙ told-spans Y (length ss) ∙ sym (told-spans X (length ss));
  }
    where
      X : Told (unsewn M i a) m n β (place M) (owned M)
      X = unsewn-told

      Y : Told M m n (link M) (place M) (owned M)
      Y = held-told H.map L

      -- the column i of freed darts, number by number
      pick : (x b y : Bool) (d lj li : ℕ) → (x ≡ true → lj ≡ li) → cond (x && b) d (cond y lj d) ≡ cond y (cond x (cond b d li) lj) d
      pick true true true d lj li p = refl
      pick true true false d lj li p = refl
      pick true false true d lj li p = p refl
      pick true false false d lj li p = refl
      pick false b y d lj li p = refl

      each : (d j : ℕ) → d < n → cond (eqb j i && listed (queue n w) t d) d (cond (leb j m) (link M j d) d) ≡ cond (leb j m) (β j d) d
      each d j g =
          ap (λ b. cond (eqb j i && b) d (cond (leb j m) (link M j d) d)) (listed-marked K d g)
          ∙ pick (eqb j i) (marked (freed M i a) d) (leb j m) d (link M j d) (link M i d) (λ t. ap (λ (x : ℕ). link M x d) (eqb-true j i t))
          ∙ ap (λ x. cond (leb j m) x d) (sym (set_at (dart M d).links i j (φ d) 0 (rw (L.axes d (rw H.map.darts g), H.map.dims) (suc-le-suc h))))

      written : columned link_width i (queue n w) (λ d. d) t ls ≡ links_table (unsewn M i a) (length ls)
      written =
          ap (columned link_width i (queue n w) (λ d. d) t) (H.map.links ∙ told-links Y (length ls))
          ∙ table-column 0 link_width n (λ d j. cond (leb j m) (link M j d) d) (length ls) i (queue n w) (λ d. d) t room (omega arith) K.set.below
          ∙ table_same 0 link_width n _ (λ d j. cond (leb j m) (β j d) d) (length ls) (lit< tt) (λ d j g _. each d j g)
          ∙ sym (told-links X (length ls))

module _ {R : Room} {s : Maps} {m n : ℕ} {ls : List ℕ} {ps ss : List ℤ} {w₀ : ℕ} (P : PlanStands R s m n ls ps ss w₀) (i a : ℕ) where
  pub unsew-done : i ≤ m → a < n → (judge 0 (refusals R s (command.Unsew i a))).number ≡ 0
      → {w : List ℕ} {t : ℕ} → Listed n (orbit (alpha ls) m (axes (i - 1) (i + 2)) n a) w t → {w' : List ℕ} {u : ℕ} → Across (alpha ls i) n w t t w' u
      → {ls' : List ℕ} → ls' ≡ columned link_width i (queue n w') (λ d. d) u ls → Edited R s (command.Unsew i a) (answer 0 u) m n ls' ps ss
  unfolding effect value
  unsew-done h g first {w} {t} K {w'} {u} Z e =
      edit-accepted R s (command.Unsew i a)
      (unsew-holds P.held A.valid i a h (subst (λ (k : ℕ). k ≤ dim_limit) P.held.map.dims P.good.plan_dim) (plan-has-room P).links F e)
      first
      (ap (answer 0) (F.many ∙ ap (λ (k : ℕ). size k (freed M i a)) (sym P.held.map.darts)))
    where
      M : Map
      M = s.plan

      A : Reads M m n ls ss
      A = plan-reads P

      N : Links (alpha ls) m n
      N = holds-links M m n ls A.holds A.valid

      -- the freed darts are A and its partners
      both : (d : ℕ) → d < n → marked (freed M i a) d ≡ (marked (wing M i a) d || marked (wing M i a) (alpha ls i d))
      both d l = freed-at d (rw P.held.map.darts l) ∙ ap (λ (x : ℕ). marked (wing M i a) d || marked (wing M i a) x) (A.holds.links i d l h)
        where
          freed-at : (d : ℕ) → d < count M → marked (freed M i a) d ≡ (marked (wing M i a) d || marked (wing M i a) (link M i d))
          freed-at d l = unfold freed in list_at (count M) (λ d. marked (wing M i a) d || marked (wing M i a) (link M i d)) false d l

      F : Listed n (freed M i a) w' u
      F = across-listed (freed M i a) (alpha ls i) (λ d l. N.within i d l h) (λ d l. N.undo i d l h) both (subst (λ ms. Listed n ms w t) (wing-held M m n ls A.holds N i a g) K) Z
