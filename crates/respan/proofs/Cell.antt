-- A map with the rows of a top cell replaced, and the tables that hold it.
--     respanned-holds    where the darts of the top cell are listed, and the numbers of the new row are put in each of their rows
--     respan-asks        what SPAN and CLEAR require holds of the plan's tables as a run leaves them
--     cell-spliced       a splice written to each dart of a top cell
use Rattle.std.proofs.Common.{◌≡◌, ℕ, ◌+◌, ◌*◌, ◌<◌, ◌≤◌, Bool, true, false, cond, leb, List, length, get_or, ℤ, pos, sym, refl, ap, ◌∙◌, subst, lit<}
use Rattle.paper.specs.Width.{link_width, place_width, span_width}
use Rattle.paper.specs.Map.{Owned, Dart, Map, with_row, owned_of, no_dart, count, dart, owned}
use Rattle.paper.specs.Below.{list_below}
use Rattle.paper.specs.Orbit.{marked, size, orbit}
use Rattle.paper.specs.Cell.{cell, top}
use Rattle.paper.specs.Edit.{remade, respanned}
use Rattle.paper.specs.Table.{link_at, place_at, span_at, table_of, links_table, places_table, spans_table, owned_at}
use Rattle.paper.specs.Step.{Maps, Room}
use Rattle.theory.specs.Local.{Local}
use Rattle.theory.proofs.Below.{list_length, list_at}
use Rattle.theory.proofs.Valid.{local-valid, of-cell}
use Rattle.kernel.specs.Link.{alpha}
use Rattle.hold.specs.Hold.{HoldsPlan}
use Rattle.hold.specs.Rows.{rows_put}
use Rattle.hold.specs.Stand.{PlanStands}
use Rattle.hold.proofs.Rows.{table-own, table_same, table-rows}
use Rattle.hold.proofs.Stand.{plan-reads, plan-has-room}
use Rattle.orbit.specs.Sparse.{queue}
use Rattle.orbit.specs.Flood.{axes, Ready, Listed}
use Rattle.orbit.proofs.Held.{cell-held}
use Rattle.orbit.proofs.Listed.{listed-marked, stands-ready}
use Rattle.respan.specs.Splice.{row_number, respliced}
use Rattle.respan.specs.Cell.{Rows, Respanned}
use Rattle.respan.specs.declared.splice.Splice.{Splice}

module _ (M : Map) (d : ℕ) (f : List Owned → List Owned) where
  abbrev N : Map
  N = respanned M d f

  abbrev marks : ℕ → Bool
  marks e = marked (top M d) e

  abbrev new : ℕ → Dart
  new e = with_row (cond (marks e) (f (owned M e)) (owned M e)) (dart M e)

  dims : N.dim ≡ M.dim
  unfolding respanned remade
  dims = refl

  darts : count N ≡ count M
  unfolding respanned remade
  darts = list_length (count M) new

  each : (e : ℕ) → e < count M → dart N e ≡ new e
  unfolding respanned remade
  each e h = list_at (count M) new no_dart e h

  same-links : (len : ℕ) → links_table N len ≡ links_table M len
  same-links len = ap (λ (k : ℕ). table_of link_width k (link_at N) 0 len) darts ∙ table_same 0 link_width (count M) (link_at N) (link_at M) len (lit< tt) same
    where
      same : (e i : ℕ) → e < count M → i < link_width → link_at N e i ≡ link_at M e i
      same e i h _ = unfold link_at in λ k. cond (leb i (dims k)) (get_or (each e h k).links i 0) e

  same-places : (len : ℕ) → places_table N len ≡ places_table M len
  same-places len = ap (λ (k : ℕ). table_of place_width k (place_at N) (pos 0) len) darts ∙ table_same (pos 0) place_width (count M) (place_at N) (place_at M) len (lit< tt) same
    where
      same : (e x : ℕ) → e < count M → x < place_width → place_at N e x ≡ place_at M e x
      same e x h _ = unfold place_at in λ k. get_or (each e h k).place x (pos 0)

  -- the numbers of a row, replaced or not; a top cell has one row
  number-at : Local M → d < count M → (e q : ℕ) → e < count M → span_at N e q ≡ cond (marks e) (row_number (f (owned M d)) q) (span_at M e q)
  unfolding span_at row_number
  number-at L h e q g = ap (λ x. row_number (owned_of x) q) (each e g) ∙ go (marks e) refl
    where
      go : (b : Bool) → marks e ≡ b → row_number (cond b (f (owned M e)) (owned M e)) q ≡ cond b (row_number (f (owned M d)) q) (row_number (owned M e) q)
      go true t = ap (λ r. row_number (f r) q) (sym ((local-valid M L).rows d e h (of-cell M L M.dim d e h g t)))
      go false t = refl

  module _ (L : Local M) {m n : ℕ} {ls : List ℕ} {ps ss : List ℤ} (H : HoldsPlan M m n ls ps ss) (room : n * span_width ≤ length ss) (h : d < n)
      (g : ℕ → ℤ) (numbers : (q : ℕ) → q < span_width → g q ≡ row_number (f (owned M d)) q) {w : List ℕ} {t : ℕ} (K : Listed n (top M d) w t) where
    abbrev put : List ℤ
    put = rows_put span_width (queue n w) g t ss

    within : {e : ℕ} → e < n → e < count M
    within {e} l = subst (λ (k : ℕ). e < k) (sym H.map.darts) l

    spans : put ≡ spans_table N (length ss)
    spans =
        ap (rows_put span_width (queue n w) g t) (H.spans ∙ ap (λ (k : ℕ). table_of span_width k (span_at M) (pos 0) (length ss)) H.map.darts)
        ∙ table-rows (pos 0) span_width n (span_at M) (length ss) (queue n w) g t (lit< tt) room K.set.below
        ∙ table_same (pos 0) span_width n _ (span_at N) (length ss) (lit< tt)
        (λ e q a b. (λ k. cond (listed-marked K e a k) (numbers q b k) (span_at M e q)) ∙ sym (number-at L (within h) e q (within a)))
        ∙ ap (λ (k : ℕ). table_of span_width k (span_at N) (pos 0) (length ss)) (sym (darts ∙ H.map.darts))

    pub respanned-holds : HoldsPlan N m n ls ps put
    respanned-holds = record {
      map = record {
        dims = dims ∙ H.map.dims;
        darts = darts ∙ H.map.darts;
        links = H.map.links ∙ sym (same-links (length ls));
        places = H.map.places ∙ sym (same-places (length ps));
      };
      spans = table-own (pos 0) span_width (count N) (span_at N) (length ss) spans;
    }

pub respan-asks : {R : Room} {s : Maps} {m n : ℕ} {ls : List ℕ} {ps ss : List ℤ} {w : List ℕ} → PlanStands R s m n ls ps ss (length w) → Ready m n ls w × Rows n ss
respan-asks P = (stands-ready P, record { long = (plan-has-room P).spans; each = (plan-reads P).rows })

module _ {R : Room} {s : Maps} {m n : ℕ} {ls : List ℕ} {ps ss : List ℤ} {w : ℕ} (P : PlanStands R s m n ls ps ss w) where
  module _ {wl : List ℕ} (Y : Ready m n ls wl) (d : ℕ) (h : d < n) (x : Splice) (f : List Owned → List Owned)
      (e : f (owned s.plan d) ≡ respliced x (owned s.plan d)) where
    abbrev M : Map
    M = s.plan

    same : owned_at ss d ≡ owned M d
    same = sym ((plan-reads P).same d h)

    pub cell-spliced : (r : List ℤ) → r ≡ list_below span_width (row_number (respliced x (owned_at ss d))) → {w' : List ℕ} {t : ℕ} → Listed n (orbit (alpha ls) m (axes m (m + 1)) n d) w' t
        → {ss' : List ℤ} → ss' ≡ rows_put span_width (queue n w') (λ q. get_or r q (pos 0)) t ss → Respanned M d f t m n ls ps ss'
    cell-spliced r k {w'} {t} K {ss'} u =
        let c : orbit (alpha ls) m (axes m (m + 1)) n d ≡ top M d = cell-held M m n ls (plan-reads P).holds Y.links m d h ∙ ap (λ (i : ℕ). cell M i d) (sym P.held.map.dims) in
        let K' = subst (λ ms. Listed n ms w' t) c K in
        record {
          value = K'.many ∙ ap (λ (i : ℕ). size i (top M d)) (sym P.held.map.darts);
          plan =
              subst (λ l. HoldsPlan (respanned M d f) m n ls ps l) (sym u)
              (respanned-holds M d f P.good.plan P.held (plan-has-room P).spans h (λ q. get_or r q (pos 0))
              (λ q l. ap (λ l. get_or l q (pos 0)) k ∙ list_at span_width (row_number (respliced x (owned_at ss d))) (pos 0) q l ∙ ap (λ t. row_number (respliced x t) q) same ∙ ap (λ t. row_number t q) (sym e)) K');
        }
