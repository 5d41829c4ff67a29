-- What follows of tables that hold a map, or in which one can be read.
--     map-links        the links of a map that tables hold can be read
--     bare-fit         objects fit where every row of a map is empty
--     bare-plan        with a table of spans that is all 0 they hold a plan, where every row of the map is empty
--     blank-holds      tables blanked from the start hold the blank map
--     reads-row        rows that can be read, without their objects
--     reads-order      they are in order
--     raw-reads        raw tables with good counts, of a valid map: its links and rows can be read
--     accepted-reads   so those of tables that the check accepts
--     holds-map        tables that hold a valid plan, within capacity: it is the map that raw tables are read as
--     holds-reads, holds-accepted, holds-checked     so its links and rows can be read, and where its objects fit the check accepts it
use Rattle.std.proofs.Common.{◌≡◌, ℕ, ◌-◌, ◌*◌, ◌<◌, ◌≤◌, true, List, [], length, get_or, replicate, ℤ, pos, sym, refl, ap, ◌∙◌, subst, le_trans, arith}
use mathlib.Core.List.Memᴰ
use lib.ListN.{length-replicate}
use Rattle.paper.specs.Width.{link_width, place_width, span_width, dim_limit}
use Rattle.paper.specs.Map.{Map, spans_of, count, owned, row, blank}
use Rattle.paper.specs.Span.{ordered}
use Rattle.paper.specs.Valid.{Valid}
use Rattle.paper.specs.Table.{Tables, count_fits, link_at, place_at, span_at, table_of, spans_table, row_at, map_of, lent, lengths}
use Rattle.paper.specs.Refusal.{answer}
use Rattle.paper.specs.Call.{capacity, check}
use Rattle.theory.specs.Member.{◌∈◌}
use Rattle.theory.specs.Fit.{ObjectsFit}
use Rattle.theory.specs.Accepted.{Accepted}
use Rattle.theory.proofs.Table.{held-dim, held-count, held_link, held-owned}
use Rattle.theory.proofs.Valid.{valid-local}
use Rattle.theory.proofs.Check.{valid-check}
use Rattle.kernel.specs.Blank.{blanked}
use Rattle.kernel.specs.Link.{alpha}
use Rattle.hold.specs.Hold.{HoldsMap, HoldsPlan, HasLinks, Reads}
use Rattle.hold.proofs.Rows.{table_none}
use Rattle.hold.proofs.Room.{plan-room}
use Rattle.hold.proofs.Tables.{links-at, spans-counted, bare-spans, tables-map}

-- ---- a side without spans
pub bare-fit : (M : Map) → ((d : ℕ) → d < count M → owned M d ≡ []) → ObjectsFit M
bare-fit M bare d h x w = absurd (Memᴰ.not-nil (subst (λ r. x ∈ r) (bare d h) w))

module _ {M : Map} {m n : ℕ} {ls : List ℕ} {ps : List ℤ} (H : HoldsMap M m n ls ps) where
  pub map-links : m ≤ dim_limit → n * link_width ≤ length ls → HasLinks M m n ls
  map-links high room = record {
    dims = H.dims;
    darts = H.darts;
    links = λ j d h l. sym (ap (λ t. alpha t j d) H.links ∙ links-at M (length ls) j d (rw H.dims high) (rw H.darts room) (rw H.darts h) (rw H.dims l));
  }

  pub bare-plan : (c : ℕ) → ((d : ℕ) → d < count M → owned M d ≡ []) → HoldsPlan M m n ls ps (replicate c (pos 0))
  bare-plan c bare = record { map = H; spans = sym (ap (spans_table M) (length-replicate c (pos 0)) ∙ bare-spans M c bare) }

pub blank-holds : (ls : List ℕ) (ps ss : List ℤ) → HoldsPlan blank 0 0 (blanked 0 0 ls) (blanked (pos 0) 0 ps) (blanked (pos 0) 0 ss)
blank-holds ls ps ss = record {
  map = record { dims = refl; darts = refl; links = none 0 link_width (link_at blank) (length ls - 0); places = none (pos 0) place_width (place_at blank) (length ps - 0) };
  spans = none (pos 0) span_width (span_at blank) (length ss - 0);
}
  where
    none : {A : Type 0} (z : A) (w : ℕ) (f : ℕ → ℕ → A) (k : ℕ) → replicate k z ≡ table_of w 0 f z (length (replicate k z))
    none z w f k = sym (ap (table_of w 0 f z) (length-replicate k z) ∙ table_none z w f k)

-- ---- raw tables
pub reads-row : {M : Map} {m n : ℕ} {ls : List ℕ} {ss : List ℤ} → Reads M m n ls ss → (e : ℕ) → e < n → row M e ≡ row_at ss e
reads-row R e h = ap spans_of (R.same e h)

pub reads-order : {M : Map} {m n : ℕ} {ls : List ℕ} {ss : List ℤ} → Reads M m n ls ss → (e : ℕ) → e < n → ordered (row_at ss e) ≡ true
reads-order R e h = ap ordered (sym (reads-row R e h)) ∙ R.valid.order e (rw R.holds.darts h)

module _ (ls : List ℕ) (ps ss : List ℤ) (m n w : ℕ) where
  abbrev T : Tables
  T = record { links = ls; places = ps; spans = ss; work = w }

  pub raw-reads : n ≤ capacity T → ((d : ℕ) → d < n → count_fits (get_or ss (d * span_width) (pos 0)) ≡ true)
      → Valid (map_of ls ps ss m n) → Reads (map_of ls ps ss m n) m n ls ss
  raw-reads fits counts A =
      let R = plan-room (lengths (lent ls ps ss w)) n fits in
      let few = R.few in
      record {
        holds = record { dims = held-dim ls ps ss m n; darts = held-count ls ps ss m n; links = held_link ls ps ss m n };
        valid = valid-local (map_of ls ps ss m n) A;
        same = held-owned ls ps ss m n;
        rows = λ e h. record { few = omega arith; fits = le_trans (omega arith) R.spans; counted = counts e h };
        few = few;
      }

  pub accepted-reads : Accepted T m n → Reads (map_of ls ps ss m n) m n ls ss
  accepted-reads A = raw-reads A.fits A.counts A.valid

  -- ---- a plan
  module _ {M : Map} (H : HoldsPlan M m n ls ps ss) (A : Valid M) (high : m ≤ dim_limit) (fits : n ≤ capacity T) where
    pub holds-map : map_of ls ps ss m n ≡ M
    holds-map =
        let R = plan-room (lengths (lent ls ps ss w)) n fits in
        let X = H.map in
        (λ k. map_of (X.links k) (X.places k) (H.spans k) (sym X.dims k) (sym X.darts k))
        ∙ tables-map M A (rw X.dims high) (length ls) (length ps) (length ss) (rw X.darts R.links) (rw X.darts R.places) (rw X.darts R.spans)

    counts : (d : ℕ) → d < n → count_fits (get_or ss (d * span_width) (pos 0)) ≡ true
    counts d h =
        let R = plan-room (lengths (lent ls ps ss w)) n fits in
        let g : d < count M = rw H.map.darts h in
        ap (λ t. count_fits (get_or t (d * span_width) (pos 0))) H.spans ∙ spans-counted M (length ss) d (A.short d g) g (rw H.map.darts R.spans)

    valid : Valid (map_of ls ps ss m n)
    valid = subst Valid (sym holds-map) A

    pub holds-reads : Reads M m n ls ss
    holds-reads = subst (λ X. Reads X m n ls ss) holds-map (raw-reads fits counts valid)

    pub holds-accepted : ObjectsFit M → 1 ≤ m → Accepted T m n
    holds-accepted F low = record { low = low; high = high; fits = fits; counts = counts; objects = subst ObjectsFit (sym holds-map) F; valid = valid }

    pub holds-checked : ObjectsFit M → 1 ≤ m → check T m n ≡ answer 0 0
    holds-checked F low = valid-check T m n (holds-accepted F low)
