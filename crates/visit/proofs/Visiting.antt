-- What the calls of a visit ask, and what they leave.
--     stead-kept                   of the tables that are written only the lengths matter
--     visit-bases                  room for the bases
--     visit-pieces, top-pieces     the pieces of a dart: those that the ends at hand cut out of its row; at the top its spans
--     lay-places, lay-links        the block's places can be written, and its first row is there
--     lays                         the block is laid
--     link_row, link-told          where a block that is laid tells how many pieces it has, and what it tells
--     link-wire, wire-room         then its links
--     linking                      the block is linked
use Rattle.std.proofs.Common.{◌≡◌, ℕ, suc, ◌+◌, ◌-◌, ◌*◌, ◌<◌, ◌≤◌, List, length, get_or, set, ℤ, sym, refl, ap, ◌∙◌, subst, arith, get_or-set_other, get_or-set_same}
use Rattle.paper.specs.Width.{link_width, place_width, dart_limit}
use Rattle.paper.specs.Map.{Map, Span}
use Rattle.paper.specs.Ends.{stretches, covered_by}
use Rattle.paper.specs.Table.{row_at}
use Rattle.number.specs.Count.{piece_count}
use Rattle.number.specs.First.{pieces_at, first}
use Rattle.number.proofs.First.{first_next}
use Rattle.number.proofs.Top.{pieces-top}
use Rattle.ends.specs.Key.{ends_at}
use Rattle.base.specs.Base.{slot, base, Bases}
use Rattle.places.specs.Write.{pieces_in, coord_at, put_pieces, Writable, Placed}
use Rattle.places.proofs.Read as read
use Rattle.over.specs.Over.{link_of}
use Rattle.visit.specs.Block.{Outside, PlacedAt, Lays, Wired, Connected}
use Rattle.visit.specs.Stead.{Stead}
use Rattle.visit.specs.Visit.{Layable, LayableBy, Wireable, Linkable}
use Rattle.hold.proofs.Hold.{reads-row}
use Rattle.visit.proofs.Blocks.{placed_at, block_room}

pub stead-kept : {M : Map} {m n : ℕ} {links : List ℕ} {places spans : List ℤ} {w w' : List ℕ} {op op' : List ℤ} {ol ol' : List ℕ} {room : ℕ}
    → length w' ≡ length w → length op' ≡ length op → length ol' ≡ length ol
    → Stead M m n links places spans w op ol room → Stead M m n links places spans w' op' ol' room
stead-kept a b c S =
    let k = S.work in
    let p = S.lifted_places in
    let l = S.lifted_links in
    record {
      plan = S.plan;
      dims = S.dims;
      links_long = S.links_long;
      places_long = S.places_long;
      places_same = S.places_same;
      work = omega arith;
      fits = S.fits;
      few = S.few;
      lifted_places = omega arith;
      lifted_links = omega arith;
    }

pub visit-bases : {M : Map} {m n : ℕ} {links : List ℕ} {places spans : List ℤ} {w : List ℕ} {op : List ℤ} {ol : List ℕ} {room : ℕ}
    → Stead M m n links places spans w op ol room → Bases w n
visit-bases S = record { few = S.plan.few; long = S.work }

-- ---- the pieces of a dart
module _ {M : Map} {m n e : ℕ} {links : List ℕ} {places spans : List ℤ} {w : List ℕ} {op : List ℤ} {ol : List ℕ} {room : ℕ} (S : Stead M m n links places spans w op ol room) where
  pub visit-pieces : {k h half many : ℕ} {v : List ℕ} → LayableBy M m n e k h spans w v half many → pieces_in (row_at spans e) (ends_at v half many) ≡ pieces_at M e k
  visit-pieces A i = covered_by (sym (reads-row S.plan e A.here.dart) i) (stretches (A.ends i))

  pub top-pieces : {k : ℕ} → e < n → k ≡ m → row_at spans e ≡ pieces_at M e k
  top-pieces h p =
      sym (reads-row S.plan e h)
      ∙ sym (ap (pieces_at M e) (p ∙ sym S.plan.holds.dims) ∙ pieces-top M S.plan.valid e (subst (λ (c : ℕ). e < c) (sym S.plan.holds.darts) h))

-- ---- the block is laid
module _ {M : Map} {m n e k h : ℕ} {links : List ℕ} {places spans : List ℤ} {w : List ℕ} {op : List ℤ} {ol : List ℕ} {room : ℕ}
    (S : Stead M m n links places spans w op ol room) (A : Layable M m n e k h w) {P : List Span} (pieces-here : P ≡ pieces_at M e k) {x : ℕ} (ex : x ≡ base w n h e) where
  count-here : length P ≡ piece_count M e k
  unfolding piece_count
  count-here = ap length pieces-here

  first-here : x ≡ first M e k
  first-here = ex ∙ A.own

  fits : x + length P * 2 ≤ room
  fits = let a = block_room S e k A.dart A.level in rw (first-here, count-here) a

  pub lay-places : Writable op x P places e
  lay-places =
      let f = fits in
      let r = S.few in
      let p = S.places_long in
      let o = S.lifted_places in
      let h = A.dart in
      record { place = omega arith; few = omega arith; room = omega arith }

  module _ {c : ℕ} (ec : c ≡ length P) where
    -- rows are few, so that numbers fit
    pub lay-links : (x * link_width < length ol) × ((c < dart_limit) × (x < dart_limit))
    lay-links =
        let f = fits in
        let r = S.few in
        let l = S.lifted_links in
        let s = A.some in
        let d = count-here in
        (omega arith, (omega arith, omega arith))

    pub lays : {op₁ : List ℤ} {ol₁ : List ℕ} → op₁ ≡ put_pieces places e m P x op → ol₁ ≡ set ol (x * link_width) c → Lays M e k op ol op₁ ol₁
    lays {op₁} {ol₁} put tell = record {
      laid = record { placed = here.0; told = λ _. told };
      places_same = here.1;
      links_same = λ q b h o. ap (λ (l : List ℕ). link_of l q b) tell ∙ get_or-set_other ol (x * link_width) (q * link_width + b) c 0 (apart q b h o);
    }
      where
        wrote : Placed places e m P x op op₁
        wrote = subst (λ (o : List ℤ). Placed places e m P x op o) (sym put) (read.placed places e m P x op lay-places.room)

        here : PlacedAt M op₁ e k × ((q a : ℕ) → a < place_width → Outside M e k q → coord_at op₁ q a ≡ coord_at op q a)
        here = placed_at S e k x P A.dart first-here pieces-here wrote

        told : link_of ol₁ (first M e k) 0 ≡ piece_count M e k
        told =
            let f = first-here in
            let z : first M e k * link_width + 0 ≡ x * link_width = omega arith in
            ap (λ (l : List ℕ). link_of l (first M e k) 0) tell ∙ ap (λ (i : ℕ). get_or (set ol (x * link_width) c) i 0) z ∙ get_or-set_same ol (x * link_width) c 0 lay-links.0 ∙ ec ∙ count-here

        apart : (q b : ℕ) → b < link_width → ((0 < piece_count M e k) × ((q ≡ first M e k) × (b ≡ 0)) → ⊥) → q * link_width + b ≡ x * link_width → ⊥
        apart q b h o p = let f = first-here in o (A.some, (omega arith, omega arith))

-- ---- the block is linked
pub wire-room : {M : Map} {m n e k h x c : ℕ} {links : List ℕ} {places spans : List ℤ} {w : List ℕ} {op : List ℤ} {ol : List ℕ} {room : ℕ}
    → Stead M m n links places spans w op ol room → Wireable M m n e k h x c w op ol → x + 2 * c ≤ room
wire-room {e = e} {k = k} S A = let a = block_room S e k A.below.dart A.below.level in let b = A.first in let c = A.count in omega arith

module _ {M : Map} {m n e k h : ℕ} {links : List ℕ} {places spans : List ℤ} {w : List ℕ} {op : List ℤ} {ol : List ℕ} {room : ℕ}
    (S : Stead M m n links places spans w op ol room) (A : Linkable M m n e k h w op ol) {x : ℕ} (ex : x ≡ base w n h e) where
  first-row : x ≡ first M e k
  first-row = ex ∙ A.below.own e A.below.dart

  pub link_row : (x < dart_limit) × (x * link_width < length ol)
  link_row =
      let a = block_room S e k A.below.dart A.below.level in
      let b = A.some in
      let f = first-row in
      let r = S.few in
      let l = S.lifted_links in
      (omega arith, omega arith)

  module _ {c : ℕ} (ec : c ≡ get_or ol (x * link_width) 0) where
    link-told : c ≡ piece_count M e k
    link-told =
        let f = first-row in
        let z : x * link_width ≡ first M e k * link_width + 0 = omega arith in
        ec ∙ ap (λ (i : ℕ). get_or ol i 0) z ∙ A.laid.told A.some

    pub link-wire : Wireable M m n e k h x c w op ol
    link-wire = record { below = A.below; first = first-row; count = link-told; here = A.laid.placed }

    pub linking : {ol₁ w₁ : List ℕ} → Wired M e k ol ol₁ → w₁ ≡ set w (slot n (1 - h) e) (x + 2 * c) → Connected M n e k h op ol w ol₁ w₁
    linking W b = record {
      written = record {
        placed = A.laid.placed;
        inner = W.inner;
        touched = W.touched;
        own = W.own;
        joined = W.joined;
        places_same = λ q a _ _. refl;
        links_same = W.links_same;
      };
      base = b ∙ ap (λ (y : ℕ). set w (slot n (1 - h) e) y) next;
    }
      where
        next : x + 2 * c ≡ first M e (suc k)
        next = let a = first_next M e k in let b = first-row in let d = link-told in omega arith
