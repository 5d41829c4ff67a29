-- ADOPT: what it asks follows from what a run leaves, and what it leaves.
--     adopt-asks       the tables as a run leaves them may be adopted
--     adopted-done     what it leaves where it is accepted
use Rattle.std.proofs.Common.{◌≡◌, ℕ, ◌*◌, ◌<◌, ◌≤◌, true, false, cond, leb, ◌⊎◌, List, [], length, get_or, ℤ, pos, sym, refl, ap, ◌∙◌, subst, ⊎_elim, zero-le, le_trans, mul-le-mul_right, arith, lit<, leb-true}
use Rattle.paper.specs.Width.{link_width, place_width, span_width}
use Rattle.paper.specs.Map.{Map, count, link, owned}
use Rattle.paper.specs.Table.{link_at, place_at, span_at, table_of, links_table, places_table, lent, lengths, lent_lifted}
use Rattle.paper.specs.Edit.{adopted}
use Rattle.paper.specs.Refusal.{answer, judge}
use Rattle.paper.specs.Step.{Maps, Room, refusals, effect, value}
use Rattle.paper.specs.declared.Command.TheVariants.{Adopt}
use Rattle.theory.specs.Local.{Local}
use Rattle.theory.proofs.Bool.{decided}
use Rattle.theory.proofs.Grow.{adopted-told}
use Rattle.kernel.specs.Blank.{filled}
use Rattle.hold.specs.Hold.{HoldsPlan}
use Rattle.hold.specs.Stand.{PlanStands, LiftedStands, Edited}
use Rattle.hold.proofs.Rows.{table-own, table_none, table_same, table-clear}
use Rattle.hold.proofs.Room.{plan-room}
use Rattle.hold.proofs.Tables.{bare-spans}
use Rattle.hold.proofs.Stand.{edit-accepted, plan-has-room, lifted-has-room}
use Rattle.sides.specs.Rows.{rows_taken}
use Rattle.sides.specs.Adopt.{Adoptable}
use Rattle.sides.proofs.Taken.{rows-taken}

pub adopt-asks : {R : Room} {s : Maps} {m n lm ln : ℕ} {ls : List ℕ} {ps ss : List ℤ} {w : ℕ} {ol : List ℕ} {op : List ℤ} {oo : List ℕ} {v room : ℕ}
    → PlanStands R s m n ls ps ss w → LiftedStands R s lm ln (lent_lifted ol op oo v) → R.plan ≡ room → Adoptable ls ps ss n ol op ln room
adopt-asks {ls = ls} {ps} {ss} {w} {room = room} P L e =
    let H = plan-has-room P in
    let K = lifted-has-room L in
    let A = plan-room (lengths (lent ls ps ss w)) room (let r = P.room in omega arith) in
    record {
      few = H.few;
      roomy = A.few;
      spans = H.spans;
      links_room = A.links;
      places_room = A.places;
      lifted_links = K.links;
      lifted_places = K.places;
    }

-- ---- the tables of an adopted map
module _ (L : Map) (G : Local L) where
  same_count : count (adopted L) ≡ count L
  same_count = (adopted-told L G).darts

  same-dim : (adopted L).dim ≡ L.dim
  same-dim = (adopted-told L G).dims

  adopted-links : (len : ℕ) → links_table (adopted L) len ≡ links_table L len
  adopted-links len =
      ap (λ (k : ℕ). table_of link_width k (link_at (adopted L)) 0 len) same_count
      ∙ table_same 0 link_width (count L) (link_at (adopted L)) (link_at L) len (lit< tt) (λ d q h _. at d q h (decided (leb q L.dim)))
    where
      at : (d q : ℕ) → d < count L → (leb q L.dim ≡ true) ⊎ (leb q L.dim ≡ false) → link_at (adopted L) d q ≡ link_at L d q
      at d q h c = unfold link_at in
          ap (λ (m : ℕ). cond (leb q m) (link (adopted L) q d) d) same-dim
          ∙ ⊎_elim (λ t. rw t ((adopted-told L G).links q d h (leb-true q L.dim t))) (λ t. rw t refl) c

  adopted-places : (len : ℕ) → places_table (adopted L) len ≡ places_table L len
  adopted-places len =
      ap (λ (k : ℕ). table_of place_width k (place_at (adopted L)) (pos 0) len) same_count
      ∙ table_same (pos 0) place_width (count L) (place_at (adopted L)) (place_at L) len (lit< tt) (λ d q h _. at d q h)
    where
      at : (d q : ℕ) → d < count L → place_at (adopted L) d q ≡ place_at L d q
      at d q h = unfold place_at in ap (λ p. get_or p q (pos 0)) ((adopted-told L G).places d h)

  bare : (d : ℕ) → d < count (adopted L) → owned (adopted L) d ≡ []
  bare d h = (adopted-told L G).rows d (subst (λ (k : ℕ). d < k) same_count h)

-- ---- what is left
module _ {R : Room} {s : Maps} {m n lm ln : ℕ} {ls : List ℕ} {ps ss : List ℤ} {w : ℕ} {ol : List ℕ} {op : List ℤ} {oo : List ℕ} {v : ℕ}
    (P : PlanStands R s m n ls ps ss w) (L : LiftedStands R s lm ln (lent_lifted ol op oo v)) where
  abbrev M : Map
  M = s.lifted

  holds : {ls' : List ℕ} {ps' ss' : List ℤ} → ln * link_width ≤ length ls → ln * link_width ≤ length ol
      → ln * place_width ≤ length ps → ln * place_width ≤ length op → n * span_width ≤ length ss
      → ls' ≡ rows_taken 0 link_width n ln ol ls → ps' ≡ rows_taken (pos 0) place_width n ln op ps → ss' ≡ filled (pos 0) 0 (n * span_width) ss
      → HoldsPlan (adopted M) lm ln ls' ps' ss'
  holds {ls'} {ps'} {ss'} b c e f g x y z =
      let G = L.good.lifted in
      let H = P.held.map in
      let K = L.held.map in
      record {
        map = record {
          dims = same-dim M G ∙ K.dims;
          darts = same_count M G ∙ K.darts;
          links =
              table-own 0 link_width (count (adopted M)) (link_at (adopted M)) (length ls)
              (rows-taken 0 link_width n ln (link_at s.plan) (link_at M) (lit< tt) H.darts H.links b ol K.darts c K.links x
              ∙ ap (λ (k : ℕ). table_of link_width k (link_at M) 0 (length ls)) (sym K.darts) ∙ sym (adopted-links M G (length ls)));
          places =
              table-own (pos 0) place_width (count (adopted M)) (place_at (adopted M)) (length ps)
              (rows-taken (pos 0) place_width n ln (place_at s.plan) (place_at M) (lit< tt) H.darts H.places e op K.darts f K.places y
              ∙ ap (λ (k : ℕ). table_of place_width k (place_at M) (pos 0) (length ps)) (sym K.darts) ∙ sym (adopted-places M G (length ps)));
        };
        spans =
            table-own (pos 0) span_width (count (adopted M)) (span_at (adopted M)) (length ss)
            (z ∙ ap (λ t. filled (pos 0) 0 (n * span_width) t) (P.held.spans ∙ ap (λ (k : ℕ). table_of span_width k (span_at s.plan) (pos 0) (length ss)) H.darts)
            ∙ table-clear (pos 0) span_width n (span_at s.plan) (length ss) 0 (lit< tt) zero-le g ∙ table_none (pos 0) span_width (span_at s.plan) (length ss)
            ∙ sym (bare-spans (adopted M) (length ss) (bare M G)));
      }

  pub adopted-done : {ls' : List ℕ} {ps' ss' : List ℤ} {room : ℕ} → Adoptable ls ps ss n ol op ln room → ln ≤ room → 0 ≡ (judge 0 (refusals R s Adopt)).number
      → ls' ≡ rows_taken 0 link_width n ln ol ls → ps' ≡ rows_taken (pos 0) place_width n ln op ps → ss' ≡ filled (pos 0) 0 (n * span_width) ss
      → Edited R s Adopt (answer 0 ln) lm ln ls' ps' ss'
  unfolding effect value
  adopted-done A l q x y z =
      edit-accepted R s Adopt
      (holds (le_trans (mul-le-mul_right link_width l) A.links_room) A.lifted_links (le_trans (mul-le-mul_right place_width l) A.places_room) A.lifted_places A.spans x y z)
      (sym q) (ap (answer 0) (sym L.held.map.darts))
