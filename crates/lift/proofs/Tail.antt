-- What a lift leaves: its rows, and 0 past them.
--     raised-written, raised-over      the rows of a lift that fits are written; of one that does not, nothing
--     blank-held       tables that hold a map, and an object for each dart, are 0 behind its rows
--     blank-all        all tables are behind more rows than they have
--     lifted-cleared   where what stood behind the rows is cleared, the tables are those of the lifted map
--     lifted-kept      likewise where the rows reach as far as those that were in use: there is nothing to clear
--     lifted-none      nothing was written: there is nothing to clear
use Rattle.std.proofs.Common.{◌≡◌, ℕ, ◌+◌, ◌*◌, ◌<◌, ◌≤◌, List, length, get_or, pos, sym, refl, ap, ◌∙◌, le_trans, le_refl, mul-le-mul_right, arith, lit<}
use lib.ListN.{length-map, get_or-eq_default}
use lib.Arith.{digits_lt}
use Rattle.kernel.specs.Copy.{copied}
use Rattle.kernel.specs.Tail.{tail_cleared}
use Rattle.paper.specs.Width.{link_width, place_width, object_width}
use Rattle.paper.specs.Map.{Map, count}
use Rattle.paper.specs.Lift.{lifted_darts, lift, carried, carried_objects}
use Rattle.paper.specs.Table.{LiftedTables, lent_lifted, lifted_lengths, link_at, place_at, table_of, links_table, places_table, objects_table, lifted_tables}
use Rattle.theory.proofs.LiftValid.{lift-count}
use Rattle.hold.specs.Hold.{HoldsLifted}
use Rattle.hold.specs.Room.{LiftedHasRoom}
use Rattle.kernel.proofs.Copied.{copied-length, copied-before, copied-past}
use Rattle.hold.proofs.Rows.{table-length, table_at, table-whole, held-past, table-tail}
use Rattle.hold.proofs.Objects.{object_in, objects-table}
use Rattle.lift.specs.Lifted.{links_put, places_put, objects_put, lift_put, Raised, BlankPast, Lifted}

-- ---- tables of rows
module _ {A : Type 0} (z : A) (w : ℕ) (p : 0 < w) where
  -- a table of k rows, put over the first ones of another that is z behind row old, and what it had behind them cleared
  put-cleared : (k old : ℕ) (g : ℕ → ℕ → A) (l : List A) → k * w ≤ length l → ((i : ℕ) → old * w ≤ i → get_or l i z ≡ z)
      → tail_cleared z w k old (copied (k * w) (table_of w k g z (k * w)) l) ≡ table_of w k g z (length l)
  put-cleared k old g l h past =
      let e = table-length z w k g (k * w) in
      table-tail z w k old g (table_of w k g z (k * w)) l p (omega arith) h (λ d q a b. table_at z w k g (k * w) d q (le_refl (k * w)) a b) past

  -- likewise where nothing stood behind them
  put-kept : (k old : ℕ) (g : ℕ → ℕ → A) (s l : List A) → k * w ≤ length s → k * w ≤ length l → old ≤ k → ((d q : ℕ) → d < k → q < w → get_or s (d * w + q) z ≡ g d q)
      → ((i : ℕ) → old * w ≤ i → get_or l i z ≡ z) → copied (k * w) s l ≡ table_of w k g z (length l)
  put-kept k old g s l x y h has past =
      table-whole z w k g (copied (k * w) s l) p
      (λ d q a b. copied-before z (k * w) s l x (d * w + q) (digits_lt a b) ∙ has d q a b)
      (λ i a. copied-past z (k * w) s l x i a ∙ past i (le_trans (mul-le-mul_right w h) a))
      ∙ ap (table_of w k g z) (copied-length z (k * w) s l x y)

-- objects put over the first ones of a table, likewise
objects-cleared : (l : List ℕ) (old : ℕ) (o : List ℕ) → length l ≤ length o → ((i : ℕ) → old * object_width ≤ i → get_or o i 0 ≡ 0)
    → tail_cleared 0 object_width (length l) old (objects_put l o) ≡ objects_table l (length o)
objects-cleared l old o h past =
    let e : length l ≡ length l * object_width = omega arith in
    ap (λ (k : ℕ). tail_cleared 0 object_width (length l) old (copied k l o)) e
    ∙ table-tail 0 object_width (length l) old (object_in l) l o (lit< tt) (omega arith) (omega arith)
    (λ d q a b. let z : d * object_width + q ≡ d = omega arith in ap (λ (i : ℕ). get_or l i 0) z) past
    ∙ sym (objects-table l (length o))

objects-kept : (l : List ℕ) (old : ℕ) (o : List ℕ) → length l ≤ length o → old ≤ length l → ((i : ℕ) → old * object_width ≤ i → get_or o i 0 ≡ 0)
    → objects_put l o ≡ objects_table l (length o)
objects-kept l old o h k past =
    let e : length l ≡ length l * object_width = omega arith in
    ap (λ (k : ℕ). copied k l o) e
    ∙ put-kept 0 object_width (lit< tt) (length l) old (object_in l) l o (omega arith) (omega arith) k
    (λ d q a b. let z : d * object_width + q ≡ d = omega arith in ap (λ (i : ℕ). get_or l i 0) z) past
    ∙ sym (objects-table l (length o))

objects-length : (M : Map) → length (carried_objects M) ≡ length (lifted_darts M)
unfolding carried_objects
objects-length M = length-map (lifted_darts M) (carried M)

pub blank-held : {L : Map} {l : List ℕ} {m n : ℕ} {O : LiftedTables} → HoldsLifted L l m n O → length l ≡ n → BlankPast n O
blank-held {L} {l} {m} {n} {O} H e = record {
  links = held-past 0 link_width n (link_at L) (lit< tt) H.map.darts H.map.links;
  places = held-past (pos 0) place_width n (place_at L) (lit< tt) H.map.darts H.map.places;
  objects = held-past 0 object_width n (object_in l) (lit< tt) e (H.objects ∙ objects-table l (length O.objects));
}

-- past more rows than a table can have there is nothing
pub blank-all : (O : LiftedTables) {rows : ℕ} → length O.links ≤ rows → length O.places ≤ rows → length O.objects ≤ rows → BlankPast rows O
blank-all O a b c = record {
  links = λ i h. get_or-eq_default O.links 0 (omega arith);
  places = λ i h. get_or-eq_default O.places (pos 0) (omega arith);
  objects = λ i h. get_or-eq_default O.objects 0 (omega arith);
}

module _ (M : Map) where
  abbrev N : ℕ
  N = length (lifted_darts M)

  module _ {room : ℕ} {O : LiftedTables} where
    -- ---- the rows
    pub raised-written : {r : ℕ} {O' : LiftedTables} → N ≤ room → r ≡ N → O' ≡ lift_put (lift M) (carried_objects M) O → Raised M room O r O'
    raised-written h e p = record { count = λ _. e; tables = λ _. p; over = λ x. absurd (no x); stay = λ x. absurd (no x) }
      where
        no : room < N → ⊥
        no x = omega arith

    pub raised-over : room < N → {O' : LiftedTables} → O' ≡ O → Raised M room O (room + 1) O'
    raised-over h e = record { count = λ x. absurd (no x); tables = λ x. absurd (no x); over = λ _. refl; stay = λ _. e }
      where
        no : N ≤ room → ⊥
        no x = omega arith

    -- ---- 0 past them
    module _ {r : ℕ} {O₁ : LiftedTables} (X : Raised M room O r O₁) where
      pub lifted-none : room < r → {old : ℕ} → Lifted M room old O r O₁
      lifted-none h = record { count = X.count; tables = λ x. absurd (no x); over = X.over; stay = X.stay }
        where
          no : N ≤ room → ⊥
          no x = let q = X.count x in omega arith

      pub lifted-cleared : r ≤ room → LiftedHasRoom (lifted_lengths O) room → {old : ℕ} {O' : LiftedTables}
          → O'.links ≡ tail_cleared 0 link_width r old O₁.links → O'.places ≡ tail_cleared (pos 0) place_width r old O₁.places
          → O'.objects ≡ tail_cleared 0 object_width r old O₁.objects → O'.work ≡ O.work → Lifted M room old O r O'
      lifted-cleared h R {old} {O'} a b o c = record { count = X.count; tables = written; over = X.over; stay = λ x. absurd (no x) }
        where
          no : room < N → ⊥
          no x = let q = X.over x in omega arith

          same : N ≤ room → r ≡ count (lift M)
          same x = let q = X.count x in let d = lift-count M in omega arith

          links : N ≤ room → BlankPast old O → O'.links ≡ links_table (lift M) (length O.links)
          links x B =
              let k = R.links in
              let e = same x in
              a ∙ (λ i. tail_cleared 0 link_width (e i) old (X.tables x i).links)
              ∙ put-cleared 0 link_width (lit< tt) (count (lift M)) old (link_at (lift M)) O.links (omega arith) B.links

          places : N ≤ room → BlankPast old O → O'.places ≡ places_table (lift M) (length O.places)
          places x B =
              let k = R.places in
              let e = same x in
              b ∙ (λ i. tail_cleared (pos 0) place_width (e i) old (X.tables x i).places)
              ∙ put-cleared (pos 0) place_width (lit< tt) (count (lift M)) old (place_at (lift M)) O.places (omega arith) B.places

          objects : N ≤ room → BlankPast old O → O'.objects ≡ objects_table (carried_objects M) (length O.objects)
          objects x B =
              let k = R.objects in
              let l = carried_objects M in
              let e : r ≡ length l = X.count x ∙ sym (objects-length M) in
              o ∙ (λ i. tail_cleared 0 object_width (e i) old (X.tables x i).objects) ∙ objects-cleared l old O.objects (let z = X.count x in omega arith) B.objects

          written : N ≤ room → BlankPast old O → O' ≡ lifted_tables (lift M) (carried_objects M) (lifted_lengths O)
          written x B = λ i. lent_lifted (links x B i) (places x B i) (objects x B i) (c i)

      pub lifted-kept : r ≤ room → LiftedHasRoom (lifted_lengths O) room → {old : ℕ} → old ≤ r → Lifted M room old O r O₁
      lifted-kept h R {old} o = record { count = X.count; tables = written; over = X.over; stay = X.stay }
        where
          rows : N ≤ room → (count (lift M) ≤ room) × (old ≤ count (lift M))
          rows x = let q = X.count x in let d = lift-count M in (omega arith, omega arith)

          links : N ≤ room → BlankPast old O → links_put (lift M) O.links ≡ links_table (lift M) (length O.links)
          links x B =
              let n = count (lift M) in
              let k = R.links in
              let c = (rows x).0 in
              let e = table-length 0 link_width n (link_at (lift M)) (n * link_width) in
              put-kept 0 link_width (lit< tt) n old (link_at (lift M)) (links_table (lift M) (n * link_width)) O.links (omega arith) (omega arith) (rows x).1
              (λ d q a b. table_at 0 link_width n (link_at (lift M)) (n * link_width) d q (le_refl (n * link_width)) a b) B.links

          places : N ≤ room → BlankPast old O → places_put (lift M) O.places ≡ places_table (lift M) (length O.places)
          places x B =
              let n = count (lift M) in
              let k = R.places in
              let c = (rows x).0 in
              let e = table-length (pos 0) place_width n (place_at (lift M)) (n * place_width) in
              put-kept (pos 0) place_width (lit< tt) n old (place_at (lift M)) (places_table (lift M) (n * place_width)) O.places (omega arith) (omega arith) (rows x).1
              (λ d q a b. table_at (pos 0) place_width n (place_at (lift M)) (n * place_width) d q (le_refl (n * place_width)) a b) B.places

          written : N ≤ room → BlankPast old O → O₁ ≡ lifted_tables (lift M) (carried_objects M) (lifted_lengths O)
          written x B =
              let k = R.objects in
              let l = objects-length M in
              let q = X.count x in
              X.tables x ∙ (λ i. lent_lifted (links x B i) (places x B i) (objects-kept (carried_objects M) old O.objects (omega arith) (omega arith) B.objects i) O.work)
