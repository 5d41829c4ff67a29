-- DART on tables: the row of links behind the last dart's.
--     dart-asks        what the function asks for holds of the plan's tables
--     table-zero       a table with one row more, of its own zeros
--     dart-holds       the tables with the row put hold the grown map
--     dart-done        so they are what the command leaves
use Rattle.std.proofs.Common.{◌≡◌, ℕ, zero, suc, ◌+◌, ◌*◌, ◌<◌, ◌≤◌, Bool, true, false, cond, ltb, leb, List, [], ◌∷◌, length, get_or, replicate, ℤ, pos, sym, refl, ap, ◌∙◌, subst, subst₂, ⊎_elim, le_refl, arith, lit<, le-ltb, lt-ltb}
use Rattle.paper.specs.Width.{link_width, place_width, span_width, dart_limit}
use Rattle.paper.specs.Map.{Owned, Map, count, link, place, owned}
use Rattle.paper.specs.Table.{numbers_of, table_of, links_table, lent, lengths}
use Rattle.paper.specs.Edit.{grown}
use Rattle.paper.specs.Refusal.{answer, judge}
use Rattle.paper.specs.Step.{Maps, Room, refusals, effect, value}
use Rattle.paper.specs.declared.Command.TheVariants as command
use Rattle.theory.specs.Local.{Local}
use Rattle.theory.specs.Told.{Told}
use Rattle.theory.proofs.Below.{less-cases}
use Rattle.theory.proofs.Grow.{grown-told}
use Rattle.hold.specs.Hold.{HoldsPlan}
use Rattle.hold.specs.Rows.{row_put}
use Rattle.hold.specs.Stand.{PlanStands, Edited}
use Rattle.hold.proofs.Room.{plan-room}
use Rattle.hold.proofs.Rows.{replicate-at, table_at, table-past, table-own, table_same, table-whole, table-length, table_more}
use Rattle.hold.proofs.Stand.{edit-accepted, plan-reads, plan-has-room}
use Rattle.edit.proofs.Told.{told-links, told-places, told-spans, held-told}

pub dart-asks : {R : Room} {s : Maps} {m n : ℕ} {ls : List ℕ} {ps ss : List ℤ} {w : ℕ} → PlanStands R s m n ls ps ss w
    → (n ≤ dart_limit) × (n < R.plan → suc n * link_width ≤ length ls)
dart-asks {n = n} {ls} {ps} {ss} {w} P = (
  (plan-has-room P).few,
  λ h. (plan-room (lengths (lent ls ps ss w)) (suc n) (subst (λ (k : ℕ). suc n ≤ k) P.room h)).links,
)

-- a table's row behind the last is one of z's
pub table-zero : {A : Type 0} (z : A) (w n : ℕ) (f g : ℕ → ℕ → A) (len : ℕ) → 0 < w → n * w ≤ len → ((d q : ℕ) → d < n → q < w → f d q ≡ g d q)
    → ((q : ℕ) → q < w → g n q ≡ z) → table_of w n f z len ≡ table_of w (suc n) g z len
table-zero z w n f g len p room same last =
    table-whole z w (suc n) g (table_of w n f z len) p rows (λ i h. table-past z w n f len i p (omega arith)) ∙ ap (table_of w (suc n) g z) (table-length z w n f len)
  where
    rows : (d q : ℕ) → d < suc n → q < w → get_or (table_of w n f z len) (d * w + q) z ≡ g d q
    rows d q a b = ⊎_elim
        (λ (e : d ≡ n). table-past z w n f len (d * w + q) p (rw e (omega arith)) ∙ sym (ap (λ (k : ℕ). g k q) e ∙ last q b))
        (λ (l : d < n). table_at z w n f len d q room l b ∙ same d q l b)
        (less-cases a)

module _ {M : Map} {m n : ℕ} {ls : List ℕ} {ps ss : List ℤ} (H : HoldsPlan M m n ls ps ss) (L : Local M) where
  -- the links, places and rows of the old darts, and of the new one
  abbrev γ : ℕ → ℕ → ℕ
  γ i d = cond (ltb d n) (link M i d) d

  abbrev p : ℕ → List ℤ
  p d = cond (ltb d n) (place M d) (replicate m (pos 0))

  abbrev r : ℕ → List Owned
  r d = cond (ltb d n) (owned M d) []

  grown-at : Told (grown M) m (suc n) γ p r
  grown-at = subst₂ (λ (a b : ℕ). Told (grown M) a (suc b) (λ i d. cond (ltb d b) (link M i d) d) (λ d. cond (ltb d b) (place M d) (replicate a (pos 0))) (λ d. cond (ltb d b) (owned M d) []))
      H.map.dims H.map.darts (grown-told M L)

  pub dart-holds : suc n * link_width ≤ length ls → n * place_width ≤ length ps → n * span_width ≤ length ss
      → {ls' : List ℕ} → ls' ≡ row_put link_width n (λ _. n) link_width ls → HoldsPlan (grown M) m (suc n) ls' ps ss
  unfolding numbers_of
  dart-holds a b c e = record {
    map = record {
      dims = X.dims;
      darts = X.darts;
      links = table-own 0 link_width (count (grown M)) _ (length ls) (e ∙ written);
      places =
          H.map.places ∙ told-places Y (length ps)
          ∙ table-zero (pos 0) place_width n _ _ (length ps) (lit< tt) b (λ d q h _. ap (coordinate q) (old (place M d) zeros d h)) (λ q _. ap (coordinate q) (new (place M n) zeros) ∙ replicate-at (pos 0) m q)
          ∙ sym (told-places X (length ps));
    };
    spans =
        H.spans ∙ told-spans Y (length ss)
        ∙ table-zero (pos 0) span_width n _ _ (length ss) (lit< tt) c (λ d q h _. ap (span_number q) (old (owned M d) [] d h)) (λ q _. ap (span_number q) (new (owned M n) []) ∙ none q)
        ∙ sym (told-spans X (length ss));
  }
    where
      zeros : List ℤ
      zeros = replicate m (pos 0)

      coordinate : ℕ → List ℤ → ℤ
      coordinate q l = get_or l q (pos 0)

      span_number : ℕ → List Owned → ℤ
      span_number q l = get_or (pos (length l) ∷ numbers_of l) q (pos 0)

      old : {A : Type 0} (x y : A) (d : ℕ) → d < n → x ≡ cond (ltb d n) x y
      old x y d h = rw (lt-ltb d n h) refl

      new : {A : Type 0} (x y : A) → cond (ltb n n) x y ≡ y
      new x y = rw (le-ltb n n (le_refl n)) refl

      none : (q : ℕ) → span_number q [] ≡ pos 0
      none zero = refl
      none (suc q) = refl

      each : (d i : ℕ) → d < suc n → cond (ltb d n) (cond (leb i m) (link M i d) d) n ≡ cond (leb i m) (γ i d) d
      each d i h = ⊎_elim (λ (e : d ≡ n). rw (le-ltb d n (omega arith)) (same d e (leb i m))) (λ (l : d < n). rw (lt-ltb d n l) refl) (less-cases h)
        where
          same : (d : ℕ) → d ≡ n → (b : Bool) → n ≡ cond b d d
          same d e true = sym e
          same d e false = sym e

      X : Told (grown M) m (suc n) γ p r
      X = grown-at

      Y : Told M m n (link M) (place M) (owned M)
      Y = held-told H.map L

      written : row_put link_width n (λ _. n) link_width ls ≡ links_table (grown M) (length ls)
      written =
          ap (row_put link_width n (λ _. n) link_width) (H.map.links ∙ told-links Y (length ls))
          ∙ table_more 0 link_width n (λ d i. cond (leb i m) (link M i d) d) (length ls) (λ _. n) (lit< tt) a
          ∙ table_same 0 link_width (suc n) _ (λ d i. cond (leb i m) (γ i d) d) (length ls) (lit< tt) (λ d i h _. each d i h)
          ∙ sym (told-links X (length ls))

module _ {R : Room} {s : Maps} {m n : ℕ} {ls : List ℕ} {ps ss : List ℤ} {w : ℕ} (P : PlanStands R s m n ls ps ss w) where
  pub dart-done : n < R.plan → (judge 0 (refusals R s command.Dart)).number ≡ 0 → {ls' : List ℕ} → ls' ≡ row_put link_width n (λ _. n) link_width ls
      → Edited R s command.Dart (answer 0 n) m (suc n) ls' ps ss
  unfolding effect value
  dart-done h first e =
      edit-accepted R s command.Dart
      (dart-holds P.held (plan-reads P).valid ((dart-asks P).1 h) (plan-has-room P).places (plan-has-room P).spans e)
      first
      (ap (answer 0) (sym P.held.map.darts))
