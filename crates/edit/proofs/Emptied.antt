-- NEW on tables: without the old plan's rows they hold a plan with no darts.
--     new-asks         what the function asks for holds of the plan's tables
--     new-holds        the cleared tables hold the empty plan
--     new-done         so they are what the command leaves
use Rattle.std.proofs.Common.{◌≡◌, ℕ, ◌*◌, ◌<◌, ◌≤◌, List, length, ℤ, pos, sym, refl, ap, ◌∙◌, zero-le, zero-mul, lit<}
use Rattle.paper.specs.Width.{link_width, place_width, span_width, dart_limit}
use Rattle.paper.specs.Map.{Map}
use Rattle.paper.specs.Table.{link_at, place_at, span_at, table_of}
use Rattle.paper.specs.Edit.{empty}
use Rattle.paper.specs.Refusal.{answer, judge}
use Rattle.paper.specs.Step.{Maps, Room, refusals, effect, value}
use Rattle.paper.specs.declared.Command.TheVariants as command
use Rattle.kernel.specs.Blank.{filled}
use Rattle.hold.specs.Hold.{HoldsPlan}
use Rattle.hold.specs.Stand.{PlanStands, Edited}
use Rattle.hold.proofs.Rows.{table-own, table_none, table-clear}
use Rattle.hold.proofs.Stand.{edit-accepted, plan-has-room}

pub new-asks : {R : Room} {s : Maps} {m n : ℕ} {ls : List ℕ} {ps ss : List ℤ} {w : ℕ} → PlanStands R s m n ls ps ss w
    → (n ≤ dart_limit) × ((n * link_width ≤ length ls) × ((n * place_width ≤ length ps) × (n * span_width ≤ length ss)))
new-asks P = let h = plan-has-room P in (h.few, (h.links, (h.places, h.spans)))

-- a table of n rows, all of them cleared, is one without rows
cleared : {A : Type 0} (z : A) (w n : ℕ) (f g : ℕ → ℕ → A) {c : ℕ} {l l' : List A} → 0 < w → c ≡ n → n * w ≤ length l → l ≡ table_of w c f z (length l) → l' ≡ filled z 0 (n * w) l
    → l' ≡ table_of w 0 g z (length l')
cleared z w n f g {c} {l} p d room h e =
    table-own z w 0 g (length l)
    (e
    ∙ (λ i. filled z (none i) (n * w) l)
    ∙ ap (filled z (0 * w) (n * w)) (h ∙ ap (λ (k : ℕ). table_of w k f z (length l)) d)
    ∙ table-clear z w n f (length l) 0 p zero-le room
    ∙ table_none z w f (length l)
    ∙ sym (table_none z w g (length l)))
  where
    none : 0 ≡ 0 * w
    none = sym (zero-mul w)

module _ {M : Map} {m n : ℕ} {ls : List ℕ} {ps ss : List ℤ} (H : HoldsPlan M m n ls ps ss) (k : ℕ) where
  pub new-holds : n * link_width ≤ length ls → n * place_width ≤ length ps → n * span_width ≤ length ss
      → {ls' : List ℕ} {ps' ss' : List ℤ} → ls' ≡ filled 0 0 (n * link_width) ls → ps' ≡ filled (pos 0) 0 (n * place_width) ps → ss' ≡ filled (pos 0) 0 (n * span_width) ss
      → HoldsPlan (empty k) k 0 ls' ps' ss'
  new-holds a b c x y u = record {
    map = record {
      dims = refl;
      darts = refl;
      links = cleared 0 link_width n (link_at M) (link_at (empty k)) (lit< tt) H.map.darts a H.map.links x;
      places = cleared (pos 0) place_width n (place_at M) (place_at (empty k)) (lit< tt) H.map.darts b H.map.places y;
    };
    spans = cleared (pos 0) span_width n (span_at M) (span_at (empty k)) (lit< tt) H.map.darts c H.spans u;
  }

module _ {R : Room} {s : Maps} {m n : ℕ} {ls : List ℕ} {ps ss : List ℤ} {w : ℕ} (P : PlanStands R s m n ls ps ss w) (k : ℕ) where
  pub new-done : (judge 0 (refusals R s (command.New k))).number ≡ 0
      → {ls' : List ℕ} {ps' ss' : List ℤ} → ls' ≡ filled 0 0 (n * link_width) ls → ps' ≡ filled (pos 0) 0 (n * place_width) ps → ss' ≡ filled (pos 0) 0 (n * span_width) ss
      → Edited R s (command.New k) (answer 0 0) k 0 ls' ps' ss'
  unfolding effect value
  new-done first x y u =
      let h = plan-has-room P in
      edit-accepted R s (command.New k) (new-holds P.held k h.links h.places h.spans x y u) first refl
