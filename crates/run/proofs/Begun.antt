-- The start of a run: the lent tables are blanked.
--     blank-plan, blank-lifted       tables that are blanked hold the blank map
--     ran-lent         what a run leaves is fixed by what was lent: the lengths of the tables, and the reply memory
use Rattle.std.proofs.Common.{◌≡◌, ℕ, ◌-◌, List, [], length, replicate, ℤ, pos, sym, ap, ◌∙◌, subst}
use lib.ListN.{length-replicate}
use Rattle.paper.specs.Width.{object_width}
use Rattle.paper.specs.Map.{blank}
use Rattle.paper.specs.Run.{Lent}
use Rattle.paper.specs.Table.{Tables, LiftedTables, lent_lifted, table_of, objects_table}
use Rattle.paper.specs.declared.Ended.{Ended}
use Rattle.kernel.specs.Blank.{blanked}
use Rattle.hold.specs.Hold.{HoldsPlan, HoldsLifted}
use Rattle.hold.proofs.Rows.{table_none}
use Rattle.hold.proofs.Objects.{object_in, objects-table}
use Rattle.hold.proofs.Hold.{blank-holds}
use Rattle.run.specs.Ran.{Ran}

pub blank-plan : (ls : List ℕ) (ps ss : List ℤ) {ls' : List ℕ} {ps' ss' : List ℤ} → ls' ≡ blanked 0 0 ls → ps' ≡ blanked (pos 0) 0 ps → ss' ≡ blanked (pos 0) 0 ss
    → HoldsPlan blank 0 0 ls' ps' ss'
blank-plan ls ps ss {ls'} {ps'} {ss'} a b c =
    subst (λ (x : List ℕ). HoldsPlan blank 0 0 x ps' ss') (sym a)
    (subst (λ (x : List ℤ). HoldsPlan blank 0 0 (blanked 0 0 ls) x ss') (sym b)
    (subst (λ (x : List ℤ). HoldsPlan blank 0 0 (blanked 0 0 ls) (blanked (pos 0) 0 ps) x) (sym c) (blank-holds ls ps ss)))

pub blank-lifted : (ol : List ℕ) (op : List ℤ) (oo : List ℕ) {ol' : List ℕ} {op' : List ℤ} {oo' : List ℕ}
    → ol' ≡ blanked 0 0 ol → op' ≡ blanked (pos 0) 0 op → oo' ≡ blanked 0 0 oo → (v : ℕ) → HoldsLifted blank [] 0 0 (lent_lifted ol' op' oo' v)
blank-lifted ol op oo {oo' = oo'} a b c v = record {
  map = (blank-plan ol op op a b b).map;
  objects = c ∙ none (length oo - 0) ∙ ap (λ x. objects_table [] (length x)) (sym c);
}
  where
    none : (k : ℕ) → replicate k 0 ≡ objects_table [] (length (replicate {A = ℕ} k 0))
    none k = sym (objects-table [] (length (replicate {A = ℕ} k 0)) ∙ ap (table_of object_width 0 (object_in []) 0) (length-replicate k 0) ∙ table_none 0 object_width (object_in []) k)

pub ran-lent : {bytes : List ℕ} {L L₀ : Lent} → L ≡ L₀ → {r : Ended} {T : Tables} {O : LiftedTables} {memory : List ℕ} → Ran bytes L r T O memory → Ran bytes L₀ r T O memory
ran-lent {bytes} e {r} {T} {O} {memory} X = subst (λ (L : Lent). Ran bytes L r T O memory) e X
