-- The table of objects, as a table of rows.
--     objects-table    what objects of lifted darts, one a dart, stand in it
--     objects-own      of its own length
use Rattle.std.proofs.Common.{◌≡◌, ℕ, ◌/◌, ◌<◌, cond, ltb, List, length, get_or, sym, ap, ◌∙◌, ⊎_elim, arith, ext_get_or, ltb-false}
use lib.ListN.{get_or-eq_default}
use Rattle.paper.specs.Width.{object_width}
use Rattle.paper.specs.Below.{list_below}
use Rattle.paper.specs.Table.{table_of, objects_table}
use Rattle.theory.proofs.Bool.{decided}
use Rattle.theory.proofs.Below.{list_length, list_at}

-- dart d's row of one number
abbrev pub object_in : List ℕ → ℕ → ℕ → ℕ
object_in l d q = get_or l d 0

pub objects-table : (l : List ℕ) (len : ℕ) → objects_table l len ≡ table_of object_width (length l) (object_in l) 0 len
unfolding objects_table table_of
objects-table l len =
    ext_get_or 0 (list_below len own) (list_below len row) (list_length len own ∙ sym (list_length len row))
    (λ p h. let e = list_length len own in let g : p < len = omega arith in list_at len own 0 p g ∙ same p ∙ sym (list_at len row 0 p g))
  where
    own : ℕ → ℕ
    own p = get_or l p 0

    row : ℕ → ℕ
    row p = cond (ltb (p / object_width) (length l)) (get_or l (p / object_width) 0) 0

    same : (p : ℕ) → own p ≡ row p
    same p =
        let e : p / object_width ≡ p = omega arith in
        ⊎_elim
        (λ t. sym (ap (λ (k : ℕ). cond (ltb k (length l)) (get_or l k 0) 0) e ∙ ap (λ b. cond b (get_or l p 0) 0) t))
        (λ t. get_or-eq_default l 0 (ltb-false p (length l) t) ∙ sym (ap (λ (k : ℕ). cond (ltb k (length l)) (get_or l k 0) 0) e ∙ ap (λ b. cond b (get_or l p 0) 0) t))
        (decided (ltb p (length l)))

pub objects-own : (l : List ℕ) (len : ℕ) {o : List ℕ} → o ≡ objects_table l len → o ≡ objects_table l (length o)
unfolding objects_table
objects-own l len e = e ∙ ap (objects_table l) (sym (ap length e ∙ list_length len (λ p. get_or l p 0)))
