-- The walk over the ends of some spans: how many pieces are counted, and which are left.
--     Counting         c pieces are passed, and t is where the walk stands
--     count-start, count-more, count-end      the walk, turn by turn
--     no-pieces        there are none without an end
--     pieces-few       there are few enough to count
use Rattle.std.proofs.Common.{◌≡◌, ℕ, ◌+◌, ◌*◌, ◌<◌, ◌≤◌, Bool, true, false, cond, List, [], ◌∷◌, length, ℤ, sym, refl, ap, zero-add, add-zero, Some, None, ◌∙◌, subst, zero-le, arith, length-append, leb-true}
use Rattle.std.proofs.lemmas.List.{nil_from_length}
use lib.Signed.{lt_z}
use Rattle.paper.specs.Width.{span_limit, pair_width}
use Rattle.paper.specs.Below.{join_of, only}
use Rattle.paper.specs.Map.{Span}
use Rattle.paper.specs.Span.{covered, ends_of}
use Rattle.paper.specs.Ends.{ascending, next}
use Rattle.paper.specs.Table.{row_at}
use Rattle.theory.specs.Walk.{above, pieces_of, pieces_from}
use Rattle.theory.proofs.Table.{row-short}
use Rattle.theory.proofs.Piece.{ends-length}
use Rattle.theory.proofs.Walk.{Stands, walk_start, walk_more, walk_end, walk-falls, walk-stands, walk-short}
use Rattle.pieces.specs.Listed.{spans_of, next_above, NoneBelow}
use Rattle.pieces.proofs.Next.{is-next, no-next}

pub record Counting (r : List Span) (t : ℤ) (c : ℕ) : Type 0 where
  pub stands : Stands r t
  pub left : c + length (pieces_from r t) ≡ length (pieces_of r)

module _ (r : List Span) where
  pub count-start : (t : ℤ) → NoneBelow (ends_of r) t → Counting r t 0
  count-start t f = let w = walk_start r t f in record { stands = w.1; left = zero-add (length (pieces_from r t)) ∙ ap length (sym w.0) }

  only-length : (b : Bool) (p : Span) → length (only b p) ≡ cond b 1 0
  unfolding only
  only-length true p = refl
  only-length false p = refl

  -- one turn: the piece from t to u, if there is one, is passed
  pub count-more : (t u : ℤ) (c : ℕ) → Counting r t c → next_above t (ends_of r) ≡ Some u → Counting r u (c + cond (covered r t true) 1 0)
  count-more t u c K e =
      let n = is-next t u (ends_of r) e in
      let up : lt_z t (next true t (ends_of r)) ≡ true = ap (λ z. lt_z t z) (sym n.0) ∙ n.1 in
      record {
        stands = subst (Stands r) (sym n.0) (walk-stands r t up);
        left =
            shift c (cond (covered r t true) 1 0) (length (pieces_from r u)) (length (pieces_from r t))
            (ap length (walk_more r t K.stands up)
            ∙ length-append (only (covered r t true) (record { lo = t; hi = next true t (ends_of r) })) (pieces_from r (next true t (ends_of r)))
            ∙ (λ i. only-length (covered r t true) (record { lo = t; hi = next true t (ends_of r) }) i + length (pieces_from r (sym n.0 i))))
            ∙ K.left;
      }
    where
      shift : (c b a n : ℕ) → n ≡ b + a → c + b + a ≡ c + n
      shift c b a n e = omega arith

  pub count-end : (t : ℤ) (c : ℕ) → Counting r t c → next_above t (ends_of r) ≡ None → c ≡ length (pieces_of r)
  count-end t c K e = sym (add-zero c) ∙ ap (λ l. c + length l) (sym (walk_end r t (no-next t (ends_of r) e))) ∙ K.left

  -- the ends above fall with each turn
  pub count-falls : (t u : ℤ) → next_above t (ends_of r) ≡ Some u → length (above u (ascending (ends_of r))) < length (above t (ascending (ends_of r)))
  count-falls t u e =
      let n = is-next t u (ends_of r) e in
      subst (λ (z : ℤ). length (above z (ascending (ends_of r))) < length (above t (ascending (ends_of r)))) (sym n.0)
      (walk-falls r t (ap (λ z. lt_z t z) (sym n.0) ∙ n.1))

rows_few : (s : List ℤ) (ds : List ℕ) → length (spans_of s ds) ≤ span_limit * length ds
unfolding join_of
rows_few s [] = zero-le
rows_few s (d ∷ ds) =
    let a = length-append (row_at s d) (spans_of s ds) in
    let b = leb-true (length (row_at s d)) span_limit (row-short s d) in
    let c = rows_few s ds in
    omega arith

pub pieces-few : (s : List ℤ) (ds : List ℕ) → length (pieces_of (spans_of s ds)) ≤ pair_width * span_limit * length ds
pieces-few s ds =
    let a = walk-short (spans_of s ds) in
    let b = ends-length (spans_of s ds) in
    let c = rows_few s ds in
    omega arith

-- without an end there is no piece
pub no-pieces : (r : List Span) → ends_of r ≡ [] → pieces_of r ≡ []
no-pieces r e = let a = walk-short r in let b = ap length e in nil_from_length (pieces_of r) (omega arith)
