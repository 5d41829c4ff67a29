-- Spliced rows.
--     numbers-length, numbers-spliced     how many numbers the spans of a row have, and those of a spliced row
--     clear-spliced      a splice that drops all and adds none leaves none
--     spliced-length     how many members a spliced list has
--     onto_next          a list written over another's start, and more behind it
--     onto-filled        over the start of a list of one value
--     one-added, none-added               the numbers that a splice adds
--     front-length, row-built             the row that a splice makes is put together from the numbers that are kept, those of the new span, and those that follow
use Rattle.std.proofs.Common.{◌≡◌, ℕ, zero, suc, ◌+◌, ◌-◌, ◌*◌, ◌<◌, ◌≤◌, List, [], ◌∷◌, ◌++◌, length, get_or, take, drop, set, replicate, ℤ, pos, Option, Some, None, sym, refl, ap, ◌∙◌, subst, ⊎_elim, append_assoc, zero-le, arith, length-append, length-drop, drop_of_length-le, length-take-le, get_or-drop, take_all, get_or-append-add, ext_get_or}
use Rattle.std.proofs.Math.Seq.{drop-nil, take-append_seam}
use Rattle.std.proofs.lemmas.Slice.{drop-append-drop}
use lib.ListN.{length-replicate, get_or-append, get_or-eq_default, get_or-replicate}
use Rattle.paper.specs.Width.{per_span, span_width}
use Rattle.paper.specs.Below.{list_below, onto}
use Rattle.paper.specs.Map.{Owned}
use Rattle.paper.specs.Table.{numbers_of}
use Rattle.theory.proofs.Bool.{less-or}
use Rattle.theory.proofs.Below.{list_length, list_at}
use Rattle.respan.specs.Splice.{added, spliced, row_number, respliced, new_count, Fits}
use Rattle.respan.specs.declared.splice.Owned as code
use Rattle.respan.specs.declared.splice.Splice.{Splice}

pub clear-spliced : (r : List Owned) → spliced 0 (length r) [] r ≡ []
clear-spliced r = let h : length r ≤ 0 + length r = omega arith in drop_of_length-le r h

-- ---- the numbers of spans
numbers-append : (a b : List Owned) → numbers_of (a ++ b) ≡ numbers_of a ++ numbers_of b
unfolding numbers_of
numbers-append [] b = refl
numbers-append (x ∷ a) b = ap (λ l. x.span.lo ∷ (x.span.hi ∷ (x.object ∷ l))) (numbers-append a b)

pub numbers-length : (r : List Owned) → length (numbers_of r) ≡ length r * per_span
unfolding numbers_of
numbers-length [] = refl
numbers-length (x ∷ r) = ap (λ (k : ℕ). suc (suc (suc k))) (numbers-length r) ∙ omega arith

numbers-take : (a : ℕ) (r : List Owned) → numbers_of (take a r) ≡ take (a * per_span) (numbers_of r)
unfolding numbers_of
numbers-take zero r = refl
numbers-take (suc a) [] = sym (take_all (suc a * per_span) [] zero-le)
numbers-take (suc a) (x ∷ r) =
    let e : suc a * per_span ≡ suc (suc (suc (a * per_span))) = omega arith in
    ap (λ l. x.span.lo ∷ (x.span.hi ∷ (x.object ∷ l))) (numbers-take a r) ∙ ap (λ (k : ℕ). take k (numbers_of (x ∷ r))) (sym e)

numbers-drop : (a : ℕ) (r : List Owned) → numbers_of (drop a r) ≡ drop (a * per_span) (numbers_of r)
unfolding numbers_of
numbers-drop zero r = refl
numbers-drop (suc a) [] = sym (drop-nil (suc a * per_span))
numbers-drop (suc a) (x ∷ r) =
    let e : suc a * per_span ≡ suc (suc (suc (a * per_span))) = omega arith in
    numbers-drop a r ∙ ap (λ (k : ℕ). drop k (numbers_of (x ∷ r))) (sym e)

pub numbers-spliced : (a b : ℕ) (xs r : List Owned) → numbers_of (spliced a b xs r) ≡ spliced (a * per_span) (b * per_span) (numbers_of xs) (numbers_of r)
numbers-spliced a b xs r =
    let e : (a + b) * per_span ≡ a * per_span + b * per_span = omega arith in
    numbers-append (take a r) (xs ++ drop (a + b) r)
    ∙ (λ k. numbers-take a r k ++ numbers-append xs (drop (a + b) r) k)
    ∙ (λ k. take (a * per_span) (numbers_of r) ++ (numbers_of xs ++ numbers-drop (a + b) r k))
    ∙ (λ k. take (a * per_span) (numbers_of r) ++ (numbers_of xs ++ drop (e k) (numbers_of r)))

-- ---- the members of a spliced list
module _ {A : Type 0} (a b : ℕ) (xs r : List A) (h : a + b ≤ length r) where
  front : length (take a r) ≡ a
  front = length-take-le a r (omega arith)

  pub spliced-length : length (spliced a b xs r) ≡ length r - b + length xs
  spliced-length =
      let e = front in
      let f = length-drop (a + b) r in
      length-append (take a r) (xs ++ drop (a + b) r) ∙ ap (λ (k : ℕ). length (take a r) + k) (length-append xs (drop (a + b) r)) ∙ omega arith

-- ---- lists written one behind the other over another's start
pub onto_next : {A : Type 0} (at : ℕ) (xs ys l : List A) {l' : List A} → at ≡ length xs → l' ≡ onto xs l → spliced at (length ys) ys l' ≡ onto (xs ++ ys) l
onto_next at xs ys l e f =
    (λ k. spliced (e k) (length ys) ys (f k))
    ∙ (λ k. take-append_seam xs (drop (length xs) l) k ++ (ys ++ drop-append-drop (length xs) l xs (length xs + length ys) (omega arith) refl k))
    ∙ sym (append_assoc xs ys (drop (length xs + length ys) l))
    ∙ ap (λ (k : ℕ). (xs ++ ys) ++ drop k l) (sym (length-append xs ys))

-- a list written over the start of one value is that list, and the value behind it
pub onto-filled : {A : Type 0} (n : ℕ) (z : A) (xs : List A) → length xs ≤ n → onto xs (replicate n z) ≡ list_below n (λ q. get_or xs q z)
onto-filled {A} n z xs h = ext_get_or z (onto xs (replicate n z)) (list_below n (λ q. get_or xs q z)) (long ∙ sym (list_length n (λ q. get_or xs q z)))
    (λ i l. let g : i < n = subst (λ (k : ℕ). i < k) long l in ⊎_elim (inside i) (behind i g) (less-or i (length xs)) ∙ sym (list_at n (λ q. get_or xs q z) z i g))
  where
    rest : List A
    rest = drop (length xs) (replicate n z)

    long : length (onto xs (replicate n z)) ≡ n
    long = length-append xs rest ∙ ap (λ (k : ℕ). length xs + k) (length-drop (length xs) (replicate n z) ∙ ap (λ (k : ℕ). k - length xs) (length-replicate n z)) ∙ omega arith

    inside : (i : ℕ) → i < length xs → get_or (xs ++ rest) i z ≡ get_or xs i z
    inside i l = get_or-append xs rest z i l

    behind : (i : ℕ) → i < n → length xs ≤ i → get_or (xs ++ rest) i z ≡ get_or xs i z
    behind i g l =
        let j = i - length xs in
        let e : length xs + j ≡ i = omega arith in
        ap (λ (k : ℕ). get_or (xs ++ rest) k z) (sym e)
        ∙ get_or-append-add xs rest j z
        ∙ get_or-drop (length xs) (replicate n z) j z
        ∙ get_or-replicate n (length xs + j) z z (omega arith)
        ∙ sym (get_or-eq_default xs z l)

-- ---- the numbers that a splice adds
pub one-added : (s : Splice) (x : code.Owned) → s.new ≡ Some x → numbers_of (added s) ≡ x.lo ∷ (x.hi ∷ (x.object ∷ []))
unfolding numbers_of
one-added s x e = ap (λ (o : Option code.Owned). numbers_of (added (record s { new = o }))) e

pub none-added : (s : Splice) → ((x : code.Owned) → s.new ≡ Some x → ⊥) → numbers_of (added s) ≡ []
unfolding numbers_of
none-added s f = go s.new f
  where
    go : (o : Option code.Owned) → ((x : code.Owned) → o ≡ Some x → ⊥) → numbers_of (added (record s { new = o })) ≡ []
    go None g = refl
    go (Some x) g = absurd (g x refl)

-- ---- the row that a splice makes of r, put together from the numbers of its spans
module _ (s : Splice) (r : List Owned) (F : Fits s (length r)) (old : List ℤ) (e : old ≡ numbers_of r) where
  abbrev kept : ℕ
  kept = s.kept * per_span

  abbrev behind : ℕ
  behind = kept + s.dropped * per_span

  abbrev front_part : List ℤ
  front_part = take kept old

  abbrev new : List ℤ
  new = numbers_of (added s)

  abbrev row : List Owned
  row = respliced s r

  old-length : length old ≡ length r * per_span
  old-length = ap length e ∙ numbers-length r

  pub front-length : length front_part ≡ kept
  front-length = let l = old-length in let f = F.within in length-take-le kept old (omega arith)

  abbrev rest : List ℤ
  rest = take (length old - behind) (drop behind old)

  new-row : front_part ++ (new ++ rest) ≡ numbers_of row
  new-row =
      let k = length-drop behind old in
      ap (λ t. front_part ++ (new ++ t)) (take_all (length old - behind) (drop behind old) (omega arith))
      ∙ ap (λ t. take kept t ++ (new ++ drop behind t)) e
      ∙ sym (numbers-spliced s.kept s.dropped (added s) r)

  -- the count and its numbers, with 0 behind them, are the row
  row-numbers : onto (pos (new_count (length r) s) ∷ numbers_of row) (replicate span_width (pos 0)) ≡ list_below span_width (row_number row)
  unfolding row_number
  row-numbers =
      let l = spliced-length s.kept s.dropped (added s) r F.within in
      let k = numbers-length row in
      let f = F.short in
      ap (λ (i : ℕ). onto (pos i ∷ numbers_of row) (replicate span_width (pos 0))) (sym l)
      ∙ onto-filled span_width (pos 0) (pos (length row) ∷ numbers_of row) (omega arith)

  pub row-built : (v : ℤ) → v ≡ pos (new_count (length r) s) → (end : ℕ) → end ≡ 1 + kept + length new → {t u w : List ℤ}
      → t ≡ spliced 1 (length front_part) front_part (set (replicate span_width (pos 0)) 0 v) → u ≡ spliced (1 + kept) (length new) new t
      → w ≡ spliced end (length rest) rest u → w ≡ list_below span_width (row_number row)
  row-built v c end h {t} {u} {w} p q o =
      let zeros = replicate span_width (pos 0) in
      let f = front-length in
      let g = length-append (v ∷ front_part) new in
      let first : t ≡ onto (v ∷ front_part) zeros = p ∙ onto_next 1 (v ∷ []) front_part zeros refl refl in
      let second : u ≡ onto ((v ∷ front_part) ++ new) zeros = q ∙ onto_next (1 + kept) (v ∷ front_part) new zeros (omega arith) first in
      o
      ∙ onto_next end ((v ∷ front_part) ++ new) rest zeros (omega arith) second
      ∙ ap (λ k. onto k zeros) (append_assoc (v ∷ front_part) new rest)
      ∙ (λ k. onto (c k ∷ new-row k) zeros)
      ∙ row-numbers
