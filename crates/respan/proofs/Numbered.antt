-- Where the numbers of a spliced row come from.
--     count-number, kept-number, new-number, moved-number, past-number     number q of the spliced row, by where it stands
--     number_same        it is the same from rows whose counts and whose spans' numbers are the same
--     number-spliced     worked out from the old numbers it is that of the row, however many spans come in the place of those that are dropped
--     row-renumbered     the numbers of a spliced row are those worked out from the numbers that stand in the table
use Rattle.std.proofs.Common.{◌≡◌, ℕ, suc, ◌+◌, ◌-◌, ◌*◌, ◌<◌, ◌≤◌, Bool, true, false, cond, eqb, ltb, List, ◌∷◌, ◌++◌, length, get_or, take, drop, ℤ, pos, nat_abs, sym, refl, ap, ◌∙◌, ⊎_elim, arith, length-take-le, get_or-drop, get_or-take, get_or-append-add, ltb-false, ltb-true, le-ltb, lt-ltb, eqb-true, eq-eqb, ne_eqb}
use lib.ListN.{get_or-append, get_or-eq_default}
use borrow.Author.Tests.{eqb-false}
use Rattle.paper.specs.Width.{per_span, span_width}
use Rattle.paper.specs.Below.{list_below}
use Rattle.paper.specs.Map.{Owned}
use Rattle.paper.specs.Table.{numbers_of, owned_at}
use Rattle.theory.proofs.Bool.{decided}
use Rattle.span.specs.Row.{RowIn}
use Rattle.respan.specs.Splice.{spliced, row_number, number_at, spliced_number}
use Rattle.respan.proofs.Numbers.{first-number, used-number}
use Rattle.respan.proofs.Spliced.{numbers-length, numbers-spliced, spliced-length}

module _ (g : ℕ → ℤ) (a b : ℕ) (xs : List Owned) (q : ℕ) where
  abbrev head : ℕ
  head = 1 + a * per_span

  abbrev tail : ℕ
  tail = head + length xs * per_span

  abbrev from : ℕ
  from = q - length xs * per_span + b * per_span

  abbrev total : ℕ
  total = nat_abs (g 0) - b + length xs

  -- where the numbers of its spans end
  abbrev end : ℕ
  end = 1 + total * per_span

  pub count-number : q ≡ 0 → pos total ≡ spliced_number g a b xs q
  unfolding spliced_number
  count-number e = rw (eq-eqb q 0 e) refl

  pub kept-number : (q ≡ 0 → ⊥) → q < head → g q ≡ spliced_number g a b xs q
  unfolding spliced_number
  kept-number f h = rw (ne_eqb q 0 f, lt-ltb q head h) refl

  pub new-number : head ≤ q → q < tail → get_or (numbers_of xs) (q - head) (pos 0) ≡ spliced_number g a b xs q
  unfolding spliced_number
  new-number f h = rw (ne_eqb q 0 (λ (e : q ≡ 0). omega arith), le-ltb q head f, lt-ltb q tail h) refl

  pub moved-number : head ≤ q → tail ≤ q → q < end → g from ≡ spliced_number g a b xs q
  unfolding spliced_number
  moved-number f h k = rw (ne_eqb q 0 (λ (e : q ≡ 0). omega arith), le-ltb q head f, le-ltb q tail h, lt-ltb q end k) refl

  pub past-number : head ≤ q → tail ≤ q → end ≤ q → pos 0 ≡ spliced_number g a b xs q
  unfolding spliced_number
  past-number f h k = rw (ne_eqb q 0 (λ (e : q ≡ 0). omega arith), le-ltb q head f, le-ltb q tail h, le-ltb q end k) refl

-- only the numbers of the old row's count and spans are asked for
pub number_same : (g g' : ℕ → ℤ) (a b : ℕ) (xs : List Owned) (q : ℕ) → a + b ≤ nat_abs (g 0) → ((i : ℕ) → i < 1 + nat_abs (g 0) * per_span → g i ≡ g' i)
    → spliced_number g a b xs q ≡ spliced_number g' a b xs q
unfolding spliced_number
number_same g g' a b xs q w e =
    λ k.
    let many = nat_abs (e 0 (omega arith) k) - b + length xs in
    cond (eqb q 0) (pos many) (headed (ltb q (head g a b xs q)) refl k)
  where
    same_end : end g a b xs q ≡ end g' a b xs q
    same_end = λ k. 1 + (nat_abs (e 0 (omega arith) k) - b + length xs) * per_span

    moved : (t : Bool) → ltb q (end g a b xs q) ≡ t → tail g a b xs q ≤ q → cond t (g (from g a b xs q)) (pos 0) ≡ cond t (g' (from g a b xs q)) (pos 0)
    moved true t u = e (from g a b xs q) (let l = ltb-true q (end g a b xs q) t in omega arith)
    moved false t u = refl

    tailed : (t : Bool) → ltb q (tail g a b xs q) ≡ t
        → cond t (get_or (numbers_of xs) (q - head g a b xs q) (pos 0)) (cond (ltb q (end g a b xs q)) (g (from g a b xs q)) (pos 0))
        ≡ cond t (get_or (numbers_of xs) (q - head g a b xs q) (pos 0)) (cond (ltb q (end g' a b xs q)) (g' (from g a b xs q)) (pos 0))
    tailed true t = refl
    tailed false t = moved (ltb q (end g a b xs q)) refl (ltb-false q (tail g a b xs q) t) ∙ ap (λ (k : ℕ). cond (ltb q k) (g' (from g a b xs q)) (pos 0)) same_end

    headed : (t : Bool) → ltb q (head g a b xs q) ≡ t
        → cond t (g q) (cond (ltb q (tail g a b xs q)) (get_or (numbers_of xs) (q - head g a b xs q) (pos 0)) (cond (ltb q (end g a b xs q)) (g (from g a b xs q)) (pos 0)))
        ≡ cond t (g' q) (cond (ltb q (tail g a b xs q)) (get_or (numbers_of xs) (q - head g a b xs q) (pos 0)) (cond (ltb q (end g' a b xs q)) (g' (from g a b xs q)) (pos 0)))
    headed true t = e q (let l = ltb-true q (head g a b xs q) t in omega arith)
    headed false t = tailed (ltb q (tail g a b xs q)) refl

module _ {A : Type 0} (a b : ℕ) (xs r : List A) (h : a + b ≤ length r) where
  front : length (take a r) ≡ a
  front = length-take-le a r (omega arith)

  module _ (z : A) where
    spliced-kept : (i : ℕ) → i < a → get_or (spliced a b xs r) i z ≡ get_or r i z
    spliced-kept i l = get_or-append (take a r) (xs ++ drop (a + b) r) z i (let e = front in omega arith) ∙ get_or-take a r i z l

    spliced-new : (i : ℕ) → i < length xs → get_or (spliced a b xs r) (a + i) z ≡ get_or xs i z
    spliced-new i l =
        ap (λ (k : ℕ). get_or (spliced a b xs r) (k + i) z) (sym front)
        ∙ get_or-append-add (take a r) (xs ++ drop (a + b) r) i z
        ∙ get_or-append xs (drop (a + b) r) z i l

    spliced-moved : (i : ℕ) → get_or (spliced a b xs r) (a + (length xs + i)) z ≡ get_or r (a + b + i) z
    spliced-moved i =
        ap (λ (k : ℕ). get_or (spliced a b xs r) (k + (length xs + i)) z) (sym front)
        ∙ get_or-append-add (take a r) (xs ++ drop (a + b) r) (length xs + i) z
        ∙ get_or-append-add xs (drop (a + b) r) i z
        ∙ get_or-drop (a + b) r i z

-- ---- the numbers of a spliced row, from those of the old one
module _ (kept dropped : ℕ) (xs r : List Owned) (F : kept + dropped ≤ length r) where
  abbrev a : ℕ
  a = kept * per_span

  abbrev b : ℕ
  b = dropped * per_span

  abbrev new : List Owned
  new = spliced kept dropped xs r

  abbrev source : ℕ → ℕ
  source q = q - length xs * per_span + dropped * per_span

  within : a + b ≤ length (numbers_of r)
  within = let e = numbers-length r in let h = F in omega arith

  many : length (numbers_of xs) ≡ length xs * per_span
  many = numbers-length xs

  -- behind its count a row has the numbers of its spans
  at : (i j : ℕ) → i ≡ suc j → get_or (spliced a b (numbers_of xs) (numbers_of r)) j (pos 0) ≡ row_number new i
  unfolding row_number
  at i j e = ap (λ l. get_or l j (pos 0)) (sym (numbers-spliced kept dropped xs r)) ∙ ap (λ (k : ℕ). get_or (pos (length new) ∷ numbers_of new) k (pos 0)) (sym e)

  old : (i j : ℕ) → i ≡ suc j → row_number r i ≡ get_or (numbers_of r) j (pos 0)
  unfolding row_number
  old i j e = ap (λ (k : ℕ). get_or (pos (length r) ∷ numbers_of r) k (pos 0)) e

  counted : (q : ℕ) → q ≡ 0 → spliced_number (row_number r) kept dropped xs q ≡ row_number new q
  unfolding row_number
  counted q e =
      sym (count-number (row_number r) kept dropped xs q e)
      ∙ ap pos (let g = spliced-length kept dropped xs r F in let h : length r - dropped + length xs ≡ length new = omega arith in h)
      ∙ ap (row_number new) (sym e)

  first : (q : ℕ) → (q ≡ 0 → ⊥) → q < 1 + a → spliced_number (row_number r) kept dropped xs q ≡ row_number new q
  first q f h =
      let e : q ≡ suc (q - 1) = omega arith in
      sym (kept-number (row_number r) kept dropped xs q f h)
      ∙ old q (q - 1) e
      ∙ sym (spliced-kept a b (numbers_of xs) (numbers_of r) within (pos 0) (q - 1) (omega arith))
      ∙ at q (q - 1) e

  placed : (q : ℕ) → 1 + a ≤ q → q < 1 + a + length xs * per_span → spliced_number (row_number r) kept dropped xs q ≡ row_number new q
  placed q f h =
      let i = q - (1 + a) in
      let l : i < length xs * per_span = omega arith in
      sym (new-number (row_number r) kept dropped xs q f h)
      ∙ sym (spliced-new a b (numbers_of xs) (numbers_of r) within (pos 0) i (let m = many in omega arith))
      ∙ at q (a + i) (omega arith)

  -- the number of the old row that stands there, if it has one
  moved_to : (q : ℕ) → 1 + a + length xs * per_span ≤ q → row_number r (source q) ≡ row_number new q
  moved_to q h =
      let i = q - (1 + a + length xs * per_span) in
      let m = many in
      old (source q) (a + b + i) (omega arith)
      ∙ sym (spliced-moved a b (numbers_of xs) (numbers_of r) within (pos 0) i)
      ∙ at q (a + (length (numbers_of xs) + i)) (omega arith)

  moved : (q : ℕ) → 1 + a ≤ q → 1 + a + length xs * per_span ≤ q → spliced_number (row_number r) kept dropped xs q ≡ row_number new q
  unfolding row_number
  moved q f h = ⊎_elim
      (λ t. sym (moved-number (row_number r) kept dropped xs q f h (ltb-true q end t)) ∙ moved_to q h)
      (λ t. let g = ltb-false q end t in sym (past-number (row_number r) kept dropped xs q f h g) ∙ past g)
      (decided (ltb q end))
    where
      end : ℕ
      end = 1 + (length r - dropped + length xs) * per_span

      past : end ≤ q → pos 0 ≡ row_number new q
      past g =
          let e = numbers-length new in
          let l = spliced-length kept dropped xs r F in
          let h : length (pos (length new) ∷ numbers_of new) ≤ q = omega arith in
          sym (get_or-eq_default (pos (length new) ∷ numbers_of new) (pos 0) h)

  pub number-spliced : (q : ℕ) → spliced_number (row_number r) kept dropped xs q ≡ row_number new q
  number-spliced q = ⊎_elim
      (λ t. counted q (eqb-true q 0 t))
      (λ t. ⊎_elim
      (λ u. first q (eqb-false q 0 t) (ltb-true q (1 + a) u))
      (λ u. ⊎_elim
      (λ v. placed q (ltb-false q (1 + a) u) (ltb-true q (1 + a + length xs * per_span) v))
      (λ v. moved q (ltb-false q (1 + a) u) (ltb-false q (1 + a + length xs * per_span) v))
      (decided (ltb q (1 + a + length xs * per_span))))
      (decided (ltb q (1 + a))))
      (decided (eqb q 0))

pub row-renumbered : (ss : List ℤ) (d : ℕ) → RowIn ss d → (a b : ℕ) (xs : List Owned) → a + b ≤ length (owned_at ss d)
    → list_below span_width (row_number (spliced a b xs (owned_at ss d))) ≡ list_below span_width (spliced_number (number_at ss d) a b xs)
row-renumbered ss d R a b xs F =
    let r = owned_at ss d in
    let e = first-number ss d R in
    let same : (q : ℕ) → spliced_number (number_at ss d) a b xs q ≡ row_number (spliced a b xs r) q =
    λ q.
    number_same (number_at ss d) (row_number r) a b xs q (omega (arith, e)) (λ i l. used-number ss d R i (omega (arith, e)))
    ∙ number-spliced a b xs r F q in
    λ k. list_below span_width (λ q. sym (same q) k)
