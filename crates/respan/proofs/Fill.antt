-- Writes in rows, as the code makes them.
--     row_laid         a row is put where it is spliced in
--     rows_next        one more row
--     copied_whole     a list that another of its length is copied to is that one
--     pasted_spliced   a list pasted into another is spliced in
--     pasted_three     three numbers more of it
use Rattle.std.proofs.Common.{◌≡◌, ℕ, zero, suc, ◌+◌, ◌*◌, ◌<◌, ◌≤◌, List, [], ◌++◌, length, get_or, set, take, drop, ap, ◌∙◌, add-one, append-nil, append_assoc, arith, drop_of_length-le, take_all}
use Rattle.std.proofs.Math.Seq.{paste, paste-zero, paste-suc}
use Rattle.kernel.specs.Copy.{copied}
use Rattle.hold.specs.Rows.{row_put, rows_put}
use Rattle.respan.specs.Splice.{spliced}

module _ {A : Type 0} (z : A) (w d : ℕ) (row l : List A) where
  row-pasted : (q : ℕ) → d * w + q ≤ length l → q ≤ length row → row_put w d (λ i. get_or row i z) q l ≡ paste l (d * w) row q
  unfolding row_put
  row-pasted zero h k = paste-zero l (d * w) row
  row-pasted (suc q) h k =
      ap (λ t. set t (d * w + q) (get_or row q z)) (row-pasted q (omega arith) (omega arith)) ∙ paste-suc l (d * w) row q z (omega arith) (omega arith)

  pub row_laid : d * w + w ≤ length l → length row ≡ w → row_put w d (λ i. get_or row i z) w l ≡ spliced (d * w) w row l
  row_laid h e =
      row-pasted w h (omega arith)
      ∙ ap (λ t. (take (d * w) l ++ t) ++ drop (d * w + w) l) (take_all w row (omega arith))
      ∙ append_assoc (take (d * w) l) row (drop (d * w + w) l)

pub rows_next : {A : Type 0} (w : ℕ) (e : ℕ → ℕ) (g : ℕ → A) (t : ℕ) (l : List A) → rows_put w e g (t + 1) l ≡ row_put w (e t) g w (rows_put w e g t l)
unfolding rows_put
rows_next w e g t l = ap (λ (k : ℕ). rows_put w e g k l) (add-one t)

pub copied_whole : {A : Type 0} (xs l : List A) → length l ≡ length xs → copied (length xs) xs l ≡ xs
unfolding copied
copied_whole xs l e =
    let few : length l ≤ length xs = omega arith in
    let none : drop (length xs) l ≡ [] = drop_of_length-le l few in
    (λ i. take_all (length xs) xs (omega arith) i ++ none i) ∙ append-nil xs

pub pasted_spliced : {A : Type 0} (at : ℕ) (xs l : List A) → paste l at xs (length xs) ≡ spliced at (length xs) xs l
pasted_spliced at xs l = ap (λ t. (take at l ++ t) ++ drop (at + length xs) l) (take_all (length xs) xs (omega arith)) ∙ append_assoc (take at l) xs (drop (at + length xs) l)

pub pasted_three : {A : Type 0} (z : A) (at i : ℕ) (xs l : List A) → at + i + 2 < length l → i + 2 < length xs
    → set (set (set (paste l at xs i) (at + i) (get_or xs i z)) (at + i + 1) (get_or xs (i + 1) z)) (at + i + 2) (get_or xs (i + 2) z) ≡ paste l at xs (i + 3)
pasted_three z at i xs l h k =
    let a : at + i + 1 ≡ at + suc i = omega arith in
    let b : i + 1 ≡ suc i = omega arith in
    let c : at + i + 2 ≡ at + suc (suc i) = omega arith in
    let d : i + 2 ≡ suc (suc i) = omega arith in
    let e : suc (suc (suc i)) ≡ i + 3 = omega arith in
    (λ j. set (set (paste-suc l at xs i z (omega arith) (omega arith) j) (a j) (get_or xs (b j) z)) (c j) (get_or xs (d j) z))
    ∙ (λ j. set (paste-suc l at xs (suc i) z (omega arith) (omega arith) j) (at + suc (suc i)) (get_or xs (suc (suc i)) z))
    ∙ paste-suc l at xs (suc (suc i)) z (omega arith) (omega arith)
    ∙ ap (paste l at xs) e
