-- Writes in a table of rows, one number after the other.
--     columned-more    a column set for one dart more
--     row_filled       a row of one number is filled with it
--     set_at           a number of a list that has one number set
--     set-where        the same where it is set on a condition
use Rattle.std.proofs.Common.{◌≡◌, ℕ, zero, suc, ◌+◌, ◌*◌, ◌<◌, ◌≤◌, Bool, true, false, cond, ◌&&◌, eqb, List, length, get_or, set, sym, refl, ap, ◌∙◌, ⊎_elim, add-one, add-zero, arith, get_or-set_other, get_or-set_same, eq-eqb, ne_eqb}
use Rattle.theory.proofs.Bool.{eq-or}
use Rattle.kernel.specs.Blank.{filled}
use Rattle.kernel.proofs.Filled.{fill_start, fill_more}
use Rattle.hold.specs.Rows.{columned, row_put}

pub columned-more : {A : Type 0} (w a : ℕ) (e : ℕ → ℕ) (v : ℕ → A) (t d : ℕ) (l k : List A) → d ≡ e t → k ≡ columned w a e v t l
    → set k (d * w + a) (v d) ≡ columned w a e v (t + 1) l
unfolding columned
columned-more w a e v t d l k p q =
    (λ i. set (q i) (p i * w + a) (v (p i))) ∙ ap (λ (x : ℕ). columned w a e v x l) (sym (add-one t))

pub row_filled : {A : Type 0} (w d : ℕ) (v : A) (q : ℕ) (l : List A) → d * w + q ≤ length l → row_put w d (λ _. v) q l ≡ filled v (d * w) (d * w + q) l
unfolding row_put
row_filled w d v zero l h = rw add-zero (fill_start v (d * w) l)
row_filled w d v (suc q) l h =
    let k : d * w + q < length l = omega arith in
    fill_more v (d * w) (d * w + q) l _ (omega arith) k (row_filled w d v q l (omega arith)) ∙ ap (λ (x : ℕ). filled v (d * w) x l) (omega arith)

module _ {A : Type 0} (l : List A) (i j : ℕ) (v z : A) (h : i < length l) where
  pub set_at : get_or (set l i v) j z ≡ cond (eqb j i) v (get_or l j z)
  set_at = ⊎_elim
      (λ (e : j ≡ i). ap (λ (x : ℕ). get_or (set l i v) x z) e ∙ get_or-set_same l i v z h ∙ rw (eq-eqb j i e) refl)
      (λ (f : j ≡ i → ⊥). get_or-set_other l i j v z f ∙ rw (ne_eqb j i f) refl)
      (eq-or j i)

  pub set-where : (b : Bool) → cond (eqb j i && b) v (get_or l j z) ≡ get_or (cond b (set l i v) l) j z
  set-where true = both (eqb j i) ∙ sym set_at
    where
      both : (t : Bool) → cond (t && true) v (get_or l j z) ≡ cond t v (get_or l j z)
      both true = refl
      both false = refl
  set-where false = neither (eqb j i)
    where
      neither : (t : Bool) → cond (t && false) v (get_or l j z) ≡ get_or l j z
      neither true = refl
      neither false = refl
