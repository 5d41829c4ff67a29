-- Rows of a table of objects, written from one up to another.
--     within-less      rows up to an earlier one are in the tables too
--     rows-length      the table stays as long as it was
--     rows_at, rows_other      what stands in the rows that are written, and in the others
--     rows_none        no row
--     rows_more        one row more
--     rows_end         all rows, where what is written has come so far
--     rows_same        the same by another rule
--     rows_join        rows written, and then those behind them
--     rows-copied      a list written so far over the start of another, and then further
--     from_more, all_none, all_more     dart by dart
use Rattle.std.proofs.Common.{◌≡◌, ℕ, ◌+◌, ◌-◌, ◌%◌, ◌<◌, ◌≤◌, Bool, true, false, cond, ◌&&◌, ltb, leb, ◌⊎◌, List, length, get_or, set, ℤ, sym, refl, ap, ◌∙◌, inl, inr, ⊎_elim, add-one, arith, length-set, get_or-set_other, get_or-set_same, ext_get_or, le-ltb, lt-ltb, le-leb}
use borrow.Author.Tests.{lt-leb}
use Rattle.kernel.specs.Copy.{copied}
use Rattle.kernel.proofs.Copied.{copied-length, copied-before, copied-past}
use Rattle.theory.proofs.Bool.{eq-or, less-or}
use Rattle.theory.proofs.Below.{list_length, list_at}
use Rattle.carry.specs.Carried.{carried_at, carried_rows, from_of, to_of, carried_all, Within}

pub within-less : {m to q len k : ℕ} {op : List ℤ} → Within m to op len → q ≤ to → len ≤ k → Within m q op k
within-less w h l = record { dims = w.dims; places = (let a = w.places in omega arith); objects = (let a = w.objects in omega arith); few = (let a = w.few in omega arith) }

module _ (f : ℕ → ℕ) (from to : ℕ) (o : List ℕ) where
  abbrev at : ℕ → ℕ
  at q = cond (leb from q && ltb q to) (f q) (get_or o q 0)

  pub rows-length : length (carried_rows f from to o) ≡ length o
  unfolding carried_rows
  rows-length = list_length (length o) at

  is : (q : ℕ) → q < length o → get_or (carried_rows f from to o) q 0 ≡ at q
  unfolding carried_rows
  is q h = list_at (length o) at 0 q h

  pub rows_at : (q : ℕ) → q < length o → from ≤ q → q < to → get_or (carried_rows f from to o) q 0 ≡ f q
  rows_at q h a b = is q h ∙ (λ i. cond (le-leb from q a i && lt-ltb q to b i) (f q) (get_or o q 0))

  pub rows_other : (q : ℕ) → q < length o → (q < from) ⊎ (to ≤ q) → get_or (carried_rows f from to o) q 0 ≡ get_or o q 0
  rows_other q h c =
      is q h ∙ ⊎_elim (λ a. ap (λ t. cond (t && ltb q to) (f q) (get_or o q 0)) (lt-leb from q a)) (λ b. go (leb from q) (le-ltb q to b)) c
    where
      go : (x : Bool) → ltb q to ≡ false → cond (x && ltb q to) (f q) (get_or o q 0) ≡ get_or o q 0
      go true e = ap (λ t. cond t (f q) (get_or o q 0)) e
      go false e = refl

  pub rows_none : to ≤ from → carried_rows f from to o ≡ o
  rows_none l =
      ext_get_or 0 (carried_rows f from to o) o rows-length
      (λ q h. let e = rows-length in rows_other q (omega arith) (⊎_elim (λ a. inl a) (λ b. inr (omega arith)) (less-or q from)))

module _ (f : ℕ → ℕ) (from q : ℕ) (o : List ℕ) (a : from ≤ q) (b : q < length o) where
  abbrev was : List ℕ
  was = carried_rows f from q o

  abbrev more : List ℕ
  more = carried_rows f from (q + 1) o

  here : (i : ℕ) → i < length o → i ≡ q → get_or (set was q (f q)) i 0 ≡ get_or more i 0
  here i g e =
      let l = rows-length f from q o in
      ap (λ (k : ℕ). get_or (set was q (f q)) k 0) e ∙ get_or-set_same was q (f q) 0 (omega arith) ∙ ap f (sym e) ∙ sym (rows_at f from (q + 1) o i g (omega arith) (omega arith))

  other : (i : ℕ) → i < length o → (i ≡ q → ⊥) → get_or was i 0 ≡ get_or more i 0
  other i g n = ⊎_elim
      (λ (e : i < from). rows_other f from q o i g (inl e) ∙ sym (rows_other f from (q + 1) o i g (inl e)))
      (λ (e : from ≤ i). ⊎_elim
      (λ (h : i < q). rows_at f from q o i g e h ∙ sym (rows_at f from (q + 1) o i g e (omega arith)))
      (λ (h : q ≤ i). let k : q + 1 ≤ i = omega (arith, n) in rows_other f from q o i g (inr h) ∙ sym (rows_other f from (q + 1) o i g (inr k)))
      (less-or i q))
      (less-or i from)

  pub rows_more : set was q (f q) ≡ more
  rows_more =
      let l = rows-length f from q o in
      let e = length-set was q (f q) in
      ext_get_or 0 (set was q (f q)) more (e ∙ l ∙ sym (rows-length f from (q + 1) o))
      (λ i h. let g : i < length o = omega arith in ⊎_elim (here i g) (λ n. get_or-set_other was q i (f q) 0 n ∙ other i g n) (eq-or i q))

-- the rows from one up to another are none where the first is past the second
pub rows_end : (f : ℕ → ℕ) (from q to : ℕ) (o : List ℕ) → from ≤ q → q - from ≤ to - from → to ≤ q → carried_rows f from q o ≡ carried_rows f from to o
rows_end f from q to o a b c = ⊎_elim
    (λ (l : from < to). let e : q ≡ to = omega arith in ap (λ (k : ℕ). carried_rows f from k o) e)
    (λ (l : to ≤ from). rows_none f from q o (omega arith) ∙ sym (rows_none f from to o l))
    (less-or from to)

pub rows_same : (f g : ℕ → ℕ) (from to : ℕ) (o : List ℕ) → ((q : ℕ) → from ≤ q → q < to → f q ≡ g q) → carried_rows f from to o ≡ carried_rows g from to o
rows_same f g from to o h =
    let l = rows-length f from to o in
    ext_get_or 0 (carried_rows f from to o) (carried_rows g from to o) (l ∙ sym (rows-length g from to o)) (λ q k. each q (omega arith))
  where
    each : (q : ℕ) → q < length o → get_or (carried_rows f from to o) q 0 ≡ get_or (carried_rows g from to o) q 0
    each q b = ⊎_elim
        (λ (c : q < from). rows_other f from to o q b (inl c) ∙ sym (rows_other g from to o q b (inl c)))
        (λ (c : from ≤ q). ⊎_elim
        (λ (e : q < to). rows_at f from to o q b c e ∙ h q c e ∙ sym (rows_at g from to o q b c e))
        (λ (e : to ≤ q). rows_other f from to o q b (inr e) ∙ sym (rows_other g from to o q b (inr e)))
        (less-or q to))
        (less-or q from)

pub rows_join : (f : ℕ → ℕ) (from q to : ℕ) (o : List ℕ) → from ≤ q → q ≤ to → carried_rows f q to (carried_rows f from q o) ≡ carried_rows f from to o
rows_join f from q to o a b =
    let l = rows-length f from q o in
    ext_get_or 0 (carried_rows f q to (carried_rows f from q o)) (carried_rows f from to o) (rows-length f q to (carried_rows f from q o) ∙ l ∙ sym (rows-length f from to o))
    (λ i k. let m = rows-length f q to (carried_rows f from q o) in each i (omega arith))
  where
    each : (i : ℕ) → i < length o → get_or (carried_rows f q to (carried_rows f from q o)) i 0 ≡ get_or (carried_rows f from to o) i 0
    each i h =
        let l = rows-length f from q o in
        let g : i < length (carried_rows f from q o) = omega arith in
        ⊎_elim
        (λ (c : i < from). rows_other f q to (carried_rows f from q o) i g (inl (omega arith)) ∙ rows_other f from q o i h (inl c) ∙ sym (rows_other f from to o i h (inl c)))
        (λ (c : from ≤ i). ⊎_elim
        (λ (e : i < q). rows_other f q to (carried_rows f from q o) i g (inl e) ∙ rows_at f from q o i h c e ∙ sym (rows_at f from to o i h c (omega arith)))
        (λ (e : q ≤ i). ⊎_elim
        (λ (u : i < to). rows_at f q to (carried_rows f from q o) i g e u ∙ sym (rows_at f from to o i h c u))
        (λ (u : to ≤ i). rows_other f q to (carried_rows f from q o) i g (inr u) ∙ rows_other f from q o i h (inr e) ∙ sym (rows_other f from to o i h (inr u)))
        (less-or i to))
        (less-or i q))
        (less-or i from)

pub rows-copied : (f : ℕ → ℕ) (from to : ℕ) (s o : List ℕ) → from ≤ to → to ≤ length s → to ≤ length o → ((q : ℕ) → from ≤ q → q < to → f q ≡ get_or s q 0)
    → carried_rows f from to (copied from s o) ≡ copied to s o
rows-copied f from to s o a b c h =
    let l = rows-length f from to (copied from s o) in
    ext_get_or 0 (carried_rows f from to (copied from s o)) (copied to s o) (l ∙ long ∙ sym (copied-length 0 to s o b c)) (λ q k. each q (omega arith))
  where
    long : length (copied from s o) ≡ length o
    long = copied-length 0 from s o (omega arith) (omega arith)

    each : (q : ℕ) → q < length (copied from s o) → get_or (carried_rows f from to (copied from s o)) q 0 ≡ get_or (copied to s o) q 0
    each q k = ⊎_elim
        (λ (e : q < from). rows_other f from to (copied from s o) q k (inl e) ∙ copied-before 0 from s o (omega arith) q e ∙ sym (copied-before 0 to s o b q (omega arith)))
        (λ (e : from ≤ q). ⊎_elim
        (λ (g : q < to). rows_at f from to (copied from s o) q k e g ∙ h q e g ∙ sym (copied-before 0 to s o b q g))
        (λ (g : to ≤ q). rows_other f from to (copied from s o) q k (inr g) ∙ copied-past 0 from s o (omega arith) q e ∙ sym (copied-past 0 to s o b q g))
        (less-or q to))
        (less-or q from)

-- ---- dart by dart
module _ (spans op : List ℤ) (w : List ℕ) (m n : ℕ) where
  pub from_more : (d : ℕ) → to_of spans w n (m % 2) d ≡ from_of spans w n (m % 2) (d + 1)
  from_more d = ap (from_of spans w n (m % 2)) (sym (add-one d))

  pub all_none : (o : List ℕ) → carried_all spans op w m n 0 o ≡ o
  unfolding carried_all
  all_none o = refl

  pub all_more : (d : ℕ) (o : List ℕ)
      → carried_rows (carried_at spans op m d) (from_of spans w n (m % 2) d) (to_of spans w n (m % 2) d) (carried_all spans op w m n d o) ≡ carried_all spans op w m n (d + 1) o
  unfolding carried_all
  all_more d o = rw add-one
