-- Tables of rows, number by number, and what a write leaves in them.
--     replicate-at                                a list of one value has it everywhere
--     blank-length, blank-before, blank-past      a list with one value from a place on, number by number
--     table-length, table_at, table-past          so is a table of rows
--     table-own        a list that is a table is the table of its own length
--     table-whole      a list that has a table's rows, and the same number past them, is that table
--     blank-table      a list that has a table's rows, then blanked past them, is that table
--     table_none       a table without rows
--     table_same       equal numbers, equal tables
--     table-set        a number of a row is set
--     table-column     a column is set for listed darts
--     table-row        a row is set up to a number
--     table-rows       whole rows are set for listed darts
--     table_more       the row behind the last is set
--     table-cut        blanked from a row on
--     table-clear      its rows cleared from one on
--     held-past        a list that is a table, behind its rows
--     table-tail       other rows put over its first ones, and what it had behind them cleared
use Rattle.std.proofs.Common.{◌≡◌, ℕ, zero, suc, ◌+◌, ◌-◌, ◌*◌, ◌/◌, ◌%◌, ◌<◌, ◌≤◌, Bool, true, false, cond, ◌&&◌, ◌||◌, eqb, ltb, ◌⊎◌, List, length, get_or, take, drop, set, replicate, sym, refl, ap, ◌∙◌, inl, inr, ⊎_elim, zero-le, le_trans, le_refl, mul-le-mul_right, mod-lt, div-add-mod', le-div_iff_mul-le, div-mul-le_self, arith, length-append, length-drop, length-set, length-take-le, get_or-drop, get_or-set_other, get_or-take, get_or-set_same, get_or-append-add, ext_get_or, ltb-false, ltb-true, le-ltb, lt-ltb, eq-eqb, ne_eqb, eqb-true}
use lib.ListN.{length-replicate, get_or-append, get_or-eq_default}
use lib.Arith.{digits_lt, digits_div, digits_mod}
use Rattle.paper.specs.Below.{any_below, list_below}
use Rattle.paper.specs.Table.{table_of}
use Rattle.theory.proofs.Bool.{or_case, or_left, or_right, and_both, and_intro, clash, decided, bool-ext}
use Rattle.theory.proofs.Below.{less-cases, list_length, list_at}
use Rattle.kernel.specs.Blank.{filled, blanked}
use Rattle.kernel.specs.Copy.{copied}
use Rattle.kernel.proofs.Filled.{fill-past}
use Rattle.kernel.specs.Tail.{tail_end, tail_cleared}
use Rattle.kernel.proofs.Copied.{copied-length, copied-before, copied-past}
use Rattle.kernel.proofs.Cleared.{tail_from, tail-to, tail-past}
use Rattle.hold.specs.Rows.{columned, row_put, rows_put, listed}

less-more : (a b : ℕ) → ltb a (suc b) ≡ (eqb a b || ltb a b)
less-more a b = bool-ext (ltb a (suc b)) (eqb a b || ltb a b)
    (λ t. ⊎_elim (λ e. or_left (eqb a b) (ltb a b) (eq-eqb a b e)) (λ l. or_right (eqb a b) (ltb a b) (lt-ltb a b l)) (less-cases (ltb-true a (suc b) t)))
    (λ t. lt-ltb a (suc b) (⊎_elim (λ e. let x = eqb-true a b e in omega arith) (λ l. let x = ltb-true a b l in omega arith) (or_case (eqb a b) (ltb a b) t)))

-- a test that fails
passed_over : {A : Type 0} (x y : A) (s : Bool) {t : Bool} → t ≡ false → y ≡ cond (s && t) x y
passed_over x y true e = rw e refl
passed_over x y false e = refl

module _ {A : Type 0} (z : A) where
  pub replicate-at : (n i : ℕ) → get_or (replicate n z) i z ≡ z
  replicate-at zero i = refl
  replicate-at (suc n) zero = refl
  replicate-at (suc n) (suc i) = replicate-at n i

  module _ (from : ℕ) (l : List A) (h : from ≤ length l) where
    front : length (take from l) ≡ from
    front = length-take-le from l h

    pub blank-length : length (blanked z from l) ≡ length l
    blank-length =
        let a = front in
        let b = length-replicate (length l - from) z in
        length-append (take from l) (replicate (length l - from) z) ∙ omega arith

    pub blank-before : (i : ℕ) → i < from → get_or (blanked z from l) i z ≡ get_or l i z
    blank-before i g =
        let a = front in
        get_or-append (take from l) (replicate (length l - from) z) z i (omega arith) ∙ get_or-take from l i z g

    pub blank-past : (i : ℕ) → from ≤ i → get_or (blanked z from l) i z ≡ z
    blank-past i g =
        let a = front in
        let e : i ≡ length (take from l) + (i - from) = omega arith in
        ap (λ (k : ℕ). get_or (blanked z from l) k z) e ∙ get_or-append-add (take from l) (replicate (length l - from) z) (i - from) z ∙ replicate-at (length l - from) (i - from)

  module _ (w : ℕ) where
    -- ---- a table, number by number
    abbrev entry : ℕ → (ℕ → ℕ → A) → ℕ → A
    entry n f p = cond (ltb (p / w) n) (f (p / w) (p % w)) z

    pub table-length : (n : ℕ) (f : ℕ → ℕ → A) (len : ℕ) → length (table_of w n f z len) ≡ len
    unfolding table_of
    table-length n f len = list_length len (entry n f)

    pub table-own : (n : ℕ) (f : ℕ → ℕ → A) (len : ℕ) {l : List A} → l ≡ table_of w n f z len → l ≡ table_of w n f z (length l)
    table-own n f len e = e ∙ ap (table_of w n f z) (sym (ap length e ∙ table-length n f len))

    pub table_at : (n : ℕ) (f : ℕ → ℕ → A) (len d q : ℕ) → n * w ≤ len → d < n → q < w → get_or (table_of w n f z len) (d * w + q) z ≡ f d q
    unfolding table_of
    table_at n f len d q h a b =
        list_at len (entry n f) z (d * w + q) (le_trans (digits_lt a b) h)
        ∙ (λ k. cond (ltb (digits_div d b k) n) (f (digits_div d b k) (digits_mod d b k)) z)
        ∙ rw (lt-ltb d n a) refl

    -- a list is a table where it has its rows, and z past them
    pub table-whole : (n : ℕ) (f : ℕ → ℕ → A) (l : List A) → 0 < w → ((d q : ℕ) → d < n → q < w → get_or l (d * w + q) z ≡ f d q)
        → ((p : ℕ) → n * w ≤ p → get_or l p z ≡ z) → l ≡ table_of w n f z (length l)
    unfolding table_of
    table-whole n f l h rows past = ext_get_or z l (table_of w n f z (length l)) (sym (list_length (length l) (entry n f)))
        (λ p a. sym (list_at (length l) (entry n f) z p a ∙ ⊎_elim (inside p) (behind p) (decided (ltb (p / w) n))))
      where
        inside : (p : ℕ) → ltb (p / w) n ≡ true → entry n f p ≡ get_or l p z
        inside p t = rw t (sym (rows (p / w) (p % w) (ltb-true (p / w) n t) (mod-lt p h)) ∙ ap (λ (x : ℕ). get_or l x z) (div-add-mod' p w))

        behind : (p : ℕ) → ltb (p / w) n ≡ false → entry n f p ≡ get_or l p z
        behind p t = rw t (sym (past p (le_trans (mul-le-mul_right w (ltb-false (p / w) n t)) (div-mul-le_self p w))))

    pub blank-table : (n : ℕ) (f : ℕ → ℕ → A) (l : List A) → 0 < w → n * w ≤ length l → ((d q : ℕ) → d < n → q < w → get_or l (d * w + q) z ≡ f d q)
        → blanked z (n * w) l ≡ table_of w n f z (length l)
    blank-table n f l p h rows =
        table-whole n f (blanked z (n * w) l) p (λ d q a b. blank-before (n * w) l h (d * w + q) (digits_lt a b) ∙ rows d q a b) (blank-past (n * w) l h)
        ∙ ap (table_of w n f z) (blank-length (n * w) l h)

    pub table_none : (f : ℕ → ℕ → A) (len : ℕ) → table_of w 0 f z len ≡ replicate len z
    unfolding table_of
    table_none f len =
        let a = list_length len (entry 0 f) in
        ext_get_or z (table_of w 0 f z len) (replicate len z) (a ∙ sym (length-replicate len z))
        (λ p h. list_at len (entry 0 f) z p (omega arith) ∙ rw (le-ltb (p / w) 0 zero-le) (sym (replicate-at len p)))

    pub table-past : (n : ℕ) (f : ℕ → ℕ → A) (len p : ℕ) → 0 < w → n * w ≤ p → get_or (table_of w n f z len) p z ≡ z
    unfolding table_of
    table-past n f len p h a = ⊎_elim
        (λ t. list_at len (entry n f) z p (ltb-true p len t) ∙ rw (le-ltb (p / w) n ((le-div_iff_mul-le h).1 a)) refl)
        (λ t. get_or-eq_default (table_of w n f z len) z (let e = table-length n f len in let g = ltb-false p len t in omega arith))
        (decided (ltb p len))

    pub table_same : (n : ℕ) (f g : ℕ → ℕ → A) (len : ℕ) → 0 < w → ((d q : ℕ) → d < n → q < w → f d q ≡ g d q) → table_of w n f z len ≡ table_of w n g z len
    unfolding table_of
    table_same n f g len h same = λ k. list_below len (λ p. each p (ltb (p / w) n) refl k)
      where
        each : (p : ℕ) (b : Bool) → ltb (p / w) n ≡ b → cond b (f (p / w) (p % w)) z ≡ cond b (g (p / w) (p % w)) z
        each p true t = same (p / w) (p % w) (ltb-true (p / w) n t) (mod-lt p h)
        each p false t = refl

    -- ---- writes
    pub table-set : (n : ℕ) (f : ℕ → ℕ → A) (len d q : ℕ) (v : A) → n * w ≤ len → d < n → q < w
        → set (table_of w n f z len) (d * w + q) v ≡ table_of w n (λ d' q'. cond (eqb d' d && eqb q' q) v (f d' q')) z len
    table-set n f len d q v h a b =
        table-whole n g (set t (d * w + q) v) (omega arith) rows past ∙ ap (table_of w n g z) (length-set t (d * w + q) v ∙ table-length n f len)
      where
        t : List A
        t = table_of w n f z len

        g : ℕ → ℕ → A
        g d' q' = cond (eqb d' d && eqb q' q) v (f d' q')

        here : d * w + q < length t
        here = let e = table-length n f len in let l = le_trans (digits_lt a b) h in omega arith

        rows : (d' q' : ℕ) → d' < n → q' < w → get_or (set t (d * w + q) v) (d' * w + q') z ≡ g d' q'
        rows d' q' a' b' = ⊎_elim at other (decided (eqb d' d && eqb q' q))
          where
            at : (eqb d' d && eqb q' q) ≡ true → get_or (set t (d * w + q) v) (d' * w + q') z ≡ g d' q'
            at e =
                let x = and_both (eqb d' d) (eqb q' q) e in
                rw e ((λ k. get_or (set t (d * w + q) v) (eqb-true d' d x.0 k * w + eqb-true q' q x.1 k) z) ∙ get_or-set_same t (d * w + q) v z here)

            apart : (eqb d' d && eqb q' q) ≡ false → d' * w + q' ≡ d * w + q → ⊥
            apart e p =
                clash
                (and_intro (eqb d' d) (eqb q' q) (eq-eqb d' d (sym (digits_div d' b') ∙ ap (λ (x : ℕ). x / w) p ∙ digits_div d b))
                (eq-eqb q' q (sym (digits_mod d' b') ∙ ap (λ (x : ℕ). x % w) p ∙ digits_mod d b)))
                e

            other : (eqb d' d && eqb q' q) ≡ false → get_or (set t (d * w + q) v) (d' * w + q') z ≡ g d' q'
            other e = rw e (get_or-set_other t (d * w + q) (d' * w + q') v z (apart e) ∙ table_at n f len d' q' h a' b')

        past : (p : ℕ) → n * w ≤ p → get_or (set t (d * w + q) v) p z ≡ z
        past p l =
            get_or-set_other t (d * w + q) p v z (λ (e : p ≡ d * w + q). let x = le_trans (digits_lt a b) l in omega arith)
            ∙ table-past n f len p (omega arith) l

    pub table-column : (n : ℕ) (f : ℕ → ℕ → A) (len a : ℕ) (e : ℕ → ℕ) (v : ℕ → A) (t : ℕ) → n * w ≤ len → a < w → ((i : ℕ) → i < t → e i < n)
        → columned w a e v t (table_of w n f z len) ≡ table_of w n (λ d q. cond (eqb q a && listed e t d) (v d) (f d q)) z len
    unfolding columned any_below
    table-column n f len a e v zero h b within = table_same n f (λ d q. cond (eqb q a && false) (v d) (f d q)) len (omega arith) (λ d q _ _. passed_over (v d) (f d q) (eqb q a) refl)
    table-column n f len a e v (suc t) h b within =
        ap (λ l. set l (e t * w + a) (v (e t))) (table-column n f len a e v t h b (λ i l. within i (omega arith)))
        ∙ table-set n (λ d q. cond (eqb q a && listed e t d) (v d) (f d q)) len (e t) a (v (e t)) h (within t (le_refl (suc t))) b
        ∙ table_same n _ _ len (omega arith) (λ d q _ _. more d q (eqb d (e t)) (eqb q a) (listed e t d) (eqb-true d (e t)))
      where
        more : (d q : ℕ) (x y u : Bool) → (x ≡ true → d ≡ e t) → cond (x && y) (v (e t)) (cond (y && u) (v d) (f d q)) ≡ cond (y && (x || u)) (v d) (f d q)
        more d q true true u p = ap v (sym (p refl))
        more d q true false u p = refl
        more d q false true u p = refl
        more d q false false u p = refl

    pub table-row : (n : ℕ) (f : ℕ → ℕ → A) (len d : ℕ) (g : ℕ → A) (q : ℕ) → 0 < w → n * w ≤ len → d < n → q ≤ w
        → row_put w d g q (table_of w n f z len) ≡ table_of w n (λ d' q'. cond (eqb d' d && ltb q' q) (g q') (f d' q')) z len
    unfolding row_put
    table-row n f len d g zero p h a b = table_same n f (λ d' q'. cond (eqb d' d && ltb q' 0) (g q') (f d' q')) len p
        (λ d' q' _ _. passed_over (g q') (f d' q') (eqb d' d) (le-ltb q' 0 zero-le))
    table-row n f len d g (suc q) p h a b =
        ap (λ l. set l (d * w + q) (g q)) (table-row n f len d g q p h a (omega arith))
        ∙ table-set n (λ d' q'. cond (eqb d' d && ltb q' q) (g q') (f d' q')) len d q (g q) h a b
        ∙ table_same n _ _ len p (λ d' q' _ _. more d' q' (eqb d' d) (eqb q' q) (ltb q' q) (eqb-true q' q) (less-more q' q))
      where
        more : (d' q' : ℕ) (x y u : Bool) → (y ≡ true → q' ≡ q) → {s : Bool} → s ≡ (y || u)
            → cond (x && y) (g q) (cond (x && u) (g q') (f d' q')) ≡ cond (x && s) (g q') (f d' q')
        more d' q' true true u e t = rw t (ap g (sym (e refl)))
        more d' q' true false u e t = rw t refl
        more d' q' false y u e t = refl

    pub table-rows : (n : ℕ) (f : ℕ → ℕ → A) (len : ℕ) (e : ℕ → ℕ) (g : ℕ → A) (t : ℕ) → 0 < w → n * w ≤ len → ((i : ℕ) → i < t → e i < n)
        → rows_put w e g t (table_of w n f z len) ≡ table_of w n (λ d q. cond (listed e t d) (g q) (f d q)) z len
    unfolding rows_put any_below
    table-rows n f len e g zero p h within = refl
    table-rows n f len e g (suc t) p h within =
        ap (row_put w (e t) g w) (table-rows n f len e g t p h (λ i l. within i (omega arith)))
        ∙ table-row n (λ d q. cond (listed e t d) (g q) (f d q)) len (e t) g w p h (within t (le_refl (suc t))) (le_refl w)
        ∙ table_same n _ _ len p (λ d q _ b. more d q (eqb d (e t)) (ltb q w) (listed e t d) (lt-ltb q w b))
      where
        more : (d q : ℕ) (x y u : Bool) → y ≡ true → cond (x && y) (g q) (cond u (g q) (f d q)) ≡ cond (x || u) (g q) (f d q)
        more d q true y u e = rw e refl
        more d q false y u e = refl

    pub table_more : (n : ℕ) (f : ℕ → ℕ → A) (len : ℕ) (g : ℕ → A) → 0 < w → suc n * w ≤ len
        → row_put w n g w (table_of w n f z len) ≡ table_of w (suc n) (λ d q. cond (ltb d n) (f d q) (g q)) z len
    unfolding table_of
    table_more n f len g p h =
        ap (row_put w n g w) wider
        ∙ table-row (suc n) (λ d q. cond (ltb d n) (f d q) z) len n g w p h (le_refl (suc n)) (le_refl w)
        ∙ table_same (suc n) _ _ len p last
      where
        last : (d q : ℕ) → d < suc n → q < w → cond (eqb d n && ltb q w) (g q) (cond (ltb d n) (f d q) z) ≡ cond (ltb d n) (f d q) (g q)
        last d q a b = ⊎_elim
            (λ (t : d ≡ n). rw (eq-eqb d n t, lt-ltb q w b, le-ltb d n (omega arith)) refl)
            (λ (l : d < n). rw (ne_eqb d n (λ (t : d ≡ n). omega arith), lt-ltb d n l) refl)
            (less-cases a)

        -- the row behind the last is one of z's
        wider : table_of w n f z len ≡ table_of w (suc n) (λ d q. cond (ltb d n) (f d q) z) z len
        wider = λ k. list_below len (λ p. each (f (p / w) (p % w)) (eqb (p / w) n) (ltb (p / w) n) (less-more (p / w) n) k)
          where
            each : (x : A) (y u : Bool) {s : Bool} → s ≡ (y || u) → cond u x z ≡ cond s (cond u x z) z
            each x true true t = rw t refl
            each x true false t = rw t refl
            each x false true t = rw t refl
            each x false false t = rw t refl

    pub table-cut : (n : ℕ) (f : ℕ → ℕ → A) (len k : ℕ) → 0 < w → k ≤ n → n * w ≤ len → blanked z (k * w) (table_of w n f z len) ≡ table_of w k f z len
    table-cut n f len k p a h =
        let e = table-length n f len in
        blank-table k f (table_of w n f z len) p (rw e (le_trans (mul-le-mul_right w a) h)) (λ d q b c. table_at n f len d q h (le_trans b a) c)
        ∙ ap (table_of w k f z) e

    pub table-clear : (n : ℕ) (f : ℕ → ℕ → A) (len k : ℕ) → 0 < w → k ≤ n → n * w ≤ len → filled z (k * w) (n * w) (table_of w n f z len) ≡ table_of w k f z len
    table-clear n f len k p a h =
        let t = table_of w n f z len in
        let e = table-length n f len in
        let r = length-drop (n * w) t in
        let c = length-replicate (length t - n * w) z in
        fill-past z (k * w) (n * w) t (mul-le-mul_right w a) (rw e h)
        (ext_get_or z (drop (n * w) t) (replicate (length t - n * w) z) (omega arith)
        (λ i _. get_or-drop (n * w) t i z ∙ table-past n f len (n * w + i) p (omega arith) ∙ sym (replicate-at (length t - n * w) i)))
        ∙ table-cut n f len k p a h

    pub held-past : (n : ℕ) (f : ℕ → ℕ → A) {c : ℕ} {l : List A} → 0 < w → c ≡ n → l ≡ table_of w c f z (length l) → (i : ℕ) → n * w ≤ i → get_or l i z ≡ z
    held-past n f {c} {l} p e h i le = ap (λ t. get_or t i z) (h ∙ ap (λ (k : ℕ). table_of w k f z (length l)) e) ∙ table-past n f (length l) i p le

    pub table-tail : (k old : ℕ) (g : ℕ → ℕ → A) (s l : List A) → 0 < w → k * w ≤ length s → k * w ≤ length l
        → ((d q : ℕ) → d < k → q < w → get_or s (d * w + q) z ≡ g d q) → ((i : ℕ) → old * w ≤ i → get_or l i z ≡ z)
        → tail_cleared z w k old (copied (k * w) s l) ≡ table_of w k g z (length l)
    table-tail k old g s l p x y has past =
        let c = copied (k * w) s l in
        let e : length c ≡ length l = copied-length z (k * w) s l x y in
        let b = tail_end (length c) w k old in
        let v : k * w ≤ length c = rw e y in
        let from = tail_from (length c) w k old v in
        let r = length-drop b c in
        let q = length-replicate (length c - b) z in
        fill-past z (k * w) b c from (tail-to (length c) w k old v)
        (ext_get_or z (drop b c) (replicate (length c - b) z) (omega arith)
        (λ i _. get_or-drop b c i z ∙ copied-past z (k * w) s l x (b + i) (omega arith) ∙ gone (tail-past (length c) w k old) i ∙ sym (replicate-at (length c - b) i)))
        ∙ blank-table k g c p v (λ d i h u. copied-before z (k * w) s l x (d * w + i) (digits_lt h u) ∙ has d i h u)
        ∙ ap (table_of w k g z) e
      where
        gone : {b : ℕ} → (b ≡ length (copied (k * w) s l)) ⊎ (old * w ≤ b) → (i : ℕ) → get_or l (b + i) z ≡ z
        gone {b} (inl t) i = let e = copied-length z (k * w) s l x y in get_or-eq_default l z (omega arith)
        gone {b} (inr t) i = past (b + i) (omega arith)
