-- The join, a step at a time: what was kept, with the union of what is left, is the union.
--     Joining          the loop's invariant
--     start            it holds at the start
--     small            an end of the row is a key
--     low, crowded     behind a run of copies that has room left, the next end gathered is not below the row's; one that leaves ends below the limit has no room
--     moves            a step passes one end of the row, and at most one of those gathered
--     copied           a run of copies keeps the invariant
--     more             a step keeps the invariant
--     ended, full      the two ways out
use Rattle.std.proofs.Common.{◌≡◌, ℕ, ◌+◌, ◌-◌, ◌*◌, ◌<◌, ◌≤◌, true, ltb, ◌≢◌, ◌⊎◌, List, [], ◌∷◌, ◌++◌, length, get_or, drop, ℤ, pos, sym, refl, ap, ◌∙◌, subst, inl, inr, ⊎_elim, append_assoc, append-nil, add-zero, zero-add, add-one, arith, length-append, drop_of_length-le, ltb-false, ltb-true}
use mathlib.Core.List.Memᴰ
use lib.Signed.{lt_z, le_z}
use Rattle.paper.specs.Width.{work_width}
use Rattle.paper.specs.Ends.{ascending}
use Rattle.theory.specs.Ascending.{Above, Ascends}
use Rattle.theory.proofs.Bool.{clash, decided, lt-or}
use Rattle.theory.proofs.Order.{Z-order, le_out, lt-le, above-mem, above-all, above-trans}
use Rattle.kernel.proofs.Part.{drop-next}
use Rattle.ends.specs.Key.{key_limit, height_of, key_at, put_key, ends_from, ends_at}
use Rattle.ends.specs.Join.{NextEnd, NextOfRow, Passed, Copied, none, one, Stopped, Held}
use Rattle.ends.proofs.Keys.{height-lt, key-put-same, key-put-other, length-put}
use Rattle.ends.proofs.Parts.{ends_next, ends-none, ends_more, ends-length, ends_same}
use Rattle.ends.proofs.Union.{ascending-some, step_left, step_right, step_both, step-twin}

pub record Joining (v₀ v : List ℕ) (p n room : ℕ) (es : List ℤ) (i j m : ℕ) : Type 0 where
  pub il : i ≤ n
  pub jl : j ≤ length es
  pub ml : m ≤ room
  pub same : length v ≡ length v₀
  pub frame : (k : ℕ) → key_at v p k ≡ key_at v₀ p k
  pub ascend : Ascends lt_z (ends_from v₀ p i (n - i))
  pub rise : Ascends le_z (drop j es)
  pub whole : ends_at v (1 - p) m ++ ascending (drop j es ++ ends_from v₀ p i (n - i)) ≡ ascending (es ++ ends_at v₀ p n)

pub start : (v : List ℕ) (p n room : ℕ) (es : List ℤ) → Ascends lt_z (ends_at v p n) → Ascends le_z es → Joining v v p n room es 0 0 0
unfolding ends_from
start v p n room es a r =
    let e : n - 0 ≡ n = omega arith in
    record {
      il = omega arith;
      jl = omega arith;
      ml = omega arith;
      same = refl;
      frame = λ k. refl;
      ascend = rw e a;
      rise = r;
      whole = rw e;
    }

-- ---- the lists of a step: A is what is left of the ends gathered, R of the row
-- nothing is left and the key is the limit, or the first is the key's height
abbrev First : List ℤ → List ℤ → ℕ → Type 0
First A A' x = ((A ≡ height_of x ∷ A') × (x < key_limit)) ⊎ ((A ≡ []) × (x ≡ key_limit))

first-end : (v₀ v : List ℕ) (p i n x : ℕ) → ((k : ℕ) → key_at v p k ≡ key_at v₀ p k) → NextEnd v p i n x
    → First (ends_from v₀ p i (n - i)) (ends_from v₀ p (i + 1) (n - (i + 1))) x
first-end v₀ v p i n x fr (inl h) =
    inl (ends_next v₀ p i n h.0 ∙ ap (λ u. height_of u ∷ ends_from v₀ p (i + 1) (n - (i + 1))) (sym (fr i) ∙ sym h.1.0), h.1.1)
first-end v₀ v p i n x fr (inr h) = inr (ends-none v₀ p i n h.0, h.1)

first-of-row : (es : List ℤ) (j y : ℕ) → NextOfRow es j y → First (drop j es) (drop (j + 1) es) y
first-of-row es j y (inl h) = inl (drop-next (pos 0) es j h.0 ∙ ap (λ u. u ∷ drop (j + 1) es) (sym h.1.0), h.1.1)
first-of-row es j y (inr h) = inr (drop_of_length-le es h.0, h.1)

above-none : (x : ℤ) (A : List ℤ) → A ≡ [] → Above lt_z x A
above-none x A e = rw e tt

-- what is below the first of a rising list is below all of it
above-rise : (x y : ℤ) (R R' : List ℤ) → R ≡ y ∷ R' → lt_z x y ≡ true → Ascends le_z R → Above lt_z x R
above-rise x y R R' e h r =
    let a = (rw e at r).0 in
    rw e (h, above-all lt_z x R' (λ b k. lt-le lt_z Z-order x y b h (le_out y b (above-mem le_z y b R' a k))))

-- the next end gathered is the lesser
left : (A A' R R' : List ℤ) (x y : ℕ) → First A A' x → First R R' y → Ascends lt_z A → Ascends le_z R
    → x < y → ascending (R ++ A) ≡ height_of x ∷ ascending (R ++ A')
left A A' R R' x y fa fr sa rr l = ⊎_elim
    (λ a. rw a.0 (step_left (height_of x) R A'
    (⊎_elim (λ b. above-rise (height_of x) (height_of y) R R' b.0 (height-lt x y l) rr) (λ b. above-none (height_of x) R b.0) fr) (rw a.0 at sa).0))
    (λ a. let f : ⊥ = ⊎_elim (λ b. omega arith) (λ b. omega arith) fr in absurd f)
    fa

module _ (A A' R R' R'' : List ℤ) (x y z : ℕ) (fa : First A A' x) (fr : First R R' y) (fz : First R' R'' z) (sa : Ascends lt_z A) (rr : Ascends le_z R) where
  rest-A : A ≡ height_of x ∷ A' → Ascends lt_z (height_of x ∷ A')
  rest-A e = rw e at sa

  rest-R : R ≡ height_of y ∷ R' → Ascends le_z (height_of y ∷ R')
  rest-R e = rw e at rr

  -- the row's next is below what comes after it, unless that is the same
  row-above : R ≡ height_of y ∷ R' → y ≢ z → Above lt_z (height_of y) R'
  row-above e ne = ⊎_elim (λ b. above-rise (height_of y) (height_of z) R' R'' b.0 (apart b.0) (rest-R e).1) (λ b. above-none (height_of y) R' b.0) fz
    where
      apart : R' ≡ height_of z ∷ R'' → lt_z (height_of y) (height_of z) ≡ true
      apart f = ⊎_elim (height-lt y z)
          (λ l. absurd (clash (height-lt z y l) (le_out (height_of y) (height_of z) (rw f at (rest-R e).0).0)))
          (lt-or y z ne)

  twin : y < key_limit → y ≡ z → ascending (R ++ A) ≡ ascending (R' ++ A)
  twin small e = ⊎_elim
      (λ b. ⊎_elim (λ d. rw (b.0, d.0, e) (step-twin (height_of z) R'' A)) (λ d. let f : ⊥ = omega arith in absurd f) fz)
      (λ b. let f : ⊥ = omega arith in absurd f)
      fr

  both : x < key_limit → x ≡ y → y ≢ z → ascending (R ++ A) ≡ height_of y ∷ ascending (R' ++ A')
  both small e ne = ⊎_elim
      (λ a. ⊎_elim
      (λ b. rw (a.0, b.0, e) (step_both (height_of y) R' A' (row-above b.0 ne) (subst (λ k. Above lt_z (height_of k) A') e (rest-A a.0).0)))
      (λ b. let f : ⊥ = omega arith in absurd f) fr)
      (λ a. let f : ⊥ = omega arith in absurd f)
      fa

  right : y < x → y ≢ z → ascending (R ++ A) ≡ height_of y ∷ ascending (R' ++ A)
  right l ne = ⊎_elim
      (λ b. rw b.0 (step_right (height_of y) R' A (row-above b.0 ne)
      (⊎_elim (λ a. rw a.0 (height-lt y x l, above-trans lt_z Z-order (height_of y) (height_of x) A' (height-lt y x l) (rest-A a.0).0))
      (λ a. above-none (height_of y) A a.0) fa)))
      (λ b. let f : ⊥ = ⊎_elim (λ a. omega arith) (λ a. omega arith) fa in absurd f)
      fr

-- ---- a step of the loop
module _ {v₀ v : List ℕ} {p n room : ℕ} {es : List ℤ} {i j m : ℕ} (J : Joining v₀ v p n room es i j m)
    (hp : p ≤ 1) (long : room * work_width ≤ length v₀) (x y u : ℕ) (hx : NextEnd v p i n x) (hy : NextOfRow es j y) where
  -- the table with u at the next free place of the other half
  abbrev put : List ℕ
  put = put_key v (1 - p) m u

  fA : First (ends_from v₀ p i (n - i)) (ends_from v₀ p (i + 1) (n - (i + 1))) x
  fA = first-end v₀ v p i n x J.frame hx

  fR : First (drop j es) (drop (j + 1) es) y
  fR = first-of-row es j y hy

  below-kept : ends_at put (1 - p) m ≡ ends_at v (1 - p) m
  below-kept = ends_same v put (1 - p) 0 m (λ k l. key-put-other v (1 - p) m u (1 - p) k (omega arith) (omega arith) (inr (λ e. omega arith)))

  frame-kept : (k : ℕ) → key_at put p k ≡ key_at v₀ p k
  frame-kept k = key-put-other v (1 - p) m u p k (omega arith) hp (inl (λ e. omega arith)) ∙ J.frame k

  kept : m < room → (U T : List ℤ) → U ≡ height_of u ∷ T → ends_at put (1 - p) (m + 1) ++ T ≡ ends_at v (1 - p) m ++ U
  kept l U T e =
      let d = J.same in
      let a = ends_more put (1 - p) 0 m in
      let b = key-put-same v (1 - p) m u (omega arith) (omega arith) in
      rw (add-one m, a, zero-add m, b, below-kept, e) (append_assoc (ends_at v (1 - p) m) (height_of u ∷ []) T)

  -- an end gathered is passed, a number of the row is passed
  pass-end : x < key_limit → (i < n) × Ascends lt_z (ends_from v₀ p (i + 1) (n - (i + 1)))
  pass-end l = ⊎_elim
      (λ a. (a.0, ⊎_elim (λ b. (rw b.0 at J.ascend).1) (λ b. let f : ⊥ = omega arith in absurd f) fA)) (λ a. let f : ⊥ = omega arith in absurd f) hx

  pass-number : y < key_limit → (j < length es) × Ascends le_z (drop (j + 1) es)
  pass-number l = ⊎_elim
      (λ a. (a.0, ⊎_elim (λ b. (rw b.0 at J.rise).1) (λ b. let f : ⊥ = omega arith in absurd f) fR)) (λ a. let f : ⊥ = omega arith in absurd f) hy

  more_left : m < room → u ≡ x → x < y → Joining v₀ put p n room es (i + 1) j (m + 1)
  more_left l e h =
      let xs : x < key_limit = ⊎_elim (λ b. omega arith) (λ b. omega arith) hy in
      let q = pass-end xs in
      let st = left _ _ _ _ x y fA fR J.ascend J.rise h in
      let jl = J.jl in
      record {
        il = omega (arith, q.0);
        jl = jl;
        ml = omega arith;
        same = length-put v (1 - p) m u ∙ J.same;
        frame = frame-kept;
        ascend = q.1;
        rise = J.rise;
        whole = kept l _ _ (st ∙ rw e) ∙ J.whole;
      }

-- ends below the row's next are copied
module _ {v₀ v : List ℕ} {p n room : ℕ} {es : List ℤ} {i j m : ℕ} (J : Joining v₀ v p n room es i j m)
    (hp : p ≤ 1) (long : room * work_width ≤ length v₀) (y : ℕ) (hy : NextOfRow es j y) where
  pub copied : {v' : List ℕ} {k : ℕ} → Copied v p n room i m y v' k → Joining v₀ v' p n room es (i + k) j (m + k)
  copied none = rw (add-zero i, add-zero m) J
  copied (one {k = k} x before l r e h f g) =
      let ei : i + (k + 1) ≡ i + k + 1 = omega arith in
      let em : m + (k + 1) ≡ m + k + 1 = omega arith in
      rw (f, g, ei, em) (more_left (copied before) hp long x y x (inl (l, e)) hy r refl h)

pub small : (es : List ℤ) (j y : ℕ) → j < length es → NextOfRow es j y → y < key_limit
small es j y l (inl h) = h.1.1
small es j y l (inr h) = let f : ⊥ = omega arith in absurd f

pub low : (v : List ℕ) (p n room i m x y : ℕ) → Stopped v p n room i m y → m ≢ room → y ≤ key_limit → NextEnd v p i n x → y ≤ x
low v p n room i m x y s ne l (inl h) = ⊎_elim (λ a. let f : ⊥ = omega arith in absurd f) (⊎_elim (λ a. absurd (ne a)) (λ a. omega (arith, a.0, h.1.0))) s
low v p n room i m x y s ne l (inr h) = omega arith

pub crowded : (v : List ℕ) (p n room i m : ℕ) → Stopped v p n room i m key_limit → i < n → m ≡ room
crowded v p n room i m s l = ⊎_elim (λ a. omega arith) (⊎_elim (λ a. a) (λ a. omega (arith, a.0, a.1))) s

-- the row's next end is passed
module _ {v₀ v : List ℕ} {p n room : ℕ} {es : List ℤ} {i j m : ℕ} (J : Joining v₀ v p n room es i j m)
    (hp : p ≤ 1) (long : room * work_width ≤ length v₀) (go : j < length es) (x y z : ℕ)
    (hx : NextEnd v p i n x) (hy : NextOfRow es j y) (hz : NextOfRow es (j + 1) z) (least : y ≤ x) where
  -- the table with it at the next free place of the other half
  abbrev after : List ℕ
  after = put_key v (1 - p) m y

  ys : y < key_limit
  ys = small es j y go hy

  fZ : First (drop (j + 1) es) (drop (j + 1 + 1) es) z
  fZ = first-of-row es (j + 1) z hz

  more-twin : y ≡ z → Joining v₀ after p n room es i (j + 1) m
  more-twin e =
      let q = pass-number J hp long x y y hx hy ys in
      let st = twin _ _ _ _ _ x y z (fA J hp long x y y hx hy) (fR J hp long x y y hx hy) fZ J.ascend J.rise ys e in
      record {
        il = J.il;
        jl = omega (arith, q.0);
        ml = J.ml;
        same = length-put v (1 - p) m y ∙ J.same;
        frame = frame-kept J hp long x y y hx hy;
        ascend = J.ascend;
        rise = q.1;
        whole = rw (below-kept J hp long x y y hx hy, ← st) J.whole;
      }

  more-both : m < room → x ≡ y → y ≢ z → Joining v₀ after p n room es (i + 1) (j + 1) (m + 1)
  more-both l h ne =
      let xs : x < key_limit = omega (arith, ys) in
      let q = pass-end J hp long x y y hx hy xs in
      let t = pass-number J hp long x y y hx hy ys in
      let st = both _ _ _ _ _ x y z (fA J hp long x y y hx hy) (fR J hp long x y y hx hy) fZ J.ascend J.rise xs h ne in
      record {
        il = omega (arith, q.0);
        jl = omega (arith, t.0);
        ml = omega arith;
        same = length-put v (1 - p) m y ∙ J.same;
        frame = frame-kept J hp long x y y hx hy;
        ascend = q.1;
        rise = t.1;
        whole = kept J hp long x y y hx hy l _ _ st ∙ J.whole;
      }

  more-right : m < room → y < x → y ≢ z → Joining v₀ after p n room es i (j + 1) (m + 1)
  more-right l h ne =
      let t = pass-number J hp long x y y hx hy ys in
      let st = right _ _ _ _ _ x y z (fA J hp long x y y hx hy) (fR J hp long x y y hx hy) fZ J.ascend J.rise h ne in
      record {
        il = J.il;
        jl = omega (arith, t.0);
        ml = omega arith;
        same = length-put v (1 - p) m y ∙ J.same;
        frame = frame-kept J hp long x y y hx hy;
        ascend = J.ascend;
        rise = t.1;
        whole = kept J hp long x y y hx hy l _ _ st ∙ J.whole;
      }

  pub more : (g r k : ℕ) → m ≢ room → Passed x y z g r k → Joining v₀ after p n room es (i + g) (j + r) (m + k)
  more g r k ne (inl h) = rw (h.1.0, h.1.1.0, h.1.1.1, add-zero i, add-zero m) (more-twin h.0)
  more g r k ne (inr (inl h)) = let b = J.ml in rw (h.1.1.0, h.1.1.1.0, h.1.1.1.1) (more-both (omega arith) h.0 h.1.0)
  more g r k ne (inr (inr h)) =
      let b = J.ml in
      rw (h.1.1.0, h.1.1.1.0, h.1.1.1.1, add-zero i) (more-right (omega arith) (omega (arith, h.0, least)) h.1.0)

pub moves : {x y z g r k : ℕ} → Passed x y z g r k → (r ≡ 1) × ((g ≤ 1) × (k ≤ 1))
moves (inl h) = (h.1.1.0, (omega arith, omega arith))
moves (inr (inl h)) = (h.1.1.1.0, (omega arith, omega arith))
moves (inr (inr h)) = (h.1.1.1.0, (omega arith, omega arith))

-- ---- the two ways out
done : (E A R : List ℤ) → A ≡ [] → R ≡ [] → E ++ ascending (R ++ A) ≡ E
unfolding ascending
done E A R a r = rw (a, r) (append-nil E)

module _ {v₀ v : List ℕ} {p n room : ℕ} {es : List ℤ} {i j m : ℕ} (J : Joining v₀ v p n room es i j m) where
  total : length (ascending (es ++ ends_at v₀ p n)) ≡ m + length (ascending (drop j es ++ ends_from v₀ p i (n - i)))
  total = ap length (sym J.whole) ∙ length-append (ends_at v (1 - p) m) _ ∙ rw (ends-length v (1 - p) 0 m)

  left-some : i + j < n + length es → 0 < length (ascending (drop j es ++ ends_from v₀ p i (n - i)))
  left-some h = ⊎_elim
      (λ e. rw (ends_next v₀ p i n (ltb-true i n e)) (ascending-some (height_of (key_at v₀ p i)) _ (Memᴰ.append_right (drop j es) (Memᴰ.head refl))))
      (λ e. let l = ltb-false i n e in
      let jl = J.jl in
      rw (drop-next (pos 0) es j (omega arith)) (ascending-some (get_or es j (pos 0)) _ (Memᴰ.head refl)))
      (decided (ltb i n))

  pub ended : p ≤ 1 → n + length es ≤ i + j → Held (ascending (es ++ ends_at v₀ p n)) v (1 - p) room m
  ended hp h =
      let il = J.il in
      let jl = J.jl in
      let ml = J.ml in
      let e : ends_at v (1 - p) m ≡ ascending (es ++ ends_at v₀ p n)
      = sym (done (ends_at v (1 - p) m) _ _ (ends-none v₀ p i n (omega arith)) (drop_of_length-le es {i = j} (omega arith))) ∙ J.whole in
      let f : m ≡ length (ascending (es ++ ends_at v₀ p n)) = sym (ends-length v (1 - p) 0 m) ∙ ap length e in
      record { half = omega arith; count = λ k. f; held = λ k. e; over = λ k. omega arith }

  pub full : p ≤ 1 → m ≡ room → i + j < n + length es → Held (ascending (es ++ ends_at v₀ p n)) v (1 - p) room (room + 1)
  full hp e h =
      let il = J.il in
      let jl = J.jl in
      let t = total in
      let l = left-some h in
      record {
        half = omega arith;
        count = λ k. let f : ⊥ = omega arith in absurd f;
        held = λ k. let f : ⊥ = omega arith in absurd f;
        over = λ k. refl;
      }
