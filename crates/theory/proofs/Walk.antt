-- The pieces of some spans, found by going from each end to the next.
--     pieces-same      spans with the same members have the same pieces, in whatever order they are listed
--     walk_start       the pieces are those from a height on that no end is below
--     walk-stands      each step leads to an end
--     walk-short       there are no more pieces than ends
--     walk_more        from an end: the piece up to the next one, where the side above is covered, then those from there on
--     walk_end         from the highest end: none
--     walk-falls       each step leaves fewer ends above
--     cell-pieces      the pieces of a cell are those of spans that list its darts' rows
use Rattle.std.proofs.Common.{◌≡◌, ℕ, ◌<◌, ◌≤◌, true, false, cond, ◌⊎◌, List, [], ◌∷◌, ◌++◌, length, ℤ, sym, refl, ap, ◌∙◌, subst, inl, inr, ⊎_elim, zero-le, arith}
use mathlib.Core.List.Memᴰ
use lib.Signed.{lt_z, le_z}
use Rattle.paper.specs.Below.{only}
use Rattle.paper.specs.Map.{Span, Map, count, row}
use Rattle.paper.specs.Span.{covered, ends_of}
use Rattle.paper.specs.Cell.{Cell}
use Rattle.paper.specs.Ends.{ascending, is_end, next, stretches, stretches_from, spans, covered_by, around, pieces}
use Rattle.theory.specs.Local.{Local}
use Rattle.theory.specs.Member.{◌∈◌}
use Rattle.theory.specs.Ascending.{Ascends}
use Rattle.theory.specs.Walk.{above, pieces_of, pieces_from}
use Rattle.theory.proofs.Bool.{and_both, clash, decided, bool-ext, not-true}
use Rattle.theory.proofs.Member.{any-of-in, any-of-out, end-in, end-out}
use Rattle.theory.proofs.Order.{Z-order, le_out, asym, above-mem, ascends-ext}
use Rattle.theory.proofs.Ascending.{ascending-ascends, ascending-in, ascending-out, ascending-short}
use Rattle.theory.proofs.Height.{covered_out, span-ends, span-end, end-span, Next, next-is, next-or}
use Rattle.theory.proofs.Ends.{around-in, around-out}
use Rattle.theory.proofs.Stretch.{stretch, stretches-length, kept-short, stretch-held, held}

-- ---- the members above a height
above-yes : (t x : ℤ) (l : List ℤ) → lt_z t x ≡ true → above t (x ∷ l) ≡ x ∷ above t l
unfolding above
above-yes t x l e = ap (λ b. cond b (x ∷ above t l) (above t l)) e

above-no : (t x : ℤ) (l : List ℤ) → lt_z t x ≡ false → above t (x ∷ l) ≡ above t l
unfolding above
above-no t x l e = ap (λ b. cond b (x ∷ above t l) (above t l)) e

above-whole : (t : ℤ) (l : List ℤ) → ((b : ℤ) → b ∈ l → lt_z t b ≡ true) → above t l ≡ l
unfolding above
above-whole t [] f = refl
above-whole t (x ∷ l) f = above-yes t x l (f x (Memᴰ.head refl)) ∙ ap (λ k. x ∷ k) (above-whole t l (λ b h. f b (Memᴰ.tail h)))

above-empty : (t : ℤ) (l : List ℤ) → ((b : ℤ) → b ∈ l → lt_z t b ≡ false) → above t l ≡ []
unfolding above
above-empty t [] f = refl
above-empty t (x ∷ l) f = above-no t x l (f x (Memᴰ.head refl)) ∙ above-empty t l (λ b h. f b (Memᴰ.tail h))

above-first : (x : ℤ) (l : List ℤ) → Ascends lt_z (x ∷ l) → above x (x ∷ l) ≡ l
above-first x l s = above-no x x l (Z-order.irrefl x) ∙ above-whole x l (λ b h. above-mem lt_z x b l s.0 h)

-- above t stands the next member, and above that the rest
above-next : (t u : ℤ) (l : List ℤ) → Ascends lt_z l → Next true t l u → above t l ≡ u ∷ above u l
above-next t u [] s n = absurd (Memᴰ.not-nil n.member)
above-next t u (x ∷ l) s n = ⊎_elim here (later (above-next t u l s.1)) (decided (lt_z t x))
  where
    -- x is the first that is above t, and so the next one
    here : lt_z t x ≡ true → above t (x ∷ l) ≡ u ∷ above u (x ∷ l)
    here e =
        let same : u ≡ x = ⊎_elim (λ q. q) (λ h. absurd (clash (above-mem lt_z x u l s.0 h) (n.tight x (Memᴰ.head refl) e))) (Memᴰ.cases_cons n.member) in
        above-yes t x l e ∙ ap (λ k. x ∷ k) (above-whole t l (λ b h. Z-order.trans t x b e (above-mem lt_z x b l s.0 h)))
        ∙ sym (λ i. same i ∷ (ap (λ z. above z (x ∷ l)) same ∙ above-first x l s) i)

    later : (Next true t l u → above t l ≡ u ∷ above u l) → lt_z t x ≡ false → above t (x ∷ l) ≡ u ∷ above u (x ∷ l)
    later f e =
        let m : u ∈ l = ⊎_elim (λ (q : u ≡ x). absurd (clash (subst (λ (z : ℤ). lt_z t z ≡ true) q n.past) e)) (λ h. h) (Memᴰ.cases_cons n.member) in
        let rest : Next true t l u = record { member = m; past = n.past; tight = λ b h w. n.tight b (Memᴰ.tail h) w } in
        above-no t x l e ∙ f rest ∙ ap (λ k. u ∷ k) (sym (above-no u x l (asym lt_z Z-order x u (above-mem lt_z x u l s.0 m))))

-- ---- spans with the same members
pub covered-by-same : (r r' : List Span) → ((x : Span) → x ∈ r → x ∈ r') → ((x : Span) → x ∈ r' → x ∈ r) → (l : List Span) → covered_by r l ≡ covered_by r' l
unfolding covered_by
covered-by-same r r' f g [] = refl
covered-by-same r r' f g (p ∷ l) = λ i. only (test i) p ++ covered-by-same r r' f g l i
  where
    test : held r p ≡ held r' p
    test =
        bool-ext (held r p) (held r' p) (λ t. let q = any-of-out (λ x. spans x p) r t in any-of-in (λ x. spans x p) r' q.0 (f q.0 q.1) q.2)
        (λ t. let q = any-of-out (λ x. spans x p) r' t in any-of-in (λ x. spans x p) r q.0 (g q.0 q.1) q.2)

ends-same-members : (r r' : List Span) → ((x : Span) → x ∈ r → x ∈ r') → (b : ℤ) → b ∈ ascending (ends_of r) → b ∈ ascending (ends_of r')
ends-same-members r r' f b h =
    let q = end-span r b (ascending-out b (ends_of r) h) in
    ascending-in b (ends_of r') (span-end r' q.0 b (f q.0 q.1) q.2)

pub pieces-same : (r r' : List Span) → ((x : Span) → x ∈ r → x ∈ r') → ((x : Span) → x ∈ r' → x ∈ r) → pieces_of r ≡ pieces_of r'
unfolding pieces_of
pieces-same r r' f g =
    covered-by-same r r' f g (stretches (ascending (ends_of r)))
    ∙ ap (λ l. covered_by r' (stretches l))
    (ascends-ext lt_z (asym lt_z Z-order) (ascending (ends_of r)) (ascending (ends_of r')) (ascending-ascends (ends_of r)) (ascending-ascends (ends_of r')) (ends-same-members r r' f)
    (ends-same-members r' r g))

-- spans that are exactly those in the rows of the darts of d's k-cell
pub cell-pieces : (M : Map) → Local M → (k d : ℕ) → d < count M → (r : List Span) → ((x : Span) → x ∈ r → (e : ℕ) × Cell M k d e × (x ∈ row M e))
    → ((e : ℕ) (x : Span) → Cell M k d e → x ∈ row M e → x ∈ r) → pieces M k d ≡ pieces_of r
cell-pieces M L k d h r out into =
    of-around ∙ pieces-same (around M k d) r (λ x u. let q = around-out M L k d x h u in into q.0 x q.1 q.2) (λ x u. let q = out x u in around-in M L k d q.0 x h q.1 q.2)
  where
    of-around : pieces M k d ≡ pieces_of (around M k d)
    of-around = unfold pieces pieces_of in refl

-- t and what stands first above it are neighbours
neighbours-from : (x : ℤ) (l : List ℤ) (t u : ℤ) (k : List ℤ) → Ascends lt_z (x ∷ l) → t ∈ x ∷ l → above t (x ∷ l) ≡ u ∷ k → stretch t u ∈ stretches_from x l
unfolding stretches_from
neighbours-from x [] t u k s h q =
    ⊎_elim (λ (e : t ≡ x). absurd (no-cons (sym (above-first x [] s) ∙ ap (λ z. above z (x ∷ [])) (sym e) ∙ q))) (λ w. absurd (Memᴰ.not-nil w)) (Memᴰ.cases_cons h)
  where
    no-cons : {a : ℤ} {l : List ℤ} → [] ≡ a ∷ l → ⊥
    no-cons p = let z : ◌≡◌ {A = ℕ} 0 1 = cc in omega arith
neighbours-from x (y ∷ l) t u k s h q =
    ⊎_elim (λ (e : t ≡ x). Memᴰ.head (λ i. stretch (e i) (heads (sym q ∙ ap (λ z. above z (x ∷ (y ∷ l))) e ∙ above-first x (y ∷ l) s) i)))
    (λ w. Memᴰ.tail
    (neighbours-from y l t u k s.1 w (sym (above-no t x (y ∷ l) (asym lt_z Z-order x t (above-mem lt_z x t (y ∷ l) s.0 w))) ∙ q))) (Memᴰ.cases_cons h)
  where
    heads : {a b : ℤ} {l k : List ℤ} → a ∷ l ≡ b ∷ k → a ≡ b
    heads p = cc

neighbours : (l : List ℤ) (t u : ℤ) (k : List ℤ) → Ascends lt_z l → t ∈ l → above t l ≡ u ∷ k → stretch t u ∈ stretches l
neighbours [] t u k s h q = absurd (Memᴰ.not-nil h)
neighbours (x ∷ l) t u k s h q = neighbours-from x l t u k s h q

-- ---- the walk
module _ (r : List Span) where
  abbrev B : List ℤ
  B = ascending (ends_of r)

  asc : Ascends lt_z B
  asc = ascending-ascends (ends_of r)

  -- t is an end, or stands below all of them
  abbrev pub Stands : ℤ → Type 0
  Stands t = (t ∈ ends_of r) ⊎ ((b : ℤ) → b ∈ ends_of r → lt_z t b ≡ true)

  -- below all ends nothing is covered
  low_held : (t : ℤ) (p : Span) → p.lo ≡ t → ((b : ℤ) → b ∈ ends_of r → lt_z t b ≡ true) → held r p ≡ false
  low_held t p e f =
      not-true (held r p)
      (λ w. let q = any-of-out (λ x. spans x p) r w in
      let o = and_both (le_z q.0.lo p.lo) (le_z p.hi q.0.hi) q.2 in
      clash (f q.0.lo (span-ends r q.0 q.1).0) (ap (λ z. lt_z z q.0.lo) (sym e) ∙ le_out q.0.lo p.lo o.0))

  low-covered : (t : ℤ) → ((b : ℤ) → b ∈ ends_of r → lt_z t b ≡ true) → covered r t true ≡ false
  low-covered t f =
      not-true (covered r t true)
      (λ w. let q = covered_out r t true w in
      let o = and_both (le_z q.0.lo t) (lt_z t q.0.hi) q.2 in clash (f q.0.lo (span-ends r q.0 q.1).0) (le_out q.0.lo t o.0))

  at-end : (x : ℤ) → x ∈ ends_of r → ((b : ℤ) → b ∈ ends_of r → lt_z b x ≡ false) → pieces_of r ≡ pieces_from r x
  unfolding pieces_of pieces_from
  at-end x h low = go B refl asc
    where
      go : (l : List ℤ) → B ≡ l → Ascends lt_z l → covered_by r (stretches l) ≡ covered_by r (stretches_from x (above x l))
      go [] e s = absurd (Memᴰ.not-nil (subst (λ k. x ∈ k) e (ascending-in x (ends_of r) h)))
      go (y ∷ l) e s =
          let m = subst (λ k. x ∈ k) e (ascending-in x (ends_of r) h) in
          let q = low y (ascending-out y (ends_of r) (subst (λ k. y ∈ k) (sym e) (Memᴰ.head refl))) in
          let same : x ≡ y = ⊎_elim (λ p. p) (λ u. absurd (clash (above-mem lt_z y x l s.0 u) q)) (Memᴰ.cases_cons m) in
          sym (ap (λ z. covered_by r (stretches_from z (above z (y ∷ l)))) same ∙ ap (λ k. covered_by r (stretches_from y k)) (above-first y l s))

  -- a stretch below all ends is no piece
  drop-first : (t : ℤ) → ((b : ℤ) → b ∈ ends_of r → lt_z t b ≡ true) → (l : List ℤ) → covered_by r (stretches_from t l) ≡ covered_by r (stretches l)
  unfolding covered_by stretches_from only
  drop-first t f [] = refl
  drop-first t f (x ∷ l) = ap (λ b. only b (stretch t x) ++ covered_by r (stretches_from x l)) (low_held t (stretch t x) refl f)

  under : (t : ℤ) → ((b : ℤ) → b ∈ ends_of r → lt_z t b ≡ true) → pieces_of r ≡ pieces_from r t
  unfolding pieces_of pieces_from
  under t f = sym (ap (λ k. covered_by r (stretches_from t k)) (above-whole t B (λ b h. f b (ascending-out b (ends_of r) h))) ∙ drop-first t f B)

  -- the walk may begin at any height that no end is below
  pub walk_start : (t : ℤ) → ((b : ℤ) → b ∈ ends_of r → lt_z b t ≡ false) → (pieces_of r ≡ pieces_from r t) × Stands t
  walk_start t low = ⊎_elim (λ e. let m = end-out (ends_of r) t e in (at-end t m low, inl m)) (λ e. (under t (strictly e), inr (strictly e))) (decided (is_end (ends_of r) t))
    where
      strictly : is_end (ends_of r) t ≡ false → (b : ℤ) → b ∈ ends_of r → lt_z t b ≡ true
      strictly e b h =
          ⊎_elim (λ w. w) (λ w. absurd (clash (end-in (ends_of r) t (subst (λ (z : ℤ). z ∈ ends_of r) (Z-order.tri b t (low b h) w) h)) e)) (decided (lt_z t b))

  -- the next end among the spans is the next in the ascending list
  next-in : (t : ℤ) → lt_z t (next true t (ends_of r)) ≡ true → Next true t B (next true t (ends_of r))
  next-in t e = ⊎_elim (λ n. absurd (clash (subst (λ (z : ℤ). lt_z t z ≡ true) n.1 e) (Z-order.irrefl t)))
      (λ n. record { member = ascending-in (next true t (ends_of r)) (ends_of r) n.member; past = n.past; tight = λ b h w. n.tight b (ascending-out b (ends_of r) h) w })
      (next-or true t (ends_of r))

  pub walk-falls : (t : ℤ) → lt_z t (next true t (ends_of r)) ≡ true → length (above (next true t (ends_of r)) B) < length (above t B)
  walk-falls t e = let q = ap length (above-next t (next true t (ends_of r)) B asc (next-in t e)) in omega arith

  pub walk_end : (t : ℤ) → lt_z t (next true t (ends_of r)) ≡ false → pieces_from r t ≡ []
  unfolding pieces_from covered_by stretches_from
  walk_end t e = ap (λ k. covered_by r (stretches_from t k)) (above-empty t B none)
    where
      none : (b : ℤ) → b ∈ B → lt_z t b ≡ false
      none b h = not-true (lt_z t b) (λ w. clash (next-is true t b (ends_of r) (ascending-out b (ends_of r) h) w).past e)

  pub walk_more : (t : ℤ) → Stands t → lt_z t (next true t (ends_of r)) ≡ true
      → pieces_from r t ≡ only (covered r t true) (stretch t (next true t (ends_of r))) ++ pieces_from r (next true t (ends_of r))
  unfolding pieces_from covered_by stretches_from
  walk_more t h e =
      let u = next true t (ends_of r) in
      let q = above-next t u B asc (next-in t e) in
      ap (λ k. covered_by r (stretches_from t k)) q
      ∙ ap (λ b. only b (stretch t u) ++ covered_by r (stretches_from u (above u B))) (⊎_elim
      (λ m. stretch-held r B asc (λ b w. ascending-in b (ends_of r) w) (stretch t u) (neighbours B t u (above u B) asc (ascending-in t (ends_of r) m) q))
      (λ f. low_held t (stretch t u) refl f ∙ sym (low-covered t f)) h)

  -- and leads to an end
  pub walk-stands : (t : ℤ) → lt_z t (next true t (ends_of r)) ≡ true → Stands (next true t (ends_of r))
  walk-stands t e = inl (ascending-out (next true t (ends_of r)) (ends_of r) (next-in t e).member)

  -- there are no more pieces than ends
  pub walk-short : length (pieces_of r) ≤ length (ends_of r)
  unfolding pieces_of
  walk-short = let a = kept-short r (stretches B) in let b = stretches-short B in let c = ascending-short (ends_of r) in omega arith
    where
      stretches-short : (l : List ℤ) → length (stretches l) ≤ length l
      stretches-short [] = zero-le
      stretches-short (x ∷ l) = let e = stretches-length x l in omega arith
