-- Heights and the sides that a row covers, for every row, in whatever order its spans are.
--     covered-any, covered-in, covered_out    a side is covered where some span of the row covers it
--     span-ends, span-end, end-span           the ends of a row are lo and hi of its spans
--     passed, passed-less         side s of t lies above height b, and so above what is below b
--     covers-passed    a span covers the sides that are above lo and not above hi
--     covers-once       of two spans, one above the other, no side is covered by both
--     foot-covered, head-covered  a span covers the inner sides of its ends
--     covering-same, covered_same       two sides that lie above the same ends are covered by the same span, and so alike
--     covering-inside, inside           where t is no end of the row, the same span covers both its sides, or none does
--     covering-splits, splits           likewise a side of t and the facing side of a height with no end of the row between them
--     covering-between, between         likewise a side of t and the facing side of the next height in a list that has the row's ends
--     reaches          a covered side has an end of the row beyond it
--     Next             what the next member of a list is
--     next-is, next-next, next-splits         where there is one; on a covered side; what the other members are to it
--     next-member, next-covered, next_back    the next member on a covered side is there, is covered from its other side, and leads back
use Rattle.std.proofs.Common.{◌≡◌, ℕ, suc, Bool, true, false, cond, not, ◌&&◌, ◌||◌, ◌⊎◌, List, [], ◌∷◌, ℤ, sym, refl, ap, ◌∙◌, subst, inl, inr, ⊎_elim, Some}
use mathlib.Core.Bool.{not-not}
use mathlib.Core.List.Memᴰ
use lib.Signed.{lt_z, le_z}
use Rattle.paper.specs.Below.{any_of}
use Rattle.paper.specs.Map.{Span}
use Rattle.paper.specs.Span.{covers, covered, covering, covering_from, found, ends_of}
use Rattle.paper.specs.Ends.{is_end, beyond, next}
use Rattle.theory.specs.Member.{◌∈◌}
use Rattle.theory.specs.Ascending.{Order}
use Rattle.theory.proofs.Bool.{clash, not-true, decided, off, and_both, and_intro}
use Rattle.theory.proofs.Member.{any-of-in, any-of-out, end-in}
use Rattle.theory.proofs.Order.{Z-order, le_not, le_in, le_out, le_same, flipped, asym, le-lt, le-le}

-- ---- rows
found-any : (i : ℕ) (r : List Span) (t : ℤ) (s : Bool) → found (covering_from i r t s) ≡ any_of (λ x. covers x t s) r
unfolding covering_from any_of
found-any i [] t s = refl
found-any i (x ∷ r) t s = go (covers x t s) (found-any (suc i) r t s)
  where
    go : (b : Bool) → found (covering_from (suc i) r t s) ≡ any_of (λ x. covers x t s) r
        → found (cond b (Some i) (covering_from (suc i) r t s)) ≡ (b || any_of (λ x. covers x t s) r)
    go true e = refl
    go false e = e

pub covered-any : (r : List Span) (t : ℤ) (s : Bool) → covered r t s ≡ any_of (λ x. covers x t s) r
covered-any r t s = found-any 0 r t s

pub covered-in : (r : List Span) (x : Span) (t : ℤ) (s : Bool) → x ∈ r → covers x t s ≡ true → covered r t s ≡ true
covered-in r x t s h c = covered-any r t s ∙ any-of-in (λ x. covers x t s) r x h c

pub covered_out : (r : List Span) (t : ℤ) (s : Bool) → covered r t s ≡ true → (x : Span) × (x ∈ r) × (covers x t s ≡ true)
covered_out r t s c = any-of-out (λ x. covers x t s) r (sym (covered-any r t s) ∙ c)

pub span-ends : (r : List Span) (x : Span) → x ∈ r → (x.lo ∈ ends_of r) × (x.hi ∈ ends_of r)
unfolding ends_of
span-ends [] x h = absurd (Memᴰ.not-nil h)
span-ends (y ∷ r) x h = ⊎_elim
    (λ (e : x ≡ y). (Memᴰ.head (ap (λ z. z.lo) e), Memᴰ.tail (Memᴰ.head (ap (λ z. z.hi) e))))
    (λ u. let i = span-ends r x u in (Memᴰ.tail (Memᴰ.tail i.0), Memᴰ.tail (Memᴰ.tail i.1)))
    (Memᴰ.cases_cons h)

pub span-end : (r : List Span) (x : Span) (t : ℤ) → x ∈ r → (t ≡ x.lo) ⊎ (t ≡ x.hi) → t ∈ ends_of r
span-end r x t h (inl e) = subst (λ (z : ℤ). z ∈ ends_of r) (sym e) (span-ends r x h).0
span-end r x t h (inr e) = subst (λ (z : ℤ). z ∈ ends_of r) (sym e) (span-ends r x h).1

pub end-span : (r : List Span) (t : ℤ) → t ∈ ends_of r → (x : Span) × (x ∈ r) × ((t ≡ x.lo) ⊎ (t ≡ x.hi))
unfolding ends_of
end-span [] t h = absurd (Memᴰ.not-nil h)
end-span (y ∷ r) t h = ⊎_elim (λ e. (y, Memᴰ.head refl, inl e))
    (λ u. ⊎_elim (λ e. (y, Memᴰ.head refl, inr e)) (λ v. let i = end-span r t v in (i.0, Memᴰ.tail i.1, i.2)) (Memᴰ.cases_cons u))
    (Memᴰ.cases_cons h)

-- ---- sides
abbrev pub passed : ℤ → ℤ → Bool → Bool
passed b t true = le_z b t
passed b t false = lt_z b t

pub covers-passed : (x : Span) (t : ℤ) (s : Bool) → covers x t s ≡ (passed x.lo t s && not (passed x.hi t s))
covers-passed x t true = ap (λ b. le_z x.lo t && b) (sym (not-not (lt_z t x.hi)) ∙ ap not (sym (le_not x.hi t)))
covers-passed x t false = ap (λ b. lt_z x.lo t && b) (le_not t x.hi)

-- a span covers the side up of its foot and the side down of its head
pub foot-covered : (x : Span) → lt_z x.lo x.hi ≡ true → covers x x.lo true ≡ true
foot-covered x p = and_intro (le_z x.lo x.lo) (lt_z x.lo x.hi) (le_same x.lo) p

pub head-covered : (x : Span) → lt_z x.lo x.hi ≡ true → covers x x.hi false ≡ true
head-covered x p = and_intro (lt_z x.lo x.hi) (le_z x.hi x.hi) p (le_same x.hi)

-- a side above b is above all that is not above b
pub passed-less : (a b t : ℤ) (s : Bool) → lt_z b a ≡ false → passed b t s ≡ true → passed a t s ≡ true
passed-less a b t true p q = le_in a t (le-le lt_z Z-order a b t p (le_out b t q))
passed-less a b t false p q = le-lt lt_z Z-order a b t p q

-- of two spans, one above the other, no side is covered by both
pub covers-once : (y x : Span) (t : ℤ) (s : Bool) → lt_z x.lo y.hi ≡ false → covers x t s ≡ true → covers y t s ≡ false
covers-once y x t s l c =
    let above = (and_both (passed x.lo t s) (not (passed x.hi t s)) (sym (covers-passed x t s) ∙ c)).0 in
    not-true (covers y t s)
    (λ b. clash (passed-less y.hi x.lo t s l above)
    (off (passed y.hi t s) (and_both (passed y.lo t s) (not (passed y.hi t s)) (sym (covers-passed y t s) ∙ b)).1))

covering-alike : (i : ℕ) (r : List Span) (t t' : ℤ) (s s' : Bool) → ((x : Span) → x ∈ r → covers x t s ≡ covers x t' s') → covering_from i r t s ≡ covering_from i r t' s'
unfolding covering_from
covering-alike i [] t t' s s' f = refl
covering-alike i (x ∷ r) t t' s s' f =
    λ j. cond (f x (Memᴰ.head refl) j) (Some i) (covering-alike (suc i) r t t' s s' (λ y h. f y (Memᴰ.tail h)) j)

pub covering-same : (r : List Span) (t t' : ℤ) (s s' : Bool) → ((b : ℤ) → b ∈ ends_of r → passed b t s ≡ passed b t' s') → covering r t s ≡ covering r t' s'
covering-same r t t' s s' f = covering-alike 0 r t t' s s' alike
  where
    alike : (x : Span) → x ∈ r → covers x t s ≡ covers x t' s'
    alike x h = let e = span-ends r x h in
        covers-passed x t s ∙ (λ i. f x.lo e.0 i && not (f x.hi e.1 i)) ∙ sym (covers-passed x t' s')

pub covered_same : (r : List Span) (t t' : ℤ) (s s' : Bool) → ((b : ℤ) → b ∈ ends_of r → passed b t s ≡ passed b t' s') → covered r t s ≡ covered r t' s'
covered_same r t t' s s' f = ap found (covering-same r t t' s s' f)

pub covering-inside : (r : List Span) (t : ℤ) (s : Bool) → is_end (ends_of r) t ≡ false → covering r t s ≡ covering r t (not s)
covering-inside r t s e = covering-same r t t s (not s) (λ b h. go b s (λ p. clash (end-in (ends_of r) t (subst (λ (z : ℤ). z ∈ ends_of r) p h)) e))
  where
    up-down : (b : ℤ) → (b ≡ t → ⊥) → le_z b t ≡ lt_z b t
    up-down b ne = ⊎_elim (λ h. le_in b t (asym lt_z Z-order b t h) ∙ sym h)
        (λ h. le_not b t ∙ ap not (⊎_elim (λ k. k) (λ k. absurd (ne (Z-order.tri b t h k))) (decided (lt_z t b))) ∙ sym h)
        (decided (lt_z b t))

    go : (b : ℤ) (s : Bool) → (b ≡ t → ⊥) → passed b t s ≡ passed b t (not s)
    go b true ne = up-down b ne
    go b false ne = sym (up-down b ne)

pub inside : (r : List Span) (t : ℤ) (s : Bool) → is_end (ends_of r) t ≡ false → covered r t s ≡ covered r t (not s)
inside r t s e = ap found (covering-inside r t s e)

-- t' so lies beyond t on side s that each end of the row is beyond t or before t', and not both
pub covering-splits : (r : List Span) (t t' : ℤ) (s : Bool) → ((b : ℤ) → b ∈ ends_of r → beyond s b t' ≡ not (beyond s t b)) → covering r t s ≡ covering r t' (not s)
covering-splits r t t' s f = covering-same r t t' s (not s) (λ b h. go b s (f b h))
  where
    go : (b : ℤ) (s : Bool) → beyond s b t' ≡ not (beyond s t b) → passed b t s ≡ passed b t' (not s)
    go b true e = le_not b t ∙ sym e
    go b false e = sym (le_not b t' ∙ ap not e ∙ not-not (lt_z b t))

pub splits : (r : List Span) (t t' : ℤ) (s : Bool) → ((b : ℤ) → b ∈ ends_of r → beyond s b t' ≡ not (beyond s t b)) → covered r t s ≡ covered r t' (not s)
splits r t t' s f = ap found (covering-splits r t t' s f)

-- a covered side has an end beyond it
pub reaches : (r : List Span) (t : ℤ) (s : Bool) → covered r t s ≡ true → (b : ℤ) × (b ∈ ends_of r) × (beyond s t b ≡ true)
reaches r t s c = let x = covered_out r t s c in let e = span-ends r x.0 x.1 in go x.0 e.0 e.1 s x.2
  where
    go : (x : Span) → x.lo ∈ ends_of r → x.hi ∈ ends_of r → (s : Bool) → covers x t s ≡ true → (b : ℤ) × (b ∈ ends_of r) × (beyond s t b ≡ true)
    go x l h true c = (x.hi, h, (and_both (le_z x.lo t) (lt_z t x.hi) c).1)
    go x l h false c = (x.lo, l, (and_both (lt_z x.lo t) (le_z t x.hi) c).0)

-- ---- the next member
sided : (s : Bool) → Order (beyond s)
sided true = Z-order
sided false = flipped lt_z Z-order

-- t' is the member of l next to t on side s
pub record Next (s : Bool) (t : ℤ) (l : List ℤ) (t' : ℤ) : Type 0 where
  pub member : t' ∈ l
  pub past : beyond s t t' ≡ true
  pub tight : (b : ℤ) → b ∈ l → beyond s t b ≡ true → beyond s b t' ≡ false

abbrev pub None : Bool → ℤ → List ℤ → ℤ → Type 0
None s t l r = ((b : ℤ) → b ∈ l → beyond s t b ≡ false) × (r ≡ t)

-- the next member as computed is next, or t where no member is beyond
pub next-or : (s : Bool) (t : ℤ) (l : List ℤ) → None s t l (next s t l) ⊎ Next s t l (next s t l)
unfolding next None
next-or s t [] = inl (λ b h. absurd (Memᴰ.not-nil h), refl)
next-or s t (x ∷ l) = go (next s t l) (beyond s t x) (beyond s t (next s t l)) (beyond s x (next s t l)) refl refl refl (next-or s t l)
  where
    Q : Order (beyond s)
    Q = sided s

    -- b is x, or it is in l
    cases : {b : ℤ} (P : ℤ → Type 0) → b ∈ x ∷ l → P x → (b ∈ l → P b) → P b
    cases P h f g = ⊎_elim (λ e. subst P (sym e) f) g (Memᴰ.cases_cons h)

    go : (r : ℤ) (a b c : Bool) → beyond s t x ≡ a → beyond s t r ≡ b → beyond s x r ≡ c → None s t l r ⊎ Next s t l r
        → None s t (x ∷ l) (cond a (cond b (cond c x r) x) r) ⊎ Next s t (x ∷ l) (cond a (cond b (cond c x r) x) r)
    go r false b c ea eb ec (inl h) = inl ((λ z k. cases (λ y. beyond s t y ≡ false) k ea (h.0 z)), h.1)
    go r false b c ea eb ec (inr h) = inr (record {
      member = Memᴰ.tail h.member;
      past = h.past;
      tight = λ z k. cases (λ y. beyond s t y ≡ true → beyond s y r ≡ false) k (λ w. absurd (clash w ea)) (h.tight z);
    })
    go r true true c ea eb ec (inl h) = absurd (clash (subst (λ (y : ℤ). beyond s t y ≡ true) h.1 eb) (Q.irrefl t))
    go r true false c ea eb ec (inl h) = inr (record {
      member = Memᴰ.head refl;
      past = ea;
      tight = λ z k. cases (λ y. beyond s t y ≡ true → beyond s y x ≡ false) k (λ w. Q.irrefl x) (λ u w. absurd (clash w (h.0 z u)));
    })
    go r true false c ea eb ec (inr h) = absurd (clash h.past eb)
    go r true true true ea eb ec (inr h) = inr (record {
      member = Memᴰ.head refl;
      past = ea;
      tight = λ z k. cases (λ y. beyond s t y ≡ true → beyond s y x ≡ false) k (λ w. Q.irrefl x)
          (λ u w. not-true (beyond s z x) (λ v. clash (Q.trans z x r v ec) (h.tight z u w)));
    })
    go r true true false ea eb ec (inr h) = inr (record {
      member = Memᴰ.tail h.member;
      past = h.past;
      tight = λ z k. cases (λ y. beyond s t y ≡ true → beyond s y r ≡ false) k (λ w. ec) (h.tight z);
    })

pub next-is : (s : Bool) (t b : ℤ) (l : List ℤ) → b ∈ l → beyond s t b ≡ true → Next s t l (next s t l)
unfolding None
next-is s t b l h w = ⊎_elim (λ n. absurd (clash w (n.0 b h))) (λ n. n) (next-or s t l)

-- a member is before the next one, or else beyond t
pub next-splits : (s : Bool) (t t' : ℤ) (l : List ℤ) → Next s t l t' → (b : ℤ) → b ∈ l → beyond s b t' ≡ not (beyond s t b)
next-splits s t t' l n b h = go (beyond s t b) (beyond s b t) refl refl
  where
    go : (a c : Bool) → beyond s t b ≡ a → beyond s b t ≡ c → beyond s b t' ≡ not a
    go true c e f = n.tight b h e
    go false true e f = (sided s).trans b t t' f n.past
    go false false e f = subst (λ (y : ℤ). beyond s y t' ≡ true) ((sided s).tri t b e f) n.past

pub next-unique : (s : Bool) (t u v : ℤ) (l : List ℤ) → Next s t l u → Next s t l v → u ≡ v
next-unique s t u v l P S = (sided s).tri u v (S.tight u P.member P.past) (P.tight v S.member S.past)

-- the next member leads back
next-turns : (s : Bool) (t t' : ℤ) (l : List ℤ) → t ∈ l → Next s t l t' → Next (not s) t' l t
next-turns true t t' l h n = record { member = h; past = n.past; tight = λ b k w. not-true (lt_z t b) (λ v. clash w (n.tight b k v)) }
next-turns false t t' l h n = record { member = h; past = n.past; tight = λ b k w. not-true (lt_z b t) (λ v. clash w (n.tight b k v)) }

-- ---- B has the ends of a row
module _ (r : List Span) (B : List ℤ) (has : (b : ℤ) → b ∈ ends_of r → b ∈ B) (t : ℤ) (s : Bool) where
  pub next-next : covered r t s ≡ true → Next s t B (next s t B)
  next-next c = let b = reaches r t s c in next-is s t b.0 B (has b.0 b.1) b.2

  pub covering-between : beyond s t (next s t B) ≡ true → covering r t s ≡ covering r (next s t B) (not s)
  unfolding None
  covering-between w = covering-splits r t (next s t B) s (λ b h. next-splits s t (next s t B) B proper b (has b h))
    where
      proper : Next s t B (next s t B)
      proper = ⊎_elim (λ n. absurd (clash (subst (λ (y : ℤ). beyond s t y ≡ true) n.1 w) ((sided s).irrefl t))) (λ n. n) (next-or s t B)

  pub between : beyond s t (next s t B) ≡ true → covered r t s ≡ covered r (next s t B) (not s)
  between w = ap found (covering-between w)

  pub next-member : covered r t s ≡ true → next s t B ∈ B
  next-member c = (next-next c).member

  pub next-covered : covered r t s ≡ true → covered r (next s t B) (not s) ≡ true
  next-covered c = sym (between (next-next c).past) ∙ c

  pub next_back : t ∈ B → covered r t s ≡ true → next (not s) (next s t B) B ≡ t
  next_back h c =
      let n = next-turns s t (next s t B) B h (next-next c) in
      next-unique (not s) (next s t B) (next (not s) (next s t B) B) t B (next-is (not s) (next s t B) t B h n.past) n
