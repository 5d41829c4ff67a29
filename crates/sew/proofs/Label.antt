-- Laws of a walk that labels darts, one for each step of the code.
--     either                     what follows in both cases of an answer that may be none
--     further-.., beside-further more darts with their labels
--     stepped-on                 one axis
--     Turned, turned-..          the axes below j
--     Front, front-..            the darts before head have been gone from
use Rattle.std.proofs.Common.{◌≡◌, ℕ, ◌+◌, ◌<◌, ◌≤◌, Bool, true, List, Option, Some, None, sym, refl, ap, ◌∙◌, subst₂, ⊎_elim, not-suc-le-zero, zero-le, arith, below_more}
use Rattle.std.specs.Option.{MatchOption}
use Rattle.theory.specs.Carry.{Carried, stays, goes}
use Rattle.theory.proofs.Bool.{less-or}
use Rattle.orbit.specs.Sparse.{queue}
use Rattle.orbit.proofs.Sparse.{grown-none, grown-trans}
use Rattle.sew.specs.Label.{Beside, Further, Carries, Stood, Stepped, Around, Stuck, Labelled}

nowhere : {q t : ℕ} → t ≤ q → q < t → ⊥
nowhere h l = omega arith

pub either : {A : Type 0} (o : Option A) {N N' : Type 0} {Y Y' : A → Type 0} → (N → N') → ((x : A) → Y x → Y' x) → MatchOption o N Y → MatchOption o N' Y'
either None f g h = f h
either (Some x) f g h = g x h

-- ---- more darts with their labels
pub further-none : (n : ℕ) (w : List ℕ) (t : ℕ) → Further n w t w t
further-none n w t = record { darts = grown-none n w t; labels = grown-none (n + n) w t }

pub further-trans : (n : ℕ) {w w' w'' : List ℕ} {t t' t'' : ℕ} → Further n w t w' t' → Further n w' t' w'' t'' → Further n w t w'' t''
further-trans n G H = record { darts = grown-trans n G.darts H.darts; labels = grown-trans (n + n) G.labels H.labels }

pub beside-further : (n : ℕ) {w w' : List ℕ} {t t' : ℕ} → Further n w t w' t' → (d x : ℕ) → Beside n w t d x → Beside n w' t' d x
beside-further n G d x i =
    let l = i.1 in
    let m = G.darts.more in
    (i.0, omega arith, G.darts.same i.0 l ∙ i.2, G.labels.same i.0 l ∙ i.3)

-- ---- one axis
module _ (α ρ : ℕ → ℕ → ℕ) (S : ℕ → Bool) (X : List ℕ → ℕ → Type 0) (n e x j : ℕ) (w : List ℕ) (t : ℕ) where
  pub stepped-on : {g y : ℕ} {w' : List ℕ} {t' : ℕ} → g ≡ α j e → y ≡ ρ j x → S j ≡ true → Stood X n w t g y w' t' → Stepped α ρ S X n e x j w t w' t'
  stepped-on p q s K = record {
    kept = K.kept;
    further = K.further;
    near = λ _. let i = K.beside in (i.0, i.1, i.2 ∙ p, i.3 ∙ q);
    only = λ r a b. let o = K.only r a b in (s, (sym p ∙ o.0, sym q ∙ o.1));
  }

-- ---- the axes below j
pub record Turned (α ρ : ℕ → ℕ → ℕ) (m : ℕ) (S : ℕ → Bool) (X : List ℕ → ℕ → Type 0) (n e x j : ℕ) (w : List ℕ) (t : ℕ) (w' : List ℕ) (t' : ℕ) : Type 0 where
  pub kept : X w' t'
  pub further : Further n w t w' t'
  pub near : (k : ℕ) → k < j → k ≤ m → S k ≡ true → Beside n w' t' (α k e) (ρ k x)
  pub only : (a b q : ℕ) → t ≤ q → q < t' → Carried α ρ m S a b e x → Carried α ρ m S a b (queue n w' q) (queue (n + n) w' q)

module _ (α ρ : ℕ → ℕ → ℕ) (m : ℕ) (S : ℕ → Bool) (X : List ℕ → ℕ → Type 0) (n e x : ℕ) (w : List ℕ) (t : ℕ) where
  pub turned_none : X w t → Turned α ρ m S X n e x 0 w t w t
  turned_none K = record {
    kept = K;
    further = further-none n w t;
    near = λ k l. absurd (not-suc-le-zero l);
    only = λ a b q h l. absurd (nowhere h l);
  }

  pub turned_more : (j : ℕ) {w' w'' : List ℕ} {u u' : ℕ} → j ≤ m
      → Turned α ρ m S X n e x j w t w' u → Stepped α ρ S X n e x j w' u w'' u' → Turned α ρ m S X n e x (j + 1) w t w'' u'
  turned_more j {w'} {w''} {u} {u'} jm B L =
      let G = L.further in
      record {
        kept = L.kept;
        further = further-trans n B.further G;
        near = below_more (λ k. k ≤ m → S k ≡ true → Beside n w'' u' (α k e) (ρ k x)) j
            (λ k h l s. beside-further n G (α k e) (ρ k x) (B.near k h l s)) (λ l s. L.near s);
        only = λ a b q h l c. ⊎_elim
            (λ y. subst₂ (λ (d z : ℕ). Carried α ρ m S a b d z) (sym (G.darts.same q y)) (sym (G.labels.same q y)) (B.only a b q h y c))
            (λ y. let o = L.only q y l in goes c j jm o.0 o.1.0 o.1.1)
            (less-or q u);
      }

  -- the labels that were there and those found on the way are carried
  turned-carries : {j : ℕ} {w' : List ℕ} {u : ℕ} → Turned α ρ m S X n e x j w t w' u → (a b : ℕ) → Carries α ρ m S n a b w t → Carried α ρ m S a b e x
      → Carries α ρ m S n a b w' u
  turned-carries B a b C c q l = ⊎_elim
      (λ h. subst₂ (λ (d z : ℕ). Carried α ρ m S a b d z) (sym (B.further.darts.same q h)) (sym (B.further.labels.same q h)) (C q h))
      (λ h. B.only a b q h l c)
      (less-or q t)

  -- Z, where it follows from what axis j leads to
  pub turned-stuck : (Z : ℕ → ℕ → Type 0) (j : ℕ) {w' : List ℕ} {u : ℕ} → j ≤ m → S j ≡ true → Turned α ρ m S X n e x j w t w' u
      → Stuck α ρ m S Z n (α j e) (ρ j x) w' u → Stuck α ρ m S Z n e x w t
  turned-stuck Z j jm s B bad a b C c = bad a b (turned-carries B a b C c) (goes c j jm s refl refl)

  pub turned-all : (j : ℕ) {w' : List ℕ} {u : ℕ} → m < j → Turned α ρ m S X n e x j w t w' u → Around α ρ m S X n e x w t w' u
  turned-all j h B = record { kept = B.kept; further = B.further; near = λ k l s. B.near k (omega arith) l s; only = B.only }

-- ---- the walk on its way
pub record Front (α ρ : ℕ → ℕ → ℕ) (m : ℕ) (S : ℕ → Bool) (X : List ℕ → ℕ → Type 0) (n a b : ℕ) (w : List ℕ) (head tail : ℕ) : Type 0 where
  pub order : head ≤ tail
  pub kept : X w tail
  pub first : Beside n w tail a b
  pub carries : Carries α ρ m S n a b w tail
  pub spent : (q : ℕ) → q < head → (j : ℕ) → j ≤ m → S j ≡ true → Beside n w tail (α j (queue n w q)) (ρ j (queue (n + n) w q))

module _ (α ρ : ℕ → ℕ → ℕ) (m : ℕ) (S : ℕ → Bool) (X : List ℕ → ℕ → Type 0) (n a b : ℕ) where
  pub front-start : {w w' : List ℕ} {t : ℕ} → Stood X n w 0 a b w' t → Front α ρ m S X n a b w' 0 t
  front-start K = record {
    order = zero-le;
    kept = K.kept;
    first = K.beside;
    carries = λ q l. let o = K.only q (omega arith) l in subst₂ (λ (d z : ℕ). Carried α ρ m S a b d z) o.0 o.1 stays;
    spent = λ q h. absurd (not-suc-le-zero h);
  }

  pub front-more : {w w' : List ℕ} {head tail tail' : ℕ} (e x : ℕ) → Front α ρ m S X n a b w head tail → head < tail → e ≡ queue n w head → x ≡ queue (n + n) w head
      → Around α ρ m S X n e x w tail w' tail' → Front α ρ m S X n a b w' (head + 1) tail'
  front-more {w} {w'} {head} {tail} {tail'} e x F l p r B =
      let G = B.further in
      let k = G.darts.more in
      record {
        order = omega arith;
        kept = B.kept;
        first = beside-further n G a b F.first;
        carries = λ q h. ⊎_elim
            (λ y. subst₂ (λ (d z : ℕ). Carried α ρ m S a b d z) (sym (G.darts.same q y)) (sym (G.labels.same q y)) (F.carries q y))
            (λ y. B.only a b q y h (subst₂ (λ (d z : ℕ). Carried α ρ m S a b d z) (sym p) (sym r) (F.carries head l)))
            (less-or q tail);
        spent = below_more (λ q. (j : ℕ) → j ≤ m → S j ≡ true → Beside n w' tail' (α j (queue n w' q)) (ρ j (queue (n + n) w' q))) head
            (λ q h j jm s. let y : q < tail = omega arith in
            subst₂ (λ (d z : ℕ). Beside n w' tail' (α j d) (ρ j z)) (sym (G.darts.same q y)) (sym (G.labels.same q y))
            (beside-further n G (α j (queue n w q)) (ρ j (queue (n + n) w q)) (F.spent q h j jm s)))
            (λ j jm s. subst₂ (λ (d z : ℕ). Beside n w' tail' (α j d) (ρ j z)) (p ∙ sym (G.darts.same head l)) (r ∙ sym (G.labels.same head l)) (B.near j jm s));
      }

  pub front-stuck : {w : List ℕ} {head tail : ℕ} (Z : ℕ → ℕ → Type 0) (e x : ℕ) → Front α ρ m S X n a b w head tail → head < tail
      → e ≡ queue n w head → x ≡ queue (n + n) w head → Stuck α ρ m S Z n e x w tail → Z a b
  front-stuck {head = head} Z e x F l p r bad = bad a b F.carries (subst₂ (λ (d z : ℕ). Carried α ρ m S a b d z) (sym p) (sym r) (F.carries head l))

  pub front-end : {w : List ℕ} {head tail : ℕ} → Front α ρ m S X n a b w head tail → tail ≤ head → Labelled α ρ m S X n a b w tail
  front-end {w} {head} {tail} F l = record { kept = F.kept; carries = F.carries; all = all }
    where
      all : {d x : ℕ} → Carried α ρ m S a b d x → Beside n w tail d x
      all stays = F.first
      all (goes c j jm s p q) =
          let i = all c in
          let z = i.1 in
          let k = F.spent i.0 (omega arith) j jm s in
          (k.0, k.1, k.2 ∙ ap (α j) i.2 ∙ p, k.3 ∙ ap (ρ j) i.3 ∙ q)
