-- Laws of a flood on its way, one for each step of the code.
--     ready-kept             what floods need holds on with another work list of the same length
--     looked-..              one look along an axis
--     LookedBelow, turned-..      looks along the axes below j
--     Front, front-..        the darts before head have been looked from
use Rattle.std.proofs.Common.{◌≡◌, ℕ, ◌+◌, ◌<◌, ◌≤◌, Bool, true, List, length, sym, ap, ◌∙◌, subst, ⊎_elim, le_refl, arith, below_more}
use Rattle.paper.specs.Orbit.{Reach, here, step}
use Rattle.theory.proofs.Bool.{less-or}
use Rattle.orbit.specs.Sparse.{queue, Sparse, In, Grown, pushed}
use Rattle.orbit.specs.Flood.{Links, Ready, Shut, Looked, Around, Flooded}
use Rattle.orbit.proofs.Sparse.{one_index, grown-none, grown-trans, in-grown, push-new, push-set, push-grown}

nowhere : {q t : ℕ} → t ≤ q → q < t → ⊥
nowhere h l = omega arith

last : {q t : ℕ} → t ≤ q → q < t + 1 → t ≡ q
last h l = omega arith

-- only the length of the work list matters
pub ready-kept : {m n : ℕ} {ls w w' : List ℕ} → length w' ≡ length w → Ready m n ls w → Ready m n ls w'
ready-kept k R = let r = R.room in record { darts = R.darts; dims = R.dims; rows = R.rows; room = omega arith; links = R.links }

-- ---- one look along an axis
module _ (α : ℕ → ℕ → ℕ) (S : ℕ → Bool) (n e j : ℕ) (w : List ℕ) (t : ℕ) (X : Sparse n n w t) where
  -- the dart is in the set already
  pub looked-old : In n w t (α j e) → Looked α S n e j w t w t
  looked-old i = record { set = X; grown = grown-none n w t; near = λ s. i; only = λ q h l. absurd (nowhere h l) }

  pub looked-new : (g : ℕ) → g ≡ α j e → S j ≡ true → n + n ≤ length w → g < n → (In n w t g → ⊥) → Looked α S n e j w t (pushed n w t g) (t + 1)
  looked-new g at s long gn out =
      let z = push-new n w t g X long gn out in
      record {
        set = push-set n w t g X long gn out;
        grown = push-grown n w t g X long gn out;
        near = λ _. (t, omega arith, z ∙ at);
        only = λ q h l. (s, sym at ∙ sym z ∙ ap (queue n (pushed n w t g)) (last h l));
      }

-- ---- looks along the axes below j
pub record LookedBelow (α : ℕ → ℕ → ℕ) (m : ℕ) (S : ℕ → Bool) (n e j : ℕ) (w : List ℕ) (t : ℕ) (w' : List ℕ) (t' : ℕ) : Type 0 where
  pub set : Sparse n n w' t'
  pub grown : Grown n w t w' t'
  pub near : (k : ℕ) → k < j → k ≤ m → S k ≡ true → In n w' t' (α k e)
  pub only : (d q : ℕ) → t ≤ q → q < t' → Reach α m S d e → Reach α m S d (queue n w' q)

module _ (α : ℕ → ℕ → ℕ) (m : ℕ) (S : ℕ → Bool) (n e : ℕ) (w : List ℕ) (t : ℕ) where
  pub turned_more : (j : ℕ) {w' w'' : List ℕ} {u u' : ℕ} → j ≤ m
      → LookedBelow α m S n e j w t w' u → Looked α S n e j w' u w'' u' → LookedBelow α m S n e (j + 1) w t w'' u'
  turned_more j {w'} {w''} {u} {u'} jm B L =
      let G = L.grown in
      record {
        set = L.set;
        grown = grown-trans n B.grown G;
        near = below_more (λ k. k ≤ m → S k ≡ true → In n w'' u' (α k e)) j (λ k h l s. in-grown n G (α k e) (B.near k h l s)) (λ l s. L.near s);
        only = λ d q h l r. ⊎_elim
            (λ a. subst (λ (x : ℕ). Reach α m S d x) (sym (G.same q a)) (B.only d q h a r))
            (λ a. let o = L.only q a l in step r j jm o.0 o.1)
            (less-or q u);
      }

  pub turned-all : (j : ℕ) {w' : List ℕ} {u : ℕ} → m < j → LookedBelow α m S n e j w t w' u → Around α m S n e w t w' u
  turned-all j h B = record { set = B.set; grown = B.grown; near = λ k l s. B.near k (omega arith) l s; only = B.only }

-- ---- the end of a flood: what is reached stands behind the first t, as links undo themselves
module _ (α : ℕ → ℕ → ℕ) (m : ℕ) (S : ℕ → Bool) (n d : ℕ) {w w' : List ℕ} {t t' : ℕ} (K : Links α m n) (X : Sparse n n w' t') (G : Grown n w t w' t')
    (closed : Shut α m S n w t) (spent : Shut α m S n w' t') (first : (t < t') × (queue n w' t ≡ d)) where
  all-behind : {e : ℕ} → Reach α m S d e → (q : ℕ) × (t ≤ q) × (q < t') × (queue n w' q ≡ e)
  all-behind here = (t, le_refl t, first.0, first.1)
  all-behind (step {e = e} {g = g} r j jm js p) =
      let b = all-behind r in
      let i = spent b.0 b.2 j jm js in
      let at : queue n w' i.0 ≡ g = i.2 ∙ ap (α j) b.3 ∙ p in
      ⊎_elim
      (λ (l : i.0 < t).
      let k = closed i.0 l j jm js in
      let more = G.more in
      let kl = k.1 in
      let en : e < n = subst (λ (x : ℕ). x < n) b.3 (X.below b.0 b.2) in
      let back : queue n w' k.0 ≡ e = G.same k.0 kl ∙ k.2 ∙ ap (α j) (sym (G.same i.0 l) ∙ at ∙ sym p) ∙ K.undo j e en jm in
      let z : k.0 ≡ b.0 = one_index n n w' t' X k.0 b.0 (omega arith) b.2 (back ∙ sym b.3) in
      let h = b.1 in
      absurd (apart z kl h))
      (λ l. (i.0, l, i.1, at))
      (less-or i.0 t)
    where
      apart : {a b t : ℕ} → a ≡ b → a < t → t ≤ b → ⊥
      apart p q r = omega arith

-- ---- a flood on its way; w is the work list with d in it already
pub record Front (α : ℕ → ℕ → ℕ) (m : ℕ) (S : ℕ → Bool) (n d : ℕ) (w : List ℕ) (t : ℕ) (w' : List ℕ) (head tail : ℕ) : Type 0 where
  pub set : Sparse n n w' tail
  pub grown : Grown n w (t + 1) w' tail
  pub order : (t ≤ head) × (head ≤ tail)
  pub reached : (q : ℕ) → t ≤ q → q < tail → Reach α m S d (queue n w' q)
  pub spent : (q : ℕ) → q < head → (j : ℕ) → j ≤ m → S j ≡ true → In n w' tail (α j (queue n w' q))

pub front-more : (α : ℕ → ℕ → ℕ) (m : ℕ) (S : ℕ → Bool) (n d : ℕ) (w : List ℕ) (t : ℕ) {w' w'' : List ℕ} {head tail tail' : ℕ} (e : ℕ)
    → Front α m S n d w t w' head tail → head < tail → e ≡ queue n w' head
    → Around α m S n e w' tail w'' tail' → Front α m S n d w t w'' (head + 1) tail'
front-more α m S n d w t {w'} {w''} {head} {tail} {tail'} e F l at B =
    let G = B.grown in
    let a = F.order.0 in
    let k = G.more in
    record {
      set = B.set;
      grown = grown-trans n F.grown G;
      order = (omega arith, omega arith);
      reached = λ q h y. ⊎_elim
          (λ x. subst (λ (x : ℕ). Reach α m S d x) (sym (G.same q x)) (F.reached q h x))
          (λ x. B.only d q x y (subst (λ (x : ℕ). Reach α m S d x) (sym at) (F.reached head a l)))
          (less-or q tail);
      spent = below_more (λ q. (j : ℕ) → j ≤ m → S j ≡ true → In n w'' tail' (α j (queue n w'' q))) head
          (λ q h j jm js. subst (λ (x : ℕ). In n w'' tail' (α j x)) (sym (G.same q (omega arith)))
          (in-grown n G (α j (queue n w' q)) (F.spent q h j jm js)))
          (λ j jm js. subst (λ (x : ℕ). In n w'' tail' (α j x)) (at ∙ sym (G.same head l)) (B.near j jm js));
    }

module _ (α : ℕ → ℕ → ℕ) (m : ℕ) (S : ℕ → Bool) (n d : ℕ) (w : List ℕ) (t : ℕ)
    (X : Sparse n n w t) (long : n + n ≤ length w) (dn : d < n) (out : In n w t d → ⊥) (closed : Shut α m S n w t) where
  pub front-start : Front α m S n d (pushed n w t d) t (pushed n w t d) t (t + 1)
  front-start =
      let G = push-grown n w t d X long dn out in
      record {
        set = push-set n w t d X long dn out;
        grown = grown-none n (pushed n w t d) (t + 1);
        order = (le_refl t, omega arith);
        reached = λ q h l. subst (λ (x : ℕ). Reach α m S d x) (sym (push-new n w t d X long dn out) ∙ ap (queue n (pushed n w t d)) (last h l)) here;
        spent = λ q h j jm js. subst (λ (x : ℕ). In n (pushed n w t d) (t + 1) (α j x)) (sym (G.same q h))
            (in-grown n G (α j (queue n w q)) (closed q h j jm js));
      }

  pub front-end : {w' : List ℕ} {head tail : ℕ} → Front α m S n d (pushed n w t d) t w' head tail → tail ≤ head → Links α m n
      → Flooded α m S n d w t w' tail
  front-end {w'} {head} {tail} F l K =
      let G = grown-trans n (push-grown n w t d X long dn out) F.grown in
      let k = F.grown.more in
      let spent : Shut α m S n w' tail = λ q h. F.spent q (omega arith) in
      let first : (t < tail) × (queue n w' t ≡ d) = (omega arith, F.grown.same t (omega arith) ∙ push-new n w t d X long dn out) in
      record {
        set = F.set;
        grown = G;
        shut = spent;
        first = first;
        reached = F.reached;
        all = all-behind α m S n d K F.set G closed spent first;
      }
