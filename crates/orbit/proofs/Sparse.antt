-- Laws of the set in the work list.
--     count-all              every number below n passes
--     one_index              a dart stands once in the queue
--     fits, room             the set has at most n darts, and fewer where one is missing
--     set-count              it has as many darts as pass a test, where they are those that pass
--     is-in, in-yes, in-no   the fact and the test
--     none                   an empty queue is a set, whatever the work list holds
--     grown-.., in-grown     the set grows
--     push-..                one more dart
--     queue_part             the queue, read from the slice that it is
use Rattle.std.proofs.Common.{◌≡◌, ℕ, zero, suc, ◌+◌, ◌-◌, ◌<◌, ◌≤◌, Bool, true, false, not, ◌||◌, eqb, ltb, List, length, get_or, take, drop, set, sym, refl, ap, ◌∙◌, le_refl, not-suc-le-zero, arith, length-set, length-take, get_or-drop, get_or-take, get_or-set_other, get_or-set_same, below_more, ltb-true, lt-ltb, eq-eqb, ne_eqb, eqb-true}
use Rattle.paper.specs.Below.{count_below}
use Rattle.theory.proofs.Bool.{and_both, and_intro, clash}
use Rattle.theory.proofs.Below.{count-le, count-pos, count-into, count-or}
use Rattle.orbit.specs.Sparse.{index, queue, Sparse, In, is_in, Grown, pushed}

pub count-all : (n : ℕ) → count_below n (λ _. true) ≡ n
unfolding count_below
count-all zero = refl
count-all (suc n) = rw (count-all n) (omega arith)

-- ---- what is in the set
module _ (at n : ℕ) (w : List ℕ) (t : ℕ) (X : Sparse at n w t) where
  pub one_index : (q r : ℕ) → q < t → r < t → queue at w q ≡ queue at w r → q ≡ r
  one_index q r a b e = sym (X.back q a) ∙ ap (index w) e ∙ X.back r b

  -- darts that all pass p: there are no more of them than numbers below n that pass
  at_most : (p : ℕ → Bool) → ((q : ℕ) → q < t → p (queue at w q) ≡ true) → t ≤ count_below n p
  at_most p passes =
      let a = count-into t n (λ _. true) p (queue at w) (λ q h _. (X.below q h, passes q h)) (λ q r g h _ _ e. one_index q r g h e) in
      let b = count-all t in
      omega arith

  pub fits : t ≤ n
  fits = let a = at_most (λ _. true) (λ q h. refl) in let b = count-le n (λ _. true) in omega arith

  pub room : (e : ℕ) → e < n → (In at w t e → ⊥) → t < n
  room e h out =
      let a = at_most (λ x. not (eqb x e)) (λ q l. ap not (ne_eqb (queue at w q) e (λ p. out (q, l, p)))) in
      let b = count-pos n (λ x. eqb x e) e h (eq-eqb e e refl) in
      let c = count-or n (λ x. eqb x e) (λ x. not (eqb x e)) (λ x l s. ap not s) in
      let k = count-le n (λ x. eqb x e || not (eqb x e)) in
      omega arith

  -- darts that are all that pass p
  pub set-count : (p : ℕ → Bool) → ((q : ℕ) → q < t → p (queue at w q) ≡ true) → ((e : ℕ) → e < n → p e ≡ true → In at w t e) → t ≡ count_below n p
  set-count p passes all =
      let a = at_most p passes in
      let b =
      count-into n t p (λ _. true) (index w) (λ e h s. let f = all e h s in let z = found e f in let l = f.1 in (omega arith, refl))
      (λ c e g h s u z. let f = all c g s in let k = all e h u in sym f.2 ∙ ap (queue at w) (sym (found c f) ∙ z ∙ found e k) ∙ k.2) in
      let c = count-all t in
      omega arith
    where
      found : (e : ℕ) (i : In at w t e) → index w e ≡ i.0
      found e i = ap (index w) (sym i.2) ∙ X.back i.0 i.1

  pub is-in : (e : ℕ) → In at w t e → is_in at w t e ≡ true
  unfolding is_in
  is-in e i =
      let p : index w e ≡ i.0 = ap (index w) (sym i.2) ∙ X.back i.0 i.1 in
      let l = i.1 in
      and_intro (ltb (index w e) t) (eqb (queue at w (index w e)) e) (lt-ltb (index w e) t (omega arith))
      (eq-eqb (queue at w (index w e)) e (ap (queue at w) p ∙ i.2))

  pub in-yes : (e : ℕ) → is_in at w t e ≡ true → In at w t e
  unfolding is_in
  in-yes e h =
      let b = and_both (ltb (index w e) t) (eqb (queue at w (index w e)) e) h in
      (index w e, ltb-true (index w e) t b.0, eqb-true (queue at w (index w e)) e b.1)

  pub in-no : (e : ℕ) → is_in at w t e ≡ false → In at w t e → ⊥
  in-no e h i = clash (is-in e i) h

pub none : (at n : ℕ) (w : List ℕ) → Sparse at n w 0
none at n w = record { below = λ q h. absurd (not-suc-le-zero h); back = λ q h. absurd (not-suc-le-zero h) }

-- ---- the set grows
pub grown-none : (at : ℕ) (w : List ℕ) (t : ℕ) → Grown at w t w t
grown-none at w t = record { more = le_refl t; same = λ q h. refl }

pub grown-trans : (at : ℕ) {w w' w'' : List ℕ} {t t' t'' : ℕ} → Grown at w t w' t' → Grown at w' t' w'' t'' → Grown at w t w'' t''
grown-trans at G H =
    let a = G.more in let b = H.more in
    record { more = omega arith; same = λ q h. H.same q (omega arith) ∙ G.same q h }

pub in-grown : (at : ℕ) {w w' : List ℕ} {t t' : ℕ} → Grown at w t w' t' → (e : ℕ) → In at w t e → In at w' t' e
in-grown at G e i = let l = i.1 in let m = G.more in (i.0, omega arith, G.same i.0 l ∙ i.2)

-- ---- one more dart
module _ (n : ℕ) (w : List ℕ) (t g : ℕ) (X : Sparse n n w t) (long : n + n ≤ length w) (gn : g < n) (out : In n w t g → ⊥) where
  push-old : (q : ℕ) → q < t → queue n (pushed n w t g) q ≡ queue n w q
  push-old q h = get_or-set_other (set w g t) (n + t) (n + q) g 0 (λ p. omega arith) ∙ get_or-set_other w g (n + q) t 0 (λ p. omega arith)

  pub push-new : queue n (pushed n w t g) t ≡ g
  push-new = let r = room n n w t X g gn out in get_or-set_same (set w g t) (n + t) g 0 (simp length-set (omega arith))

  push-index : index (pushed n w t g) g ≡ t
  push-index = get_or-set_other (set w g t) (n + t) g g 0 (λ p. omega arith) ∙ get_or-set_same w g t 0 (omega arith)

  push-other : (e : ℕ) → e < n → (e ≡ g → ⊥) → index (pushed n w t g) e ≡ index w e
  push-other e h ne = get_or-set_other (set w g t) (n + t) e g 0 (λ p. omega arith) ∙ get_or-set_other w g e t 0 ne

  pub push-set : Sparse n n (pushed n w t g) (t + 1)
  push-set = record {
    below = below_more (λ q. queue n (pushed n w t g) q < n) t (λ q l. rw (push-old q l) (X.below q l)) (rw push-new gn);
    back = below_more (λ q. index (pushed n w t g) (queue n (pushed n w t g) q) ≡ q) t
        (λ q l. ap (index (pushed n w t g)) (push-old q l) ∙ push-other (queue n w q) (X.below q l) (λ e. out (q, l, e)) ∙ X.back q l)
        (ap (index (pushed n w t g)) push-new ∙ push-index);
  }

  pub push-grown : Grown n w t (pushed n w t g) (t + 1)
  push-grown = record { more = omega arith; same = push-old }

-- ---- the first t of the queue, as a slice of the work list
pub queue_part : (n t : ℕ) (w : List ℕ) (q : ℕ) → q < length (take (n + t - n) (drop n w)) → get_or (take (n + t - n) (drop n w)) q 0 ≡ queue n w q
queue_part n t w q h =
    let l = length-take (n + t - n) (drop n w) in
    get_or-take (n + t - n) (drop n w) q 0 (omega arith) ∙ get_or-drop n w q 0
