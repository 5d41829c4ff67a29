-- A pairing is forced: where one exists the partners found in rounds are it. So the test `sewable` decides whether one exists.
--     Walk             d and e are reached from a and b by the same axes
--     partner-walk     every dart of A has a partner, reached by the same axes
--     pairing-unique   two pairings agree on A
--     pairing-found    a pairing that exists is the one that was found
--     sewable-sound, sewable-complete     the test passes exactly where A and B are apart and a pairing exists
use Rattle.std.proofs.Common.{◌≡◌, ℕ, zero, suc, pred, ◌<◌, ◌≤◌, Bool, true, false, cond, not, ◌&&◌, ◌||◌, eqb, ltb, List, get_or, set, replicate, sym, refl, ap, ◌∙◌, subst, ⊎_elim, suc-le-suc, zero-le, le_refl, le_of_suc-le-suc, arith, ltb-true, lt-ltb, eq-eqb, eqb-true}
use Rattle.paper.specs.Below.{any_below, all_below}
use Rattle.paper.specs.Map.{Map, count, link}
use Rattle.paper.specs.Orbit.{here, step, marked, near, round}
use Rattle.paper.specs.Sew.{far, Far, wing, Pairing, Sewable, told, partners_after, partners, partner}
use Rattle.paper.specs.Sew.{implies, share_none, goes_into, goes_along, one_to_one, goes_onto, sewable}
use Rattle.theory.specs.Local.{Local}
use Rattle.theory.specs.Carry.{Carried, stays, goes}
use Rattle.theory.proofs.Bool.{and_both, and_intro, imp_use, imp_intro, eq-or, clash, off, not-true}
use Rattle.theory.proofs.Below.{any-in, any_out, any_same, all_in, all-out, list_at, one_at, one-off}
use Rattle.theory.proofs.Carry.{carry, carried-right, forced}
use Rattle.theory.proofs.Orbit.{rounds, after, after_next, reached}
use Rattle.theory.proofs.Valid.{reach-within, in-wing, of-wing}

abbrev Walk : Map → ℕ → ℕ → ℕ → ℕ → ℕ → Type 0
Walk M i a b d e = Carried (link M) (link M) M.dim (far i) a b d e

pub pairing-unique : (M : Map) (i a b : ℕ) (f g : ℕ → ℕ) → Pairing M i a b f → Pairing M i a b g → (d : ℕ) → Far M i a d → f d ≡ g d
pairing-unique M i a b f g F G d r =
    let w : (e : ℕ) × Walk M i a b d e = carry r in
    forced f F.start F.along w.1 ∙ sym (forced g G.start G.along w.1)

-- ---- partners found in rounds
module _ (M : Map) (L : Local M) (i a b : ℕ) (an : a < count M) where
  abbrev n : ℕ
  n = count M

  abbrev m : ℕ
  m = M.dim

  abbrev α : ℕ → ℕ → ℕ
  α = link M

  -- a partner is known
  abbrev some : ℕ → Bool
  some p = ltb 0 p

  some-suc : (p : ℕ) → some p ≡ true → p ≡ suc (pred p)
  some-suc p t = let h = ltb-true 0 p t in omega arith

  suc-some : (p e : ℕ) → p ≡ suc e → some p ≡ true
  suc-some p e h = lt-ltb 0 p (omega arith)

  told-some : (ps : List ℕ) (d c : ℕ) → some (told M i ps d c) ≡ any_below c (λ j. far i j && some (get_or ps (α j d) 0))
  unfolding told any_below
  told-some ps d zero = refl
  told-some ps d (suc j) = go (far i j && some (get_or ps (α j d) 0)) (told-some ps d j)
    where
      go : (x : Bool) → some (told M i ps d j) ≡ any_below j (λ j. far i j && some (get_or ps (α j d) 0))
          → some (cond x (suc (α j (pred (get_or ps (α j d) 0)))) (told M i ps d j)) ≡ (x || any_below j (λ j. far i j && some (get_or ps (α j d) 0)))
      go true h = lt-ltb 0 (suc (α j (pred (get_or ps (α j d) 0)))) (suc-le-suc zero-le)
      go false h = h

  -- who told it
  Teller : List ℕ → ℕ → ℕ → ℕ → Type 0
  Teller ps d e c = (j : ℕ) × (j < c) × (far i j ≡ true) × ((e₀ : ℕ) × (get_or ps (α j d) 0 ≡ suc e₀) × (α j e₀ ≡ e))

  told-by : (ps : List ℕ) (d c e : ℕ) → told M i ps d c ≡ suc e → Teller ps d e c
  unfolding told Teller
  told-by ps d zero e h = absurd (omega arith)
  told-by ps d (suc j) e h = go (far i j && some (get_or ps (α j d) 0)) refl (told-by ps d j e) h
    where
      go : (x : Bool) → (far i j && some (get_or ps (α j d) 0)) ≡ x → (told M i ps d j ≡ suc e → Teller ps d e j)
          → cond x (suc (α j (pred (get_or ps (α j d) 0)))) (told M i ps d j) ≡ suc e → Teller ps d e (suc j)
      go true q f w =
          let t = and_both (far i j) (some (get_or ps (α j d) 0)) q in
          (j, le_refl (suc j), t.0, (pred (get_or ps (α j d) 0), some-suc (get_or ps (α j d) 0) t.1, ap pred w))
      go false q f w = let r = f w in let l = r.1 in (r.0, omega arith, r.2, r.3)

  -- what a round makes of d
  passed : List ℕ → ℕ → ℕ
  passed ps d = cond (some (get_or ps d 0)) (get_or ps d 0) (told M i ps d (suc m))

  abbrev Pk : ℕ → ℕ → ℕ
  Pk k d = get_or (partners_after M i a b k) d 0

  next-round : (k d : ℕ) → d < n → Pk (suc k) d ≡ passed (partners_after M i a b k) d
  unfolding partners_after passed
  next-round k d h =
      list_at n (λ d. cond (some (get_or (partners_after M i a b k) d 0)) (get_or (partners_after M i a b k) d 0) (told M i (partners_after M i a b k) d (suc m))) 0 d h

  start-a : Pk 0 a ≡ suc b
  unfolding partners_after
  start-a = one_at n a (suc b) 0 an

  start-other : (d : ℕ) → (d ≡ a → ⊥) → Pk 0 d ≡ 0
  unfolding partners_after
  start-other d ne = one-off n a d (suc b) 0 ne

  passed-some : (ps : List ℕ) (ms : List Bool) → ((e : ℕ) → e < n → some (get_or ps e 0) ≡ marked ms e) → (d : ℕ) → d < n → some (passed ps d) ≡ near α m (far i) ms d
  unfolding passed near
  passed-some ps ms f d h = go (some (get_or ps d 0)) refl (sym (f d h))
    where
      rest : any_below (suc m) (λ j. far i j && some (get_or ps (α j d) 0)) ≡ any_below (suc m) (λ j. far i j && marked ms (α j d))
      rest =
          any_same (suc m) (λ j. far i j && some (get_or ps (α j d) 0)) (λ j. far i j && marked ms (α j d))
          (λ j l. ap (λ z. far i j && z) (f (α j d) (L.within j d h (le_of_suc-le-suc l))))

      go : (x : Bool) → some (get_or ps d 0) ≡ x → marked ms d ≡ some (get_or ps d 0)
          → some (cond x (get_or ps d 0) (told M i ps d (suc m))) ≡ (marked ms d || any_below (suc m) (λ j. far i j && marked ms (α j d)))
      go true q e = q ∙ sym (ap (λ z. z || any_below (suc m) (λ j. far i j && marked ms (α j d))) (e ∙ q))
      go false q e = told-some ps d (suc m) ∙ rest ∙ sym (ap (λ z. z || any_below (suc m) (λ j. far i j && marked ms (α j d))) (e ∙ q))

  -- after each round the darts with a partner are those that are marked
  support : (k d : ℕ) → d < n → some (Pk k d) ≡ marked (after α m (far i) n a k) d
  unfolding after rounds
  support zero d h = ⊎_elim
      (λ (e : d ≡ a). ap (λ z. some (Pk 0 z)) e ∙ ap some start-a ∙ suc-some (suc b) b refl
      ∙ sym (ap (λ z. get_or (set (replicate n false) a true) z false) e ∙ one_at n a true false an))
      (λ ne. ap some (start-other d ne) ∙ sym (one-off n a d true false ne)) (eq-or d a)
  support (suc k) d h =
      ap some (next-round k d h) ∙ passed-some (partners_after M i a b k) (after α m (far i) n a k) (support k) d h
      ∙ sym (ap (λ l. marked l d) (after_next α m (far i) n a k) ∙ round-at (after α m (far i) n a k))
    where
      round-at : (ms : List Bool) → marked (round α m (far i) n ms) d ≡ near α m (far i) ms d
      round-at ms = unfold round in list_at n (near α m (far i) ms) false d h

  -- a partner that is found is reached by the same axes
  found-walk : (k d e : ℕ) → d < n → Pk k d ≡ suc e → Walk M i a b d e
  found-walk zero d e h p = ⊎_elim
      (λ (q : d ≡ a). let z : b ≡ e = ap pred (sym start-a ∙ ap (Pk 0) (sym q) ∙ p) in subst (λ x. Walk M i a b x e) (sym q) (subst (λ x. Walk M i a b a x) z stays))
      (λ ne. let z = start-other d ne in absurd (zero≢ (sym z ∙ p))) (eq-or d a)
    where
      zero≢ : {e : ℕ} → 0 ≡ suc e → ⊥
      zero≢ p = omega arith
  found-walk (suc k) d e h p = go (some (Pk k d)) refl (sym (next-round k d h) ∙ p) (found-walk k)
    where
      as_before : some (Pk k d) ≡ true → passed (partners_after M i a b k) d ≡ Pk k d
      as_before q = unfold passed in rw q refl

      as-told : some (Pk k d) ≡ false → passed (partners_after M i a b k) d ≡ told M i (partners_after M i a b k) d (suc m)
      as-told q = unfold passed in rw q refl

      teller : Teller (partners_after M i a b k) d e (suc m) → ((d e : ℕ) → d < n → Pk k d ≡ suc e → Walk M i a b d e) → Walk M i a b d e
      teller r f = unfold Teller in
          let l = le_of_suc-le-suc r.1 in
          goes (f (α r.0 d) r.3.0 (L.within r.0 d h l) r.3.1) r.0 l r.2 (L.undo r.0 d h l) r.3.2

      go : (x : Bool) → some (Pk k d) ≡ x → passed (partners_after M i a b k) d ≡ suc e → ((d e : ℕ) → d < n → Pk k d ≡ suc e → Walk M i a b d e) → Walk M i a b d e
      go true q w f = f d e h (sym (as_before q) ∙ w)
      go false q w f = teller (told-by (partners_after M i a b k) d (suc m) e (sym (as-told q) ∙ w)) f

  partner-walk : (d : ℕ) → Far M i a d → Walk M i a b d (partner (partners M i a b) d)
  unfolding partners
  partner-walk d r =
      let c = reached α m (far i) n a an L.within L.undo r in
      found-walk n d (pred (Pk n d)) c.0 (some-suc (Pk n d) (support n d c.0 ∙ c.1))

  -- a pairing that exists is the one that was found
  pub pairing-found : (X : Sewable M i a b) (d : ℕ) → Far M i a d → X.f d ≡ partner (partners M i a b) d
  pairing-found X d r = forced X.f X.pairing.start X.pairing.along (partner-walk d r)

-- ---- the test decides the sentence
module _ (M : Map) (L : Local M) (i a b : ℕ) (an : a < count M) (bn : b < count M) where
  abbrev A : List Bool
  A = wing M i a

  abbrev B : List Bool
  B = wing M i b

  abbrev f : ℕ → ℕ
  f = partner (partners M i a b)

  -- what the clauses say of one dart
  abbrev step-along : ℕ → Bool
  step-along d = all_below (suc M.dim) (λ j. implies (far i j) (eqb (f (link M j d)) (link M j (f d))))

  abbrev alone : ℕ → Bool
  alone d = all_below (count M) (λ e. implies (marked A e) (implies (eqb (f d) (f e)) (eqb d e)))

  abbrev hit : ℕ → Bool
  hit e = any_below (count M) (λ d. marked A d && eqb (f d) e)

  -- the six clauses of the test, one by one
  record Clauses : Type 0 where
    apart : (d : ℕ) → d < count M → marked A d ≡ true → marked B d ≡ false
    start : f a ≡ b
    into : (d : ℕ) → d < count M → marked A d ≡ true → marked B (f d) ≡ true
    along : (j d : ℕ) → j ≤ M.dim → d < count M → far i j ≡ true → marked A d ≡ true → f (link M j d) ≡ link M j (f d)
    one : (d e : ℕ) → d < count M → e < count M → marked A d ≡ true → marked A e ≡ true → f d ≡ f e → d ≡ e
    onto : (e : ℕ) → e < count M → marked B e ≡ true → (d : ℕ) × (d < count M) × (marked A d ≡ true) × (f d ≡ e)

  clauses : sewable M i a b ≡ true → Clauses
  unfolding sewable
  clauses t =
      let n = count M in
      let t1 = and_both (share_none n A B) (eqb (f a) b && (goes_into n A B f && (goes_along M i A f && (one_to_one n A f && goes_onto n A B f)))) t in
      let t2 = and_both (eqb (f a) b) (goes_into n A B f && (goes_along M i A f && (one_to_one n A f && goes_onto n A B f))) t1.1 in
      let t3 = and_both (goes_into n A B f) (goes_along M i A f && (one_to_one n A f && goes_onto n A B f)) t2.1 in
      let t4 = and_both (goes_along M i A f) (one_to_one n A f && goes_onto n A B f) t3.1 in
      let t5 = and_both (one_to_one n A f) (goes_onto n A B f) t4.1 in
      record {
        apart = λ d h u. off (marked B d) (imp_use (marked A d) (not (marked B d)) (all-out n (λ d. implies (marked A d) (not (marked B d))) t1.0 d h) u);
        start = eqb-true (f a) b t2.0;
        into = λ d h u. imp_use (marked A d) (marked B (f d)) (all-out n (λ d. implies (marked A d) (marked B (f d))) t3.0 d h) u;
        along = λ j d l h x u. eqb-true (f (link M j d)) (link M j (f d))
            (imp_use (far i j) (eqb (f (link M j d)) (link M j (f d)))
            (all-out (suc M.dim) (λ j. implies (far i j) (eqb (f (link M j d)) (link M j (f d))))
            (imp_use (marked A d) (step-along d)
            (all-out n (λ d. implies (marked A d) (step-along d)) t4.0 d h) u) j (suc-le-suc l)) x);
        one = λ d e h g u v q. eqb-true d e
            (imp_use (eqb (f d) (f e)) (eqb d e)
            (imp_use (marked A e) (implies (eqb (f d) (f e)) (eqb d e))
            (all-out n (λ e. implies (marked A e) (implies (eqb (f d) (f e)) (eqb d e)))
            (imp_use (marked A d) (alone d) (all-out n (λ d. implies (marked A d) (alone d)) t5.0 d h) u) e g) v)
            (eq-eqb (f d) (f e) q));
        onto = λ e h u.
            let r = any_out n (λ d. marked A d && eqb (f d) e)
            (imp_use (marked B e) (hit e) (all-out n (λ e. implies (marked B e) (hit e)) t5.1 e h) u) in
            let q = and_both (marked A r.0) (eqb (f r.0) e) r.2 in
            (r.0, r.1, q.0, eqb-true (f r.0) e q.1);
      }

  pub sewable-sound : sewable M i a b ≡ true → Sewable M i a b
  sewable-sound t =
      let K = clauses t in
      record {
        apart = λ d r q. let h = reach-within M L an r in clash (in-wing M L i b d bn q) (K.apart d h (in-wing M L i a d an r));
        f = f;
        pairing = record {
          start = K.start;
          into = λ d r. carried-right (partner-walk M L i a b an d r);
          along = λ j d l x r. K.along j d l (reach-within M L an r) x (in-wing M L i a d an r);
          one = λ d e r q p. K.one d e (reach-within M L an r) (reach-within M L an q) (in-wing M L i a d an r) (in-wing M L i a e an q) p;
          onto = λ e q. let k = K.onto e (reach-within M L bn q) (in-wing M L i b e bn q) in (k.0, of-wing M L i a k.0 an k.1 k.2, k.3);
        };
      }

  pub sewable-complete : Sewable M i a b → sewable M i a b ≡ true
  unfolding sewable
  sewable-complete X =
      let n = count M in
      let F = X.pairing in
      and_intro (share_none n A B) (eqb (f a) b && (goes_into n A B f && (goes_along M i A f && (one_to_one n A f && goes_onto n A B f))))
      (all_in n (λ d. implies (marked A d) (not (marked B d))) (λ d h. imp_intro (marked A d) (not (marked B d))
      (λ u. ap not (not-true (marked B d) (λ v. X.apart d (of-wing M L i a d an h u) (of-wing M L i b d bn h v))))))
      (and_intro (eqb (f a) b) (goes_into n A B f && (goes_along M i A f && (one_to_one n A f && goes_onto n A B f)))
      (eq-eqb (f a) b (sym (same a here) ∙ F.start))
      (and_intro (goes_into n A B f) (goes_along M i A f && (one_to_one n A f && goes_onto n A B f))
      (all_in n (λ d. implies (marked A d) (marked B (f d))) (λ d h. imp_intro (marked A d) (marked B (f d))
      (λ u. let r = of-wing M L i a d an h u in in-wing M L i b (f d) bn (subst (λ z. Far M i b z) (same d r) (F.into d r)))))
      (and_intro (goes_along M i A f) (one_to_one n A f && goes_onto n A B f)
      (all_in n (λ d. implies (marked A d) (step-along d)) (λ d h. imp_intro (marked A d) (step-along d)
      (λ u. let r = of-wing M L i a d an h u in
      all_in (suc M.dim) (λ j. implies (far i j) (eqb (f (link M j d)) (link M j (f d))))
      (λ j l. imp_intro (far i j) (eqb (f (link M j d)) (link M j (f d)))
      (λ x. let jl = le_of_suc-le-suc l in
      eq-eqb (f (link M j d)) (link M j (f d)) (sym (same (link M j d) (step r j jl x refl)) ∙ F.along j d jl x r ∙ ap (link M j) (same d r)))))))
      (and_intro (one_to_one n A f) (goes_onto n A B f)
      (all_in n (λ d. implies (marked A d) (alone d)) (λ d h. imp_intro (marked A d) (alone d)
      (λ u. all_in n (λ e. implies (marked A e) (implies (eqb (f d) (f e)) (eqb d e)))
      (λ e g. imp_intro (marked A e) (implies (eqb (f d) (f e)) (eqb d e))
      (λ v. imp_intro (eqb (f d) (f e)) (eqb d e)
      (λ q. let r = of-wing M L i a d an h u in let s = of-wing M L i a e an g v in
      eq-eqb d e (F.one d e r s (same d r ∙ eqb-true (f d) (f e) q ∙ sym (same e s)))))))))
      (all_in n (λ e. implies (marked B e) (hit e)) (λ e h. imp_intro (marked B e) (hit e)
      (λ u. let k = F.onto e (of-wing M L i b e bn h u) in
      any-in n (λ d. marked A d && eqb (f d) e) k.0 (reach-within M L an k.1)
      (and_intro (marked A k.0) (eqb (f k.0) e) (in-wing M L i a k.0 an k.1) (eq-eqb (f k.0) e (sym (same k.0 k.1) ∙ k.2))))))))))
    where
      same : (d : ℕ) → Far M i a d → X.f d ≡ f d
      same = pairing-found M L i a b an X
