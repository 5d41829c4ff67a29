-- Laws of the looks along one link.
--     any-axis         lo = hi = 0 let every axis pass
--     across-more      one look more
--     across-listed    after the last the queue lists the darts that were listed and their partners
use Rattle.std.proofs.Common.{◌≡◌, ℕ, ◌+◌, ◌<◌, ◌≤◌, Bool, true, ◌||◌, ltb, leb, List, sym, ap, ◌∙◌, subst, ⊎_elim, zero-le, arith, below_more, le-leb}
use Rattle.paper.specs.Orbit.{marked}
use Rattle.theory.proofs.Bool.{or_case, or_left, or_right, less-or}
use Rattle.orbit.specs.Sparse.{queue, In}
use Rattle.orbit.specs.Flood.{axes, Looked, Listed}
use Rattle.orbit.proofs.Sparse.{grown-trans, in-grown}
use Rattle.orbit.proofs.Listed.{listed-size}
use Rattle.edit.specs.Across.{Across}

pub any-axis : (j : ℕ) → axes 0 0 j ≡ true
any-axis j = or_right (ltb j 0) (leb 0 j) (le-leb 0 j zero-le)

pub across-more : (α : ℕ → ℕ → ℕ) (S : ℕ → Bool) (j n : ℕ) {w : List ℕ} {t q : ℕ} {w' : List ℕ} {u : ℕ} {w'' : List ℕ} {u' : ℕ} {e : ℕ}
    → S j ≡ true → Across (α j) n w t q w' u → e ≡ queue n w q → Looked α S n e j w' u w'' u' → Across (α j) n w t (q + 1) w'' u'
across-more α S j n {w} {t} {q} {w'} {u} {w''} {u'} s A p K = record {
  set = K.set;
  grown = grown-trans n A.grown K.grown;
  near = below_more (λ p. In n w'' u' (α j (queue n w p))) q (λ p h. in-grown n K.grown _ (A.near p h)) (subst (λ (x : ℕ). In n w'' u' (α j x)) p (K.near s));
  only = λ x h l. ⊎_elim
      (λ (g : x < u). let f = A.only x h g in let b = f.1 in (f.0, omega arith, f.2 ∙ sym (K.grown.same x g)))
      (λ (g : u ≤ x). (q, omega arith, ap (α j) (sym p) ∙ (K.only x g l).1))
      (less-or x u);
}

module _ {n : ℕ} {A : List Bool} (F : List Bool) (α : ℕ → ℕ) (within : (e : ℕ) → e < n → α e < n) (undo : (e : ℕ) → e < n → α (α e) ≡ e)
    (both : (e : ℕ) → e < n → marked F e ≡ (marked A e || marked A (α e))) {w : List ℕ} {t : ℕ} (L : Listed n A w t) {w' : List ℕ} {u : ℕ}
    (X : Across α n w t t w' u) where
  -- each dart in the queue is marked
  into : (q : ℕ) → q < u → marked F (queue n w' q) ≡ true
  into q h = both (queue n w' q) (X.set.below q h) ∙ ⊎_elim
      (λ (l : q < t). or_left (marked A (queue n w' q)) (marked A (α (queue n w' q))) (ap (marked A) (X.grown.same q l) ∙ L.marks q l))
      (λ (l : t ≤ q).
      let f = X.only q l h in
      or_right (marked A (queue n w' q)) (marked A (α (queue n w' q)))
      (ap (marked A) (ap α (sym f.2) ∙ undo (queue n w f.0) (L.set.below f.0 f.1)) ∙ L.marks f.0 f.1))
      (less-or q t)

  -- each marked dart is in the queue
  out : (e : ℕ) → e < n → marked F e ≡ true → In n w' u e
  out e h s = ⊎_elim
      (λ a. in-grown n X.grown e (L.all e h a))
      (λ a. let f = L.all (α e) (within e h) a in subst (In n w' u) (ap α f.2 ∙ undo e h) (X.near f.0 f.1))
      (or_case (marked A e) (marked A (α e)) (sym (both e h) ∙ s))

  pub across-listed : Listed n F w' u
  across-listed = record { set = X.set; marks = into; all = out; many = listed-size F X.set into out }
