-- Two blocks that share no row.
--     Level            a row of the one and a row of the other, on the same side and of equal heights
--     joined           where all these lead to each other
--     levels-joined    one walk over the feet and one over the heads
--     alike-joined     blocks whose pieces are alike: one walk over the feet, for both rows of a piece
--     overable-kept    of a table of links only the length matters
use Rattle.std.proofs.Common.{◌≡◌, ℕ, ◌+◌, ◌*◌, ◌<◌, ◌≤◌, Bool, true, false, ◌⊎◌, List, length, get_or, ℤ, sym, refl, ap, ◌∙◌, subst, subst₂, inl, inr, ⊎_elim, arith}
use Rattle.paper.specs.Width.{link_width}
use Rattle.number.specs.First.{side}
use Rattle.number.proofs.First.{side-small}
use Rattle.over.specs.Over.{height_at, feet_from, walk_all, ways, piece, Overable}
use Rattle.over.specs.Block.{Alike, Joinable, Joined}
use Rattle.over.proofs.Read.{Written, Equal, equal, walked, write_then}
use Rattle.over.proofs.Pair.{ways-long, row-own, row-mate, row_stays}

pub overable-kept : {op : List ℤ} {m a x c y e : ℕ} {ol ol' : List ℕ} → length ol' ≡ length ol → Overable op m ol a x c y e → Overable op m ol' a x c y e
overable-kept k A =
    let l = A.own_links in
    record {
      axis = A.axis;
      column = A.column;
      own = A.own;
      other = A.other;
      own_links = omega arith;
      own_places = A.own_places;
      other_places = A.other_places;
      up = A.up;
      other_up = A.other_up;
    }

pub record Level (op : List ℤ) (m x c y e u v : ℕ) : Type 0 where
  pub j : ℕ
  pub i : ℕ
  pub s : Bool
  pub jl : j < c
  pub il : i < e
  pub own : u ≡ x + j * 2 + side s
  pub other : v ≡ y + i * 2 + side s
  pub same : height_at op m u ≡ height_at op m v

module _ {op : List ℤ} {m a x c y e : ℕ} {ol : List ℕ} (A : Joinable op m ol a x c y e) where
  abbrev R : ℕ → ℕ → Type 0
  R = Level op m x c y e

  axis : a < link_width
  axis = A.walks.0.axis

  -- ---- feet, and heads
  abbrev Feet : ℕ → ℕ → Type 0
  Feet = Equal op m x c y e

  abbrev Heads : ℕ → ℕ → Type 0
  Heads = Equal op m (x + 1) c (y + 1) e

  foot : (u v : ℕ) → Feet u v → R u v
  foot u v r = record { j = r.j; i = r.i; s = true; jl = r.jl; il = r.il; own = omega (arith, r.own); other = omega (arith, r.other); same = r.same }

  head : (u v : ℕ) → Heads u v → R u v
  head u v r = record { j = r.j; i = r.i; s = false; jl = r.jl; il = r.il; own = omega (arith, r.own); other = omega (arith, r.other); same = r.same }

  split : (u v : ℕ) → R u v → Feet u v ⊎ Heads u v
  split u v r = go r.s r.own r.other
    where
      go : (s : Bool) → u ≡ x + r.j * 2 + side s → v ≡ y + r.i * 2 + side s → Feet u v ⊎ Heads u v
      go true p q = inl (record { j = r.j; i = r.i; jl = r.jl; il = r.il; own = omega arith; other = omega arith; same = r.same })
      go false p q = inr (record { j = r.j; i = r.i; jl = r.jl; il = r.il; own = omega arith; other = omega arith; same = r.same })

  differ : (u v p q : ℕ) → Feet u v → Heads p q → (p ≡ u → ⊥) × (q ≡ v → ⊥)
  differ u v p q r t = (λ w. omega (arith, r.own, t.own), λ w. omega (arith, r.other, t.other))

  -- ---- where all of these lead to each other
  module _ {ol' : List ℕ} (W : Written (ways a) R ol ol') where
    fits : (u v : ℕ) → R u v → (u * link_width + link_width ≤ length ol) × (v * link_width + link_width ≤ length ol)
    fits u v r =
        let s = side-small r.s in
        (omega (arith, r.own, r.jl, A.walks.1.own_links), omega (arith, r.other, r.il, A.links))

    apart : (u v u' v' : ℕ) → R u v → R u' v' → u ≡ v' → ⊥
    apart u v u' v' r t e =
        let p = side-small r.s in
        let q = side-small t.s in
        ⊎_elim (λ l. omega (arith, r.own, r.jl, t.other)) (λ l. omega (arith, r.own, t.other, t.il)) A.apart

    pub joined : Joined op m a x c y e ol ol'
    joined = record {
      long = W.long;
      met = λ j i s h l p.
          let r : R (x + j * 2 + side s) (y + i * 2 + side s) = record { j = j; i = i; s = s; jl = h; il = l; own = refl; other = refl; same = p } in
          (row-own a W axis fits apart _ _ r, row-mate a W axis fits apart _ _ r);
      own_missed = λ j s h o. row_stays a W axis (x + j * 2 + side s) a axis (λ _ u v r.
          let f = side-small s in
          let g = side-small r.s in (
            λ p.
                let z : v ≡ y + r.i * 2 + side s = omega (arith, r.own, r.other) in
                o r.i r.il (ap (height_at op m) p ∙ r.same ∙ ap (height_at op m) z),
            λ p. ⊎_elim (λ l. omega (arith, r.other)) (λ l. omega (arith, r.other, r.il)) A.apart,
          ));
      other_missed = λ i s h o. row_stays a W axis (y + i * 2 + side s) a axis (λ _ u v r.
          let f = side-small s in
          let g = side-small r.s in (
            λ p. ⊎_elim (λ l. omega (arith, r.own, r.jl)) (λ l. omega (arith, r.own)) A.apart,
            λ p.
                let z : x + r.j * 2 + side s ≡ u = omega (arith, r.own, r.other) in
                o r.j r.jl (ap (height_at op m) z ∙ r.same ∙ ap (height_at op m) (sym p)),
          ));
      rest = λ q b l o. row_stays a W axis q b l (λ p u v r.
          let g = side-small r.s in (
            λ w. ⊎_elim (λ k. omega (arith, r.own)) (λ k. omega (arith, r.own, r.jl)) (o p).0,
            λ w. ⊎_elim (λ k. omega (arith, r.other)) (λ k. omega (arith, r.other, r.il)) (o p).1,
          ));
    }

  -- ---- two walks
  pub levels-joined : {ol₁ ol₂ : List ℕ} → ol₁ ≡ walk_all (ways a) (feet_from op m x c) (feet_from op m y e) x y ol
      → ol₂ ≡ walk_all (ways a) (feet_from op m (x + 1) c) (feet_from op m (y + 1) e) (x + 1) (y + 1) ol₁ → Joined op m a x c y e ol ol₂
  levels-joined {ol₁} {ol₂} feet heads = joined (write_then foot head split differ
      (subst (λ (l : List ℕ). Written (ways a) Feet ol l) (sym feet) (walked (ways a) (ways-long a) op m x c y e ol A.walks.0.up A.walks.0.other_up))
      (subst (λ (l : List ℕ). Written (ways a) Heads ol₁ l) (sym heads)
      (walked (ways a) (ways-long a) op m (x + 1) c (y + 1) e ol₁ A.walks.1.up A.walks.1.other_up)))

  -- ---- one walk
  module _ (S : Alike op m x c y e) where
    -- the row after a foot is a head, and the other way round
    after : (u v : ℕ) → Feet u v → Heads (u + 1) (v + 1)
    after u v r =
        let p : u + 1 ≡ x + r.j * 2 + 1 = omega (arith, r.own) in
        let q : y + r.i * 2 + 1 ≡ v + 1 = omega (arith, r.other) in
        record {
          j = r.j;
          i = r.i;
          jl = r.jl;
          il = r.il;
          own = omega (arith, r.own);
          other = omega (arith, r.other);
          same = ap (height_at op m) p
              ∙ S.heads r.j r.i r.jl r.il (ap (height_at op m) (sym r.own) ∙ r.same ∙ ap (height_at op m) r.other)
              ∙ ap (height_at op m) q;
        }

    under : (u v : ℕ) → Heads u v → (p q : ℕ) × Feet p q × (u ≡ p + 1) × (v ≡ q + 1)
    under u v r =
        let p : x + r.j * 2 + 1 ≡ u = omega (arith, r.own) in
        let q : v ≡ y + r.i * 2 + 1 = omega (arith, r.other) in
        let f = S.feet r.j r.i r.jl r.il (ap (height_at op m) p ∙ r.same ∙ ap (height_at op m) q) in
        (x + r.j * 2, y + r.i * 2, equal r.j r.i r.jl r.il f, sym p, q)

    both : {ol' : List ℕ} → Written (piece a) Feet ol ol' → Written (ways a) R ol ol'
    both W = record {
      long = W.long;
      kept = λ n k. W.kept n (λ u v r l. k (u + 1) (v + 1) (head _ _ (after u v r)) (ways a u v l) ∙ k u v (foot u v r) l);
      done = λ u v n z r s k. ⊎_elim
          (λ (t : Feet u v). W.done u v n z t
          (λ l e. let o = differ u v (u + 1) (v + 1) t (after u v t) in k (u + 1) (v + 1) (head _ _ (after u v t)) o.0 o.1 (ways a u v l) ∙ s l e)
          (λ p q b f g l. let o = differ u v (p + 1) (q + 1) t (after p q b) in
          k (p + 1) (q + 1) (head _ _ (after p q b)) o.0 o.1 (ways a p q l) ∙ k p q (foot p q b) f g l))
          (λ (t : Heads u v).
          let d = under u v t in
          W.done d.0 d.1 n z d.2
          (λ l e. subst₂ (λ (p q : ℕ). get_or (ways a p q (ways a d.0 d.1 l)) n 0 ≡ z) d.3 d.4 (s (ways a d.0 d.1 l) (ways-long a d.0 d.1 l ∙ e)))
          (λ p q b f g l. let o = differ p q u v b t in
          k (p + 1) (q + 1) (head _ _ (after p q b)) (λ w. f (omega (arith, d.3))) (λ w. g (omega (arith, d.4))) (ways a p q l)
          ∙ k p q (foot p q b) (λ w. o.0 (sym w)) (λ w. o.1 (sym w)) l))
          (split u v r);
    }

    pub alike-joined : {ol' : List ℕ} → ol' ≡ walk_all (piece a) (feet_from op m x c) (feet_from op m y e) x y ol → Joined op m a x c y e ol ol'
    alike-joined all = joined (both
        (subst (λ (l : List ℕ). Written (piece a) Feet ol l) (sym all)
        (walked (piece a) (λ x y l. ways-long a (x + 1) (y + 1) (ways a x y l) ∙ ways-long a x y l) op m x c y e ol A.walks.0.up A.walks.0.other_up)))
