-- What floods leave, in the words of `paper`.
--     axes-but               the axes of the i-cell
--     axes-far               the axes at distance 2 or more from i
--     flood-in, flood-out    the darts behind the first t of the queue are the marked ones of the orbit
--     cell-size              there are as many as the orbit has
--     flood-listed           a flood from the queue's start lists the orbit
use Rattle.std.proofs.Common.{◌≡◌, ℕ, ◌+◌, ◌-◌, ◌<◌, ◌≤◌, Bool, true, ◌||◌, ltb, leb, List, sym, refl, ap, ◌∙◌, ⊎_elim, arith, ltb-true, lt-ltb, le-leb, leb-true}
use Rattle.paper.specs.Orbit.{marked, size, orbit}
use Rattle.paper.specs.Cell.{but}
use Rattle.paper.specs.Sew.{far}
use Rattle.theory.proofs.Bool.{bool-ext, or_case, or_left, or_right, lt-or}
use Rattle.theory.proofs.Below.{count-into}
use Rattle.theory.proofs.Valid.{but_in, but_out}
use Rattle.orbit.specs.Sparse.{index, queue}
use Rattle.orbit.specs.Flood.{axes, Links, Flooded, Listed}
use Rattle.orbit.proofs.Links.{to-mark, of-mark}
use Rattle.orbit.proofs.Sparse.{one_index, count-all}

-- the axes below i and from i + 1 up are those other than i
pub axes-but : (i : ℕ) → axes i (i + 1) ≡ but i
axes-but i = λ k j. same j k
  where
    same : (j : ℕ) → axes i (i + 1) j ≡ but i j
    same j = bool-ext (axes i (i + 1) j) (but i j)
        (λ t. but_in i j (λ e. ⊎_elim
        (λ s. let l = ltb-true j i s in omega arith)
        (λ s. let l = leb-true (i + 1) j s in omega arith)
        (or_case (ltb j i) (leb (i + 1) j) t)))
        (λ t. ⊎_elim
        (λ l. or_left (ltb j i) (leb (i + 1) j) (lt-ltb j i l))
        (λ l. or_right (ltb j i) (leb (i + 1) j) (le-leb (i + 1) j (omega arith)))
        (lt-or j i (but_out i j t)))

-- the axes below i - 1 and from i + 2 up are those that are neither i nor next to it
pub axes-far : (i : ℕ) → axes (i - 1) (i + 2) ≡ far i
axes-far i = λ k j. same j k || leb (i + 2) j
  where
    same : (j : ℕ) → ltb j (i - 1) ≡ leb (j + 2) i
    same j = bool-ext (ltb j (i - 1)) (leb (j + 2) i) (λ t. le-leb (j + 2) i (let l = ltb-true j (i - 1) t in omega arith))
        (λ t. lt-ltb j (i - 1) (let l = leb-true (j + 2) i t in omega arith))

-- ---- the darts that a flood found
module _ {α : ℕ → ℕ → ℕ} {m : ℕ} {S : ℕ → Bool} {n : ℕ} (K : Links α m n) {d : ℕ} (dn : d < n) {w w' : List ℕ} {t t' : ℕ}
    (F : Flooded α m S n d w t w' t') where
  pub flood-in : (q : ℕ) → t ≤ q → q < t' → marked (orbit α m S n d) (queue n w' q) ≡ true
  flood-in q h l = (to-mark K S dn (F.reached q h l)).1

  pub flood-out : (e : ℕ) → e < n → marked (orbit α m S n d) e ≡ true → (q : ℕ) × (t ≤ q) × (q < t') × (queue n w' q ≡ e)
  flood-out e h s = F.all (of-mark K S dn e h s)

  -- a dart that was found stands at its index
  flood-at : (e : ℕ) → e < n → marked (orbit α m S n d) e ≡ true → (t ≤ index w' e) × (index w' e < t') × (queue n w' (index w' e) ≡ e)
  flood-at e h s =
      let f = flood-out e h s in
      let a = f.1 in
      let b = f.2 in
      let z : index w' e ≡ f.0 = ap (index w') (sym f.3) ∙ F.set.back f.0 b in
      (omega arith, omega arith, ap (queue n w') z ∙ f.3)

  -- one to one, both ways
  pub cell-size : t' - t ≡ size n (orbit α m S n d)
  unfolding size
  cell-size =
      let a =
      count-into (t' - t) n (λ _. true) (marked (orbit α m S n d)) (λ q. queue n w' (t + q))
      (λ q h _. (F.set.below (t + q) (omega arith), flood-in (t + q) (omega arith) (omega arith)))
      (λ q r g h _ _ e. let z = one_index n n w' t' F.set (t + q) (t + r) (omega arith) (omega arith) e in omega arith) in
      let b =
      count-into n (t' - t) (marked (orbit α m S n d)) (λ _. true) (λ e. index w' e - t)
      (λ e h s. let f = flood-at e h s in let x = f.0 in let y = f.1 in (omega arith, refl))
      (λ c e g h s u p.
      let f = flood-at c g s in
      let k = flood-at e h u in
      let x = f.0 in let y = k.0 in
      let z : index w' c ≡ index w' e = omega arith in
      sym f.2 ∙ ap (queue n w') z ∙ k.2) in
      let c = count-all (t' - t) in
      omega arith

  pub flood-listed : t ≡ 0 → Listed n (orbit α m S n d) w' t'
  flood-listed z = record {
    set = F.set;
    marks = λ q l. flood-in q (omega arith) l;
    all = λ e h s. let f = flood-out e h s in (f.0, f.2, f.3);
    many = let c = cell-size in omega arith;
  }
