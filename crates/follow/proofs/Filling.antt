-- Laws of pairs of rows of links.
--     links-length, links-in, links-other    the links of a row after they were put, and those of others
--     pairs-none, pairs-more                 the loop of `put_pairs`
--     Started                                the starts of a block
--     paired                                 what its call asks
--     filled, filled-joined                  the block, and the block at level 0
use Rattle.std.proofs.Common.{◌≡◌, ℕ, zero, suc, ◌+◌, ◌*◌, ◌<◌, ◌≤◌, Bool, true, false, cond, not, ◌⊎◌, List, length, get_or, sym, refl, ap, ◌∙◌, subst, inl, inr, ⊎_elim, not-suc-le-zero, arith, length-set, get_or-set_other, get_or-set_same}
use Rattle.paper.specs.Width.{link_width, dart_limit}
use Rattle.theory.proofs.Below.{less-cases}
use Rattle.number.specs.First.{side}
use Rattle.over.specs.Over.{link_of}
use Rattle.follow.specs.Fill.{start_of, firsts, seconds, put_links, Pairs, Paired, Fillable, Filled}

-- ---- one row
module _ (Y : List ℕ) (s x : ℕ) (ol : List ℕ) where
  links-length : (i : ℕ) → length (put_links i Y s x ol) ≡ length ol
  unfolding put_links
  links-length zero = refl
  links-length (suc i) = length-set (put_links i Y s x ol) (x * link_width + i) (get_or Y i 0 + s) ∙ links-length i

  links-other : (i q b : ℕ) → i ≤ link_width → b < link_width → (q ≡ x → ⊥) → link_of (put_links i Y s x ol) q b ≡ link_of ol q b
  unfolding put_links
  links-other zero q b l h ne = refl
  links-other (suc i) q b l h ne =
      get_or-set_other (put_links i Y s x ol) (x * link_width + i) (q * link_width + b) (get_or Y i 0 + s) 0 (λ e. ne (omega arith))
      ∙ links-other i q b (omega arith) h ne

  links-in : (i b : ℕ) → x * link_width + i ≤ length ol → b < i → link_of (put_links i Y s x ol) x b ≡ get_or Y b 0 + s
  unfolding put_links
  links-in zero b l h = absurd (not-suc-le-zero h)
  links-in (suc i) b l h = ⊎_elim
      (λ (e : b ≡ i).
      let k = links-length i in
      rw e (get_or-set_same (put_links i Y s x ol) (x * link_width + i) (get_or Y i 0 + s) 0 (rw k (omega arith))))
      (λ g. get_or-set_other (put_links i Y s x ol) (x * link_width + i) (x * link_width + b) (get_or Y i 0 + s) 0 (λ e. omega arith)
      ∙ links-in i b (omega arith) g)
      (less-cases h)

-- ---- all pairs
pub pairs-none : (x : ℕ) (Y Z ol : List ℕ) → Pairs x 0 Y Z ol ol
pairs-none x Y Z ol = record { long = refl; at = λ i j s l h. absurd (not-suc-le-zero h); other = λ q b l o. refl }

module _ {x j : ℕ} {Y Z ol₀ ol ol' : List ℕ} (rows : (x + (j + 1) * 2) * link_width ≤ length ol₀) (C : Pairs x j Y Z ol₀ ol)
    (put : ol' ≡ put_links link_width Z (j * 2) (x + j * 2 + 1) (put_links link_width Y (j * 2) (x + j * 2) ol)) where
  abbrev ol₁ : List ℕ
  ol₁ = put_links link_width Y (j * 2) (x + j * 2) ol

  long₁ : length ol₁ ≡ length ol₀
  long₁ = links-length Y (j * 2) (x + j * 2) ol link_width ∙ C.long

  rest : (q b : ℕ) → b < link_width → (q < x + j * 2) ⊎ (x + j * 2 + 2 ≤ q) → link_of ol' q b ≡ link_of ol q b
  rest q b l o =
      ap (λ (k : List ℕ). link_of k q b) put
      ∙ links-other Z (j * 2) (x + j * 2 + 1) ol₁ link_width q b (omega arith) l (λ e. ⊎_elim (λ g. omega arith) (λ g. omega arith) o)
      ∙ links-other Y (j * 2) (x + j * 2) ol link_width q b (omega arith) l (λ e. ⊎_elim (λ g. omega arith) (λ g. omega arith) o)

  old : (b i : ℕ) (s : Bool) → b < link_width → i < j → link_of ol' (x + i * 2 + side s) b ≡ get_or (cond s Y Z) b 0 + i * 2
  old b i true l g = rest (x + i * 2 + 0) b l (inl (omega arith)) ∙ C.at b i true l g
  old b i false l g = rest (x + i * 2 + 1) b l (inl (omega arith)) ∙ C.at b i false l g

  here : (b : ℕ) (s : Bool) → b < link_width → link_of ol' (x + j * 2 + side s) b ≡ get_or (cond s Y Z) b 0 + j * 2
  here b true l =
      let e : x + j * 2 + 0 ≡ x + j * 2 = omega arith in
      let g = C.long in
      rw e
      (ap (λ (k : List ℕ). link_of k (x + j * 2) b) put
      ∙ links-other Z (j * 2) (x + j * 2 + 1) ol₁ link_width (x + j * 2) b (omega arith) l (λ p. let q : ⊥ = omega arith in q)
      ∙ links-in Y (j * 2) (x + j * 2) ol link_width b (omega arith) l)
  here b false l =
      let g = long₁ in
      ap (λ (k : List ℕ). link_of k (x + j * 2 + 1) b) put ∙ links-in Z (j * 2) (x + j * 2 + 1) ol₁ link_width b (omega arith) l

  pub pairs-more : Pairs x (j + 1) Y Z ol₀ ol'
  pairs-more = record {
    long = ap length put ∙ links-length Z (j * 2) (x + j * 2 + 1) ol₁ link_width ∙ long₁;
    at = λ b i s l h. ⊎_elim
        (λ (p : i ≡ j). subst (λ (i : ℕ). link_of ol' (x + i * 2 + side s) b ≡ get_or (cond s Y Z) b 0 + i * 2) (sym p) (here b s l))
        (λ g. old b i s l g)
        (less-cases (omega arith));
    other = λ q b l o. rest q b l (⊎_elim (λ g. inl (omega arith)) (λ g. inr (omega arith)) o) ∙ C.other q b l (⊎_elim (λ g. inl g) (λ g. inr (omega arith)) o);
  }

-- ---- the block
-- What holds for each of the six axes holds for all.
each : (P : ℕ → Type 0) → P 0 → P 1 → P 2 → P 3 → P 4 → P 5 → (i : ℕ) → i < link_width → P i
each P p0 p1 p2 p3 p4 p5 zero h = p0
each P p0 p1 p2 p3 p4 p5 (suc zero) h = p1
each P p0 p1 p2 p3 p4 p5 (suc (suc zero)) h = p2
each P p0 p1 p2 p3 p4 p5 (suc (suc (suc zero))) h = p3
each P p0 p1 p2 p3 p4 p5 (suc (suc (suc (suc zero)))) h = p4
each P p0 p1 p2 p3 p4 p5 (suc (suc (suc (suc (suc zero))))) h = p5
each P p0 p1 p2 p3 p4 p5 (suc (suc (suc (suc (suc (suc i)))))) h = absurd (let q : ⊥ = omega arith in q)

-- The starts of all axes but the first.
pub record Started (ls w : List ℕ) (m n k h d x y1 y2 y3 y4 y5 : ℕ) : Type 0 where
  pub at1 : y1 ≡ start_of ls w m n k h d x 1
  pub at2 : y2 ≡ start_of ls w m n k h d x 2
  pub at3 : y3 ≡ start_of ls w m n k h d x 3
  pub at4 : y4 ≡ start_of ls w m n k h d x 4
  pub at5 : y5 ≡ start_of ls w m n k h d x 5

second : {y t : ℕ} → y ≡ t → y + 1 ≡ t + 1
second e = omega arith

first : {y t : ℕ} → y ≡ t → y ≡ t + 0
first e = omega arith

module _ {ls w : List ℕ} {m n k h d x y1 y2 y3 y4 y5 : ℕ} (S : Started ls w m n k h d x y1 y2 y3 y4 y5) where
  pub paired : {ol : List ℕ} {c z y0 : ℕ} → Fillable ls w m n k h d ol x c → z + c * 2 ≤ dart_limit + 1 → y0 + c * 2 ≤ dart_limit + 1 → Paired ol x c z y0 y1 y2 y3 y4 y5
  paired A p q = record {
    rows = A.rows;
    own = A.own;
    second = p;
    first0 = q;
    first1 = omega (arith, A.starts 1 (omega arith), S.at1);
    first2 = omega (arith, A.starts 2 (omega arith), S.at2);
    first3 = omega (arith, A.starts 3 (omega arith), S.at3);
    first4 = omega (arith, A.starts 4 (omega arith), S.at4);
    first5 = omega (arith, A.starts 5 (omega arith), S.at5);
  }

  -- every axis leads to its start, axis 0 where it is told so
  led : (s : Bool) (z y0 i : ℕ) → i < link_width → (i ≡ 0 → cond s y0 z ≡ start_of ls w m n k h d x 0 + side s)
      → get_or (cond s (firsts y0 y1 y2 y3 y4 y5) (seconds z y1 y2 y3 y4 y5)) i 0 ≡ start_of ls w m n k h d x i + side s
  led true z y0 i l o =
      each
      (λ i. (i ≡ 0 → y0 ≡ start_of ls w m n k h d x 0 + 0) → get_or (firsts y0 y1 y2 y3 y4 y5) i 0 ≡ start_of ls w m n k h d x i + 0)
      (λ o. o refl)
      (λ _. first S.at1)
      (λ _. first S.at2)
      (λ _. first S.at3)
      (λ _. first S.at4)
      (λ _. first S.at5)
      i
      l
      o
  led false z y0 i l o =
      each
      (λ i. (i ≡ 0 → z ≡ start_of ls w m n k h d x 0 + 1) → get_or (seconds z y1 y2 y3 y4 y5) i 0 ≡ start_of ls w m n k h d x i + 1)
      (λ o. o refl)
      (λ _. second S.at1)
      (λ _. second S.at2)
      (λ _. second S.at3)
      (λ _. second S.at4)
      (λ _. second S.at5)
      i
      l
      o

  pub filled : {ol₀ ol : List ℕ} {c y0 : ℕ} → y0 ≡ start_of ls w m n k h d x 0 → (k ≡ 0 → ⊥) → Pairs x c (firsts y0 y1 y2 y3 y4 y5) (seconds (y0 + 1) y1 y2 y3 y4 y5) ol₀ ol
      → Filled ls w m n k h d x c ol₀ ol
  filled {y0 = y0} e up A = record {
    long = A.long;
    at = λ i j s l g o. let a = A.at i j s l g in let b = led s (y0 + 1) y0 i l (λ _. own s) in omega arith;
    pair = λ j s g p. absurd (up p);
    other = A.other;
  }
    where
      own : (s : Bool) → cond s y0 (y0 + 1) ≡ start_of ls w m n k h d x 0 + side s
      own true = first e
      own false = second e

  pub filled-joined : {ol₀ ol : List ℕ} {c : ℕ} → k ≡ 0 → Pairs x c (firsts (x + 1) y1 y2 y3 y4 y5) (seconds x y1 y2 y3 y4 y5) ol₀ ol → Filled ls w m n k h d x c ol₀ ol
  filled-joined {ol = ol} {c} z A = record {
    long = A.long;
    at = λ i j s l g o. let a = A.at i j s l g in let b = led s x (x + 1) i l (λ (p : i ≡ 0). absurd (o p z)) in omega arith;
    pair = λ j s g _. here j s g;
    other = A.other;
  }
    where
      here : (j : ℕ) (s : Bool) → j < c → link_of ol (x + j * 2 + side s) 0 ≡ x + j * 2 + side (not s)
      here j true g = let a = A.at 0 j true (omega arith) g in omega arith
      here j false g = let a = A.at 0 j false (omega arith) g in omega arith
