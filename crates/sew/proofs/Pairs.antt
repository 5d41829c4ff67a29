-- Laws of pairs of darts.
--     pairs-none           no pairs
--     pairs_fit            there is an index for each
--     in_left, in_right    a dart that is found on one side stands there; not_left, not_right: another does not
--     at-left              the index of a dart that stands on the left is its place
--     enter-..             one more pair
--     stood-new            two darts that become a pair
--     clash-wrong          a clash is wrong where the pairs and the two darts are carried
use Rattle.std.proofs.Common.{◌≡◌, ℕ, ◌+◌, ◌<◌, ◌≤◌, Bool, true, false, List, length, set, sym, ap, ◌∙◌, subst, not-suc-le-zero, arith, length-set, get_or-set_other, get_or-set_same, below_more}
use Rattle.theory.specs.Carry.{Carried}
use Rattle.orbit.specs.Sparse.{index, queue, In, is_in}
use Rattle.orbit.proofs.Sparse.{none, room, fits, in-yes, in-no}
use Rattle.sew.specs.Label.{Stood, Stuck}
use Rattle.sew.specs.Pairs.{Pairs, Fresh, Clash, g_right, g_other, x_left, x_other, one_dart, Wrong, two, shared, meet, entered}

pub pairs-none : (n : ℕ) (w : List ℕ) → Pairs n w 0
pairs-none n w = record { left = none n n w; right = none (n + n) n w; apart = λ q h. absurd (not-suc-le-zero h) }

module _ {n : ℕ} {w : List ℕ} {t : ℕ} (P : Pairs n w t) where
  pub pairs_fit : t ≤ n
  pairs_fit = fits n n w t P.left

  -- ---- where a dart is looked for
  module _ (d : ℕ) {b : Bool} where
    pub in_left : b ≡ is_in n w t d → b ≡ true → In n w t d
    in_left e y = in-yes n n w t P.left d (sym e ∙ y)

    pub not_left : b ≡ is_in n w t d → b ≡ false → In n w t d → ⊥
    not_left e y = in-no n n w t P.left d (sym e ∙ y)

    pub in_right : b ≡ is_in (n + n) w t d → b ≡ true → In (n + n) w t d
    in_right e y = in-yes (n + n) n w t P.right d (sym e ∙ y)

    pub not_right : b ≡ is_in (n + n) w t d → b ≡ false → In (n + n) w t d → ⊥
    not_right e y = in-no (n + n) n w t P.right d (sym e ∙ y)

  pub at-left : (d : ℕ) {k : ℕ} (i : In n w t d) → k ≡ index w d → k ≡ i.0
  at-left d i e = e ∙ ap (index w) (sym i.2) ∙ P.left.back i.0 i.1

-- ---- one more pair
module _ (n : ℕ) (w : List ℕ) (t g x : ℕ) (P : Pairs n w t) (long : n + n + n ≤ length w) (gn : g < n) (xn : x < n) (F : Fresh n w t g x) where
  abbrev w₁ : List ℕ
  w₁ = set w g t

  abbrev w₂ : List ℕ
  w₂ = set w₁ x t

  abbrev w₃ : List ℕ
  w₃ = set w₂ (n + t) g

  abbrev w₄ : List ℕ
  w₄ = entered n w t g x

  pub enter-room : t < n
  enter-room = room n n w t P.left g gn F.left_g

  left-old : (q : ℕ) → q < t → queue n w₄ q ≡ queue n w q
  left-old q h =
      let r = enter-room in
      get_or-set_other w₃ (n + n + t) (n + q) x 0 (λ p. omega arith) ∙ get_or-set_other w₂ (n + t) (n + q) g 0 (λ p. omega arith)
      ∙ get_or-set_other w₁ x (n + q) t 0 (λ p. omega arith) ∙ get_or-set_other w g (n + q) t 0 (λ p. omega arith)

  right-old : (q : ℕ) → q < t → queue (n + n) w₄ q ≡ queue (n + n) w q
  right-old q h =
      let r = enter-room in
      get_or-set_other w₃ (n + n + t) (n + n + q) x 0 (λ p. omega arith) ∙ get_or-set_other w₂ (n + t) (n + n + q) g 0 (λ p. omega arith)
      ∙ get_or-set_other w₁ x (n + n + q) t 0 (λ p. omega arith) ∙ get_or-set_other w g (n + n + q) t 0 (λ p. omega arith)

  left-new : queue n w₄ t ≡ g
  left-new =
      let r = enter-room in
      get_or-set_other w₃ (n + n + t) (n + t) x 0 (λ p. omega arith) ∙ get_or-set_same w₂ (n + t) g 0 (simp length-set (omega arith))

  right_new : queue (n + n) w₄ t ≡ x
  right_new = let r = enter-room in get_or-set_same w₃ (n + n + t) x 0 (simp length-set (omega arith))

  index-other : (e : ℕ) → e < n → (e ≡ g → ⊥) → (e ≡ x → ⊥) → index w₄ e ≡ index w e
  index-other e h ng nx =
      get_or-set_other w₃ (n + n + t) e x 0 (λ p. omega arith) ∙ get_or-set_other w₂ (n + t) e g 0 (λ p. omega arith)
      ∙ get_or-set_other w₁ x e t 0 nx ∙ get_or-set_other w g e t 0 ng

  index-x : index w₄ x ≡ t
  index-x =
      get_or-set_other w₃ (n + n + t) x x 0 (λ p. omega arith) ∙ get_or-set_other w₂ (n + t) x g 0 (λ p. omega arith)
      ∙ get_or-set_same w₁ x t 0 (simp length-set (omega arith))

  index-g : index w₄ g ≡ t
  index-g =
      get_or-set_other w₃ (n + n + t) g x 0 (λ p. omega arith) ∙ get_or-set_other w₂ (n + t) g g 0 (λ p. omega arith)
      ∙ get_or-set_other w₁ x g t 0 F.other ∙ get_or-set_same w g t 0 (omega arith)

  enter-pairs : Pairs n w₄ (t + 1)
  enter-pairs = record {
    left = record {
      below = below_more (λ q. queue n w₄ q < n) t (λ q l. rw (left-old q l) (P.left.below q l)) (rw left-new gn);
      back = below_more (λ q. index w₄ (queue n w₄ q) ≡ q) t
          (λ q l. ap (index w₄) (left-old q l) ∙ index-other (queue n w q) (P.left.below q l) (λ e. F.left_g (q, l, e)) (λ e. F.left_x (q, l, e)) ∙ P.left.back q l)
          (ap (index w₄) left-new ∙ index-g);
    };
    right = record {
      below = below_more (λ q. queue (n + n) w₄ q < n) t (λ q l. rw (right-old q l) (P.right.below q l)) (rw right_new xn);
      back = below_more (λ q. index w₄ (queue (n + n) w₄ q) ≡ q) t
          (λ q l. ap (index w₄) (right-old q l) ∙ index-other (queue (n + n) w q) (P.right.below q l) (λ e. F.right_g (q, l, e)) (λ e. F.right_x (q, l, e))
          ∙ P.right.back q l)
          (ap (index w₄) right_new ∙ index-x);
    };
    apart = below_more (λ q. queue n w₄ q ≡ queue (n + n) w₄ q → ⊥) t
        (λ q l e. P.apart q l (sym (left-old q l) ∙ e ∙ right-old q l))
        (λ e. F.other (sym left-new ∙ e ∙ right_new));
  }

  pub stood-new : Stood (Pairs n) n w t g x w₄ (t + 1)
  stood-new = record {
    kept = enter-pairs;
    further = record { darts = record { more = omega arith; same = left-old }; labels = record { more = omega arith; same = right-old } };
    beside = (t, omega arith, left-new, right_new);
    only = λ q h l. let z : t ≡ q = omega arith in (sym left-new ∙ ap (queue n w₄) z, sym right_new ∙ ap (queue (n + n) w₄) z);
  }

-- ---- a clash is wrong
pub clash-wrong : (α : ℕ → ℕ → ℕ) (m : ℕ) (S : ℕ → Bool) (n : ℕ) (w : List ℕ) (t g x : ℕ) → Clash n w t g x → Stuck α α m S (Wrong α m S) n g x w t
clash-wrong α m S n w t g x (g_right i) a b W r =
    meet (queue n w i.0) g x (subst (λ (y : ℕ). Carried α α m S a b (queue n w i.0) y) i.2 (W i.0 i.1)) r
clash-wrong α m S n w t g x (g_other q h e f) a b W r =
    two g x (queue (n + n) w q) r (subst (λ (y : ℕ). Carried α α m S a b y (queue (n + n) w q)) e (W q h)) f
clash-wrong α m S n w t g x (x_left i) a b W r =
    meet g x (queue (n + n) w i.0) r (subst (λ (y : ℕ). Carried α α m S a b y (queue (n + n) w i.0)) i.2 (W i.0 i.1))
clash-wrong α m S n w t g x (x_other q h e f) a b W r =
    shared g x (queue n w q) r (subst (λ (y : ℕ). Carried α α m S a b (queue n w q) y) e (W q h)) f
clash-wrong α m S n w t g x (one_dart e) a b W r = meet g x x r (subst (λ (y : ℕ). Carried α α m S a b y x) e r)
