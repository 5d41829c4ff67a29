-- What the walk tells of SEW's pairing.
--     wrong-sewable        partners that no pairing has: SEW is refused
--     paired-sewable       pairs that are all that is carried: they are the pairing, and A and B share no dart
--     paired-partner       each dart's partner stands beside it
--     in_left, of_left     a dart that has a partner there is one of A, and a dart of A has one
--     paired-left, paired-right     the darts of A and of B are those that stand on either side
--     paired-size          there are as many pairs as darts in A
--     paired-mate          SEW links the darts of a pair to each other
use Rattle.std.proofs.Common.{◌≡◌, ℕ, ◌+◌, ◌<◌, ◌≤◌, Bool, true, false, eqb, List, sym, ap, ◌∙◌, subst, eq-eqb, eqb-true}
use Rattle.paper.specs.Below.{count_below}
use Rattle.paper.specs.Map.{Map, count, link}
use Rattle.paper.specs.Orbit.{marked, size}
use Rattle.paper.specs.Sew.{far, Far, wing, Sewable, partners, partner, sewable, mate}
use Rattle.theory.specs.Local.{Local}
use Rattle.theory.specs.Carry.{Carried, stays, goes}
use Rattle.theory.proofs.Bool.{not-true, bool-ext}
use Rattle.theory.proofs.Below.{any-in, any_out}
use Rattle.theory.proofs.Valid.{in-wing, of-wing}
use Rattle.theory.proofs.Carry.{carried-left, carried-right, carry, carry_back, forced}
use Rattle.theory.proofs.Pairing.{pairing-found, sewable-sound, sewable-complete}
use Rattle.theory.proofs.Sew.{mate-pair}
use Rattle.hold.specs.Rows.{listed}
use Rattle.orbit.specs.Sparse.{index, queue}
use Rattle.orbit.proofs.Sparse.{set-count}
use Rattle.sew.specs.Label.{Beside}
use Rattle.sew.specs.Pairs.{Wrong, two, shared, meet, Paired}

-- a partner of d that links far from i carry there from a and b
abbrev Goes : Map → ℕ → ℕ → ℕ → ℕ → ℕ → Type 0
Goes M i a b d e = Carried (link M) (link M) M.dim (far i) a b d e

-- ---- no pairing
no-wrong : {M : Map} {i a b : ℕ} → Sewable M i a b → Wrong (link M) M.dim (far i) a b → ⊥
no-wrong {M} {i} {a} {b} X w = go w
  where
    sends : {d e : ℕ} → Goes M i a b d e → X.f d ≡ e
    sends c = forced X.f X.pairing.start X.pairing.along c

    go : Wrong (link M) M.dim (far i) a b → ⊥
    go (two d e g c k f) = f (sym (sends k) ∙ sends c)
    go (shared d e g c k f) = f (X.pairing.one g d (carried-left k) (carried-left c) (sends k ∙ sym (sends c)))
    go (meet d e g c k) = X.apart e (carried-left k) (carried-right c)

module _ (M : Map) (L : Local M) (i a b : ℕ) (an : a < count M) (bn : b < count M) where
  pub wrong-sewable : Wrong (link M) M.dim (far i) a b → sewable M i a b ≡ false
  wrong-sewable w = not-true (sewable M i a b) (λ t. no-wrong (sewable-sound M L i a b an bn t) w)

  -- ---- the pairing
  module _ {n : ℕ} (en : count M ≡ n) {w : List ℕ} {t : ℕ} (P : Paired (link M) M.dim (far i) n a b w t) where
    -- the dart that stands beside d
    abbrev f : ℕ → ℕ
    f d = queue (n + n) w (index w d)

    at_left : {d e : ℕ} (k : Beside n w t d e) → index w d ≡ k.0
    at_left k = ap (index w) (sym k.2) ∙ P.kept.left.back k.0 k.1

    at_right : {d e : ℕ} (k : Beside n w t d e) → index w e ≡ k.0
    at_right k = ap (index w) (sym k.3) ∙ P.kept.right.back k.0 k.1

    sends : {d e : ℕ} → Goes M i a b d e → f d ≡ e
    sends c = let k = P.all c in ap (queue (n + n) w) (at_left k) ∙ k.3

    alone : {d e g : ℕ} → Goes M i a b d g → Goes M i a b e g → d ≡ e
    alone c c' = let k = P.all c in let k' = P.all c' in sym k.2 ∙ ap (queue n w) (sym (at_right k) ∙ at_right k') ∙ k'.2

    paired : Sewable M i a b
    paired = record {
      apart = λ d r q.
          let k = P.all (carry {ρ = link M} {b = b} r).1 in
          let l = P.all (carry_back {α = link M} {a = a} q).1 in
          let z = sym (at_left k) ∙ at_right l in
          P.kept.apart k.0 k.1 (k.2 ∙ sym l.3 ∙ ap (queue (n + n) w) (sym z));
      f = f;
      pairing = record {
        start = sends stays;
        into = λ d r. let c : (e : ℕ) × Goes M i a b d e = carry r in subst (λ (z : ℕ). Far M i b z) (sym (sends c.1)) (carried-right c.1);
        along = λ j d l s r. let c : (e : ℕ) × Goes M i a b d e = carry r in sends (goes c.1 j l s (λ _. link M j d) (ap (link M j) (sym (sends c.1))));
        one = λ d e r q p.
            let c : (x : ℕ) × Goes M i a b d x = carry r in
            let k : (x : ℕ) × Goes M i a b e x = carry q in
            alone (subst (λ (z : ℕ). Goes M i a b d z) (sym (sends c.1) ∙ p ∙ sends k.1) c.1) k.1;
        onto = λ e q. let c : (d : ℕ) × Goes M i a b d e = carry_back q in (c.0, carried-left c.1, sends c.1);
      };
    }

    pub paired-sewable : sewable M i a b ≡ true
    paired-sewable = sewable-complete M L i a b an bn paired

    pub paired-partner : (q : ℕ) → q < t → partner (partners M i a b) (queue n w q) ≡ queue (n + n) w q
    unfolding paired
    paired-partner q h = let c = P.carries q h in sym (pairing-found M L i a b an paired (queue n w q) (carried-left c)) ∙ sends c

    -- ---- the two sides
    pub in_left : (q : ℕ) → q < t → marked (wing M i a) (queue n w q) ≡ true
    in_left q h = in-wing M L i a (queue n w q) an (carried-left (P.carries q h))

    pub of_left : (d : ℕ) → d < count M → marked (wing M i a) d ≡ true → (q : ℕ) × (q < t) × (queue n w q ≡ d)
    of_left d h u = let k = P.all (carry {ρ = link M} {b = b} (of-wing M L i a d an h u)).1 in (k.0, k.1, k.2)

    of_right : (d : ℕ) → d < count M → marked (wing M i b) d ≡ true → (q : ℕ) × (q < t) × (queue (n + n) w q ≡ d)
    of_right d h u = let k = P.all (carry_back {α = link M} {a = a} (of-wing M L i b d bn h u)).1 in (k.0, k.1, k.3)

    -- the darts listed are those that are marked
    side : (ms : List Bool) (e : ℕ → ℕ) (d : ℕ) → ((q : ℕ) → q < t → marked ms (e q) ≡ true) → (marked ms d ≡ true → (q : ℕ) × (q < t) × (e q ≡ d))
        → listed e t d ≡ marked ms d
    side ms e d into out = bool-ext (listed e t d) (marked ms d)
        (λ s. let k = any_out t (λ q. eqb d (e q)) s in subst (λ (z : ℕ). marked ms z ≡ true) (sym (eqb-true d (e k.0) k.2)) (into k.0 k.1))
        (λ s. let k = out s in any-in t (λ q. eqb d (e q)) k.0 k.1 (eq-eqb d (e k.0) (sym k.2)))

    pub paired-left : (d : ℕ) → d < count M → listed (queue n w) t d ≡ marked (wing M i a) d
    paired-left d h = side (wing M i a) (queue n w) d in_left (of_left d h)

    pub paired-right : (d : ℕ) → d < count M → listed (queue (n + n) w) t d ≡ marked (wing M i b) d
    paired-right d h = side (wing M i b) (queue (n + n) w) d (λ q l. in-wing M L i b (queue (n + n) w q) bn (carried-right (P.carries q l))) (of_right d h)

    pub paired-size : t ≡ size (count M) (wing M i a)
    unfolding size
    paired-size =
        set-count n n w t P.kept.left (marked (wing M i a)) in_left (λ e h u. of_left e (subst (λ (k : ℕ). e < k) (sym en) h) u)
        ∙ ap (λ (k : ℕ). count_below k (marked (wing M i a))) (sym en)

    -- ---- the links
    pub paired-mate : i ≤ M.dim → (q : ℕ) → q < t → (mate M i a b (queue n w q) ≡ queue (n + n) w q) × (mate M i a b (queue (n + n) w q) ≡ queue n w q)
    paired-mate il q h =
        let d = queue n w q in
        let dn = subst (λ (k : ℕ). d < k) (sym en) (P.kept.left.below q h) in
        let e = paired-partner q h in
        let k = mate-pair M L i a b il an bn paired-sewable d dn (in_left q h) in
        (k.0 ∙ e, ap (mate M i a b) (sym e) ∙ k.1)
