-- SEW on tables that a run left: what it asks of them holds, and each of its answers is document 01's.
--     sew-asks             what it asks
--     sew-operands         12, 3, 4 and 14
--     sew-unpaired         15
--     sew-disagrees        16
--     sew-done             accepted
use Rattle.std.proofs.Common.{◌≡◌, ℕ, ◌+◌, ◌-◌, ◌<◌, ◌≤◌, true, false, List, length, ℤ, Result, Err, refl, sym, ap, ◌∙◌, subst, arith}
use Rattle.std.specs.Result.{IsErrAnd}
use Rattle.paper.specs.Width.{link_width, dim_limit}
use Rattle.paper.specs.Below.{all_below}
use Rattle.paper.specs.Map.{Map, count, link, place}
use Rattle.paper.specs.Sew.{far, mate, sewable, agreeing}
use Rattle.paper.specs.Refusal.{number, answer, answer_of, judge}
use Rattle.paper.specs.declared.refusal.Refusal.{Refusal}
use Rattle.paper.specs.declared.refusal.Refusal.TheVariants.{NoPairing, PairDisagrees}
use Rattle.paper.specs.Step.{Maps, Room, effect, value}
use Rattle.paper.specs.declared.Command.{Command}
use Rattle.paper.specs.declared.Command.TheVariants as command
use Rattle.theory.specs.Local.{Local}
use Rattle.theory.proofs.Table.{held_place}
use Rattle.theory.proofs.Valid.{local-valid}
use Rattle.theory.proofs.Sew.{sewn-value}
use Rattle.kernel.specs.Link.{alpha}
use Rattle.fault.specs.Fault.{place_in}
use Rattle.hold.specs.Hold.{HasLinks}
use Rattle.hold.specs.Rows.{columned}
use Rattle.hold.specs.Stand.{PlanStands, Edited}
use Rattle.hold.proofs.Hold.{holds-map}
use Rattle.hold.proofs.Stand.{edit-accepted, plan-reads, plan-has-room, plan-within}
use Rattle.orbit.specs.Sparse.{queue}
use Rattle.orbit.specs.Flood.{axes, Links}
use Rattle.orbit.proofs.Held.{holds-links}
use Rattle.orbit.proofs.Refused.{nonzero, refused-edit}
use Rattle.orbit.proofs.Listed.{stands-ready}
use Rattle.sew.specs.Label.{Labelled}
use Rattle.sew.specs.Pairs.{Pairs, Wrong, Paired}
use Rattle.sew.specs.Sewing.{Sewing, agrees, operand_tests}
use Rattle.sew.proofs.Refused.{refused-operands, refused-pairing, refused-agreeing, refused_none}
use Rattle.sew.proofs.Mapped.{wrong-map, paired-map}
use Rattle.sew.proofs.Paired.{wrong-sewable, paired-sewable, paired-size, paired-mate}
use Rattle.sew.proofs.Agreeing.{agreeing-paired}
use Rattle.sew.proofs.Fastened.{fastened}

pub sew-asks : {R : Room} {s : Maps} {m n : ℕ} {ls : List ℕ} {ps ss : List ℤ} {w : List ℕ} → PlanStands R s m n ls ps ss (length w) → Sewing m n ls ps ss w
sew-asks {w = w} P =
    let X = plan-has-room P in
    let work = X.work in
    let ready = stands-ready {w = w} P in
    record {
      ready = ready;
      blocks = omega arith;
      places = record { dim = ready.dims; few = X.few; rows = X.places };
      rows = (plan-reads P).rows;
    }

module _ {R : Room} {s : Maps} {m n : ℕ} {ls : List ℕ} {ps ss : List ℤ} {k : ℕ} (P : PlanStands R s m n ls ps ss k) (i a b : ℕ) where
  abbrev M : Map
  M = s.plan

  abbrev sew : Command
  sew = command.Sew i a b

  L : Local M
  L = P.good.plan

  H : HasLinks M m n ls
  H = (plan-reads P).holds

  K : Links (alpha ls) m n
  K = holds-links M m n ls H L

  -- the places that the tables have
  places : (d : ℕ) → d < n → place M d ≡ place_in ps m d
  places d h =
      ap (λ (X : Map). place X d) (sym (holds-map ls ps ss m n k P.held (local-valid M L) (subst (λ (x : ℕ). x ≤ dim_limit) P.held.map.dims P.good.plan_dim) (plan-within P)))
      ∙ held_place ls ps ss m n d h

  pub sew-operands : (r : Result ℕ Refusal) (why : Refusal) → IsErrAnd r (λ x. x ≡ why) → number why ≡ (judge 0 (operand_tests M i a b)).number
      → Edited R s sew (answer_of r) m n ls ps ss
  sew-operands r why f e = refused-edit r why f P.held (e ∙ sym (refused-operands R s i a b (λ z. nonzero why (e ∙ z))))

  module _ (met : (judge 0 (operand_tests M i a b)).number ≡ 0) (served : (i ≤ m) × ((a < n) × (b < n))) where
    il : i ≤ M.dim
    il = subst (λ (x : ℕ). i ≤ x) (sym H.dims) served.0

    an : a < count M
    an = subst (λ (x : ℕ). a < x) (sym H.darts) served.1.0

    bn : b < count M
    bn = subst (λ (x : ℕ). b < x) (sym H.darts) served.1.1

    pub sew-unpaired : (lo : ℕ) → lo ≡ i - 1 → Wrong (alpha ls) m (axes lo (i + 2)) a b → Edited R s sew (answer_of (Err NoPairing)) m n ls ps ss
    sew-unpaired lo q w =
        refused-edit (Err NoPairing) NoPairing refl P.held
        (sym (refused-pairing R s i a b met (wrong-sewable M L i a b an bn (wrong-map H K i served.1.0 served.1.1 (subst (λ (x : ℕ). Wrong (alpha ls) m (axes x (i + 2)) a b) q w)))))

    module _ (lo : ℕ) (low : lo ≡ i - 1) {w : List ℕ} {t : ℕ} (Q : Paired (alpha ls) m (axes lo (i + 2)) n a b w t) where
      pairs : Paired (link M) M.dim (far i) n a b w t
      pairs = paired-map H K i served.1.0 served.1.1 (subst (λ (x : ℕ). Labelled (alpha ls) (alpha ls) m (axes x (i + 2)) (Pairs n) n a b w t) low Q)

      ok : sewable M i a b ≡ true
      ok = paired-sewable M L i a b an bn H.darts pairs

      tested : all_below t (λ q. agrees ps ss m i (queue n w q) (queue (n + n) w q)) ≡ agreeing M i a b
      tested = agreeing-paired M L i a b an bn H.darts pairs m H.dims ps ss places (plan-reads P).same

      pub sew-disagrees : all_below t (λ q. agrees ps ss m i (queue n w q) (queue (n + n) w q)) ≡ false → Edited R s sew (answer_of (Err PairDisagrees)) m n ls ps ss
      sew-disagrees u = refused-edit (Err PairDisagrees) PairDisagrees refl P.held (sym (refused-agreeing R s i a b met ok (sym tested ∙ u)))

      worth : t + t ≡ value s sew
      unfolding value
      worth =
          let e = paired-size M L i a b an bn H.darts pairs in
          let v = sewn-value M L i a b il an bn ok in
          omega arith

      pub sew-done : {ls₁ ls₂ : List ℕ} → all_below t (λ q. agrees ps ss m i (queue n w q) (queue (n + n) w q)) ≡ true
          → ((v : ℕ → ℕ) → ((q : ℕ) → q < t → v (queue n w q) ≡ queue (n + n) w q) → ls₁ ≡ columned link_width i (queue n w) v t ls)
          → ((v : ℕ → ℕ) → ((q : ℕ) → q < t → v (queue (n + n) w q) ≡ queue n w q) → ls₂ ≡ columned link_width i (queue (n + n) w) v t ls₁)
          → Edited R s sew (answer 0 (t + t)) m n ls₂ ps ss
      unfolding effect
      sew-done u left right =
          let both = paired-mate M L i a b an bn H.darts pairs il in
          edit-accepted R s sew
          (fastened M L i a b il an bn H.darts pairs P.held P.good.plan_dim (plan-has-room P).links
          (left (mate M i a b) (λ q h. (both q h).0)) (right (mate M i a b) (λ q h. (both q h).1)))
          (refused_none R s i a b met ok (sym tested ∙ u)) (ap (answer 0) worth)
