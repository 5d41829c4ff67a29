-- Laws of a turn of the sweep that lays a level.
--     turn-look                    what is looked at first
--     turn-skip                    a turn that lays nothing
--     turn-sound, turn-out         what finding a cell asks
--     turn-fits                    the queue has room
--     turn-gather, turn-found, turn-cell       its ends, which the room holds, then its blocks
--     turn-new                     what it leaves
use Rattle.std.proofs.Common.{◌≡◌, ℕ, ◌+◌, ◌-◌, ◌<◌, ◌≤◌, true, false, ◌||◌, eqb, ◌⊎◌, List, length, get_or, ℤ, sym, refl, ap, ◌∙◌, subst, inl, inr, ⊎_elim, arith, eqb-true, rules}
use Rattle.std.specs.Prelude.{Option, Some, None, IsSome}
use Rattle.paper.specs.Below.{join_of}
use Rattle.paper.specs.Map.{Map, count}
use Rattle.paper.specs.Orbit.{here}
use Rattle.paper.specs.Span.{ends_of}
use Rattle.paper.specs.Table.{row_at}
use Rattle.theory.proofs.Block.{room}
use Rattle.theory.proofs.Bool.{or_case, or_off}
use Rattle.theory.proofs.Below.{less-cases}
use Rattle.orbit.specs.Sparse.{Sparse, In, is_in}
use Rattle.orbit.proofs.Sparse.{fits}
use Rattle.kernel.specs.Room.{or_past}
use Rattle.ends.specs.declared.gather.Gathered.{Gathered}
use Rattle.ends.specs.Gathered.{half_of, ends_in}
use Rattle.ends.specs.Join.{Held}
use Rattle.ends.specs.Gather.{darts, row_ends, Gatherable}
use Rattle.ends.proofs.Holding.{held_fits}
use Rattle.walk.proofs.Holding.{walkable}
use Rattle.base.specs.Base.{base, Bases}
use Rattle.tally.specs.Level.{front, Sound, Queued}
use Rattle.tally.proofs.Found as turn
use Rattle.visit.specs.Block.{Laid}
use Rattle.visit.specs.Stead.{Stead}
use Rattle.sweep.specs.Level.{Reached, Spread, Done, Celled, Turnable, TurnedTo}
use Rattle.visit.proofs.Visiting.{visit-bases}
use Rattle.sweep.proofs.Celling.{call-bare}
use Rattle.sweep.proofs.Spreading.{spread_same}

module _ {M : Map} {m n k h d t total : ℕ} {links : List ℕ} {places spans : List ℤ} {w₀ v : List ℕ} {op : List ℤ} {ol : List ℕ} {room₀ : ℕ}
    (S : Stead M m n links places spans w₀ op ol room₀) (A : Turnable M m n k h links w₀ v op ol d t total) where
  low : k ≤ m
  low = let a = A.level in omega arith

  dims : M.dim ≡ m
  dims = S.plan.holds.dims

  in_map : {e : ℕ} → e < n → e < count M
  in_map {e} l = subst (λ (c : ℕ). e < c) (sym S.plan.holds.darts) l

  set₀ : Sparse n n (front n w₀) t
  set₀ = A.whole.set

  pub turn-sound : Sound m n links spans w₀ v total
  turn-sound =
      turn.sound S.plan (let a = S.dims in omega arith) S.links_long S.work (let a = A.all in let b = S.fits in let c = S.few in omega arith) A.long

  pub turn-look : Bases w₀ n × ((h ≤ 1) × ((d < n) × (t ≤ n)))
  turn-look = (visit-bases S, (A.either, (A.dart, fits n n (front n w₀) t set₀)))

  reached : Reached M n k h w₀ op ol
  reached = A.spread.reached

  -- the darts below the next one
  next : (x : ℕ) → Done n w₀ t (d + 1) x → Done n w₀ t d x ⊎ (x ≡ d)
  next x = ⊎_elim (λ i. inl (inl i)) (λ l. ⊎_elim (λ (p : x ≡ d). inr p) (λ g. inl (inr g)) (less-cases (let a = l in omega arith)))

  -- ---- nothing to lay
  module _ (x : (eqb (base w₀ n h d) (base w₀ n (1 - h) d) || is_in n w₀ t d) ≡ true) where
    -- d is in the queue, or has no spans
    laid-here : Laid M op ol d k
    laid-here = ⊎_elim
        (λ y. (call-bare S A.dart low A.either reached (eqb-true (base w₀ n h d) (base w₀ n (1 - h) d) y)).laid)
        (λ y. A.spread.laid d A.dart (inl (turn.front-in n t w₀ set₀ d y)))
        (or_case (eqb (base w₀ n h d) (base w₀ n (1 - h) d)) (is_in n w₀ t d) x)

    pub turn-skip : TurnedTo M m n k h links d w₀ t op ol
    turn-skip = record {
      whole = A.whole;
      spread = record {
        reached = reached;
        laid = λ e l i. ⊎_elim (A.spread.laid e l) (λ p. subst (λ (y : ℕ). Laid M op ol y k) (sym p) laid-here) (next e i);
      };
    }

  -- ---- d is to be laid
  module _ (x : (eqb (base w₀ n h d) (base w₀ n (1 - h) d) || is_in n w₀ t d) ≡ false) where
    pub turn-out : In n (front n w₀) t d → ⊥
    turn-out = turn.front_out n t w₀ set₀ d (or_off (eqb (base w₀ n h d) (base w₀ n (1 - h) d)) (is_in n w₀ t d) x).1

    -- ---- with its cell
    module _ {w : List ℕ} {t' : ℕ} (kept : length w ≡ length w₀) (T : Queued m n k links d w₀ t w t') where
      pub turn-fits : (t ≤ n) × (t' ≤ n)
      turn-fits = turn.queue-fits turn-sound A.dart low kept T

      more : t ≤ t'
      more = turn.more turn-sound A.dart low kept T

      back : (e : ℕ) → In n (front n w) t e → In n (front n w₀) t e
      back e i = (i.0, i.1, sym (T.found.grown.same i.0 i.1) ∙ i.2)

      -- what was laid is so still
      stays : Spread M n k h w (Done n w t d) op ol
      stays = spread_same (Done n w t d) (turn.bases turn-sound A.dart low kept T) (λ e _. ⊎_elim (λ i. inl (back e i)) (λ i. inr i)) A.spread

      pub turn-gather : Gatherable v total spans w (n + t) (n + t')
      turn-gather = turn.gatherable turn-sound A.dart low kept T

      module _ {v' : List ℕ} {half many : ℕ} (E : Held (row_ends spans (darts w (n + t) (n + t'))) v' half total many) where
        few : length (row_ends spans (darts w (n + t) (n + t'))) ≤ total
        few =
            let a = ap length (turn.cell-ends turn-sound A.dart low kept T M S.plan d here) in
            let b = room M S.plan.valid k d (in_map A.dart) (subst (λ (c : ℕ). k ≤ c) (sym dims) low) in
            let c = A.all in
            omega arith

        fit : many ≤ total
        fit = let a = E.count few in let b = few in omega arith

        pub turn-cell : length v' ≡ length v → Celled M m n k h d spans w v' half many t t' op ol
        turn-cell kv =
            let B = turn.S turn-sound A.dart low kept T in
            let below : (q : ℕ) → t ≤ q → q < t' → get_or w (n + q) 0 < n = λ q a b. turn.dart-below turn-sound A.dart low kept T (n + q) (omega arith) (omega arith) in
            record {
              level = low;
              either = A.either;
              order = more;
              last = turn-fits.1;
              set = T.found.set;
              spread = stays;
              walks = λ q a b.
                  walkable (ends_of (join_of (darts w (n + t) (n + t')) (λ e. row_at spans e))) spans v' half total many (get_or w (n + q) 0) E fit B.few
                  (let l = A.long in omega arith) (B.rows (get_or w (n + q) 0) (below q a b)) (B.order (get_or w (n + q) 0) (below q a b));
              ends = λ q a b.
                  (held_fits E fit).1
                  ∙ turn.cell-ends turn-sound A.dart low kept T M S.plan (get_or w (n + q) 0)
                  (turn.queue-cell turn-sound A.dart low kept T M S.plan q a b);
            }

      -- the room holds them
      pub turn-found : (r : Option Gathered) {v' : List ℕ} → Held (row_ends spans (darts w (n + t) (n + t'))) v' (half_of r) total (or_past total (ends_in r)) → IsSome r
      turn-found (Some g) E = search rules
      turn-found None E = let f = fit E in let z : ⊥ = omega arith in absurd z

      pub turn-new : {op' : List ℤ} {ol' : List ℕ} → Spread M n k h w (Done n w t' d) op' ol' → TurnedTo M m n k h links d w t' op' ol'
      turn-new G = record {
        whole = record { set = T.found.set; shut = T.found.shut };
        spread = spread_same (Done n w t' (d + 1)) (λ g e. refl)
            (λ e _. ⊎_elim
            (λ i. inl i)
            (λ l. ⊎_elim (λ (p : e ≡ d). inl (subst (λ (a : ℕ). In n (front n w) t' a) (sym p) (t, T.found.first.0, T.found.first.1))) (λ g. inr g) (less-cases (let a = l in omega arith))))
            G;
      }
