-- What a run leaves: tables that the check accepts, fixed by the bytes and the lengths of what was lent.
--     plan-holds, lifted-holds       the tables hold the two maps of the run on paper
--     plan-checked                   the check accepts the plan's tables, read with the plan's dimension and count
--     lifted-checked                 and the lifted side's, with a table of spans that is all 0
--     run-fixed                      two runs over the same bytes and lengths leave the same tables and numbers, whatever those held before
--     first-replies                  the reply memory begins with the replies of the run on paper
--     given                          tables of these lengths are lent, and a reply memory
--     replies-fixed                  and the same replies
use Rattle.std.proofs.Common.{◌≡◌, ℕ, ◌*◌, ◌≤◌, List, length, take, drop, replicate, pos, sym, refl, ap, ◌∙◌, subst, arith}
use lib.Seq.{take-append_seam}
use Rattle.paper.specs.Width.{link_width, place_width, span_width, reply_width}
use Rattle.paper.specs.Map.{count}
use Rattle.paper.specs.Table.{Tables, LiftedTables, lent, Lengths, LiftedLengths, plan_capacity, lifted_capacity, link_at, place_at, span_at, plan_tables, lifted_tables}
use Rattle.paper.specs.Refusal.{answer}
use Rattle.paper.specs.Call.{capacity, check}
use Rattle.paper.specs.Run.{Outcome, run, reply_bytes, reply_memory, Lent, run_in, left}
use Rattle.paper.specs.declared.Ended.{Ended}
use Rattle.theory.specs.Found.{Found}
use Rattle.hold.specs.Hold.{HoldsPlan, HoldsLifted}
use Rattle.hold.proofs.Rows.{table-own, table-length}
use Rattle.hold.proofs.Objects.{objects-own}
use Rattle.hold.proofs.Hold.{bare-plan, bare-fit, holds-checked}
use Rattle.run.specs.Ran.{Ran}

module _ {bytes : List ℕ} {L : Lent} {r : Ended} {T : Tables} {O : LiftedTables} {memory : List ℕ} (X : Ran bytes L r T O memory) where
  abbrev o : Outcome
  o = run_in bytes L

  pub plan-holds : HoldsPlan o.plan o.plan.dim (count o.plan) T.links T.places T.spans
  unfolding left
  plan-holds = record {
    map = record {
      dims = refl;
      darts = refl;
      links = table-own 0 link_width (count o.plan) (link_at o.plan) L.plan.links (λ i. (X.plan i).links);
      places = table-own (pos 0) place_width (count o.plan) (place_at o.plan) L.plan.places (λ i. (X.plan i).places);
    };
    spans = table-own (pos 0) span_width (count o.plan) (span_at o.plan) L.plan.spans (λ i. (X.plan i).spans);
  }

  pub lifted-holds : HoldsLifted o.lifted o.objects o.lifted.dim (count o.lifted) O
  unfolding left
  lifted-holds = record {
    map = record {
      dims = refl;
      darts = refl;
      links = table-own 0 link_width (count o.lifted) (link_at o.lifted) L.lifted.links (λ i. (X.lifted i).links);
      places = table-own (pos 0) place_width (count o.lifted) (place_at o.lifted) L.lifted.places (λ i. (X.lifted i).places);
    };
    objects = objects-own o.objects L.lifted.objects (λ i. (X.lifted i).objects);
  }

  -- the tables are as long as they were
  plan-room : plan_capacity L.plan ≡ capacity T
  unfolding left
  plan-room =
      let a = table-length 0 link_width (count o.plan) (link_at o.plan) L.plan.links in
      let b = table-length (pos 0) place_width (count o.plan) (place_at o.plan) L.plan.places in
      let d = table-length (pos 0) span_width (count o.plan) (span_at o.plan) L.plan.spans in
      sym (ap (λ (U : Tables). capacity U) X.plan ∙ (λ i. plan_capacity (record { links = a i; places = b i; spans = d i; work = L.plan.work })))

  found : Found bytes (plan_capacity L.plan) (lifted_capacity L.lifted) (length L.memory)
  found = X.found

  plan-within : count o.plan ≤ plan_capacity L.plan
  unfolding run_in
  plan-within = let a = found.plan_fits in omega arith

  -- a plan has a dimension from 1 up: a blank one is refused by 3
  pub plan-checked : 1 ≤ o.plan.dim → check T o.plan.dim (count o.plan) ≡ answer 0 0
  unfolding run_in
  plan-checked low =
      holds-checked T.links T.places T.spans o.plan.dim (count o.plan) T.work plan-holds found.plan_valid found.plan_dim
      (subst (λ (k : ℕ). count o.plan ≤ k) plan-room plan-within) X.fit low

  pub lifted-checked : 1 ≤ o.lifted.dim → (c w : ℕ) → count o.lifted ≤ capacity (lent O.links O.places (replicate c (pos 0)) w)
      → check (lent O.links O.places (replicate c (pos 0)) w) o.lifted.dim (count o.lifted) ≡ answer 0 0
  unfolding run_in
  lifted-checked low c w fits =
      holds-checked O.links O.places (replicate c (pos 0)) o.lifted.dim (count o.lifted) w (bare-plan lifted-holds.map c found.lifted_bare) found.lifted_valid
      found.lifted_dim fits (bare-fit o.lifted found.lifted_bare) low

  -- the reply memory begins with the replies
  pub first-replies : take (reply_width * r.taken) memory ≡ reply_bytes o.replies
  unfolding left reply_memory
  first-replies =
      (λ i. take (reply_width * (X.ended i).taken) (X.replies i))
      ∙ ap (λ (k : ℕ). take k (reply_memory o.replies L.memory)) (sym many)
      ∙ take-append_seam (reply_bytes o.replies) (drop (length (reply_bytes o.replies)) L.memory)
    where
      many : length (reply_bytes o.replies) ≡ reply_width * o.ended.taken
      many = unfold run_in in found.replies_bytes

-- ---- demand 1: everything that is written is fixed by the bytes and the lengths
pub record Same (r r' : Ended) (T T' : Tables) (O O' : LiftedTables) : Type 0 where
  pub ended : r ≡ r'
  pub plan : T ≡ T'
  pub lifted : O ≡ O'

-- tables of these lengths are lent, and a reply memory
abbrev pub given : Lengths → LiftedLengths → List ℕ → Lent
given plan lifted memory = record { plan = plan; lifted = lifted; memory = memory }

module _ {bytes : List ℕ} {a : Lengths} {b : LiftedLengths} {m m' : List ℕ} (e : length m ≡ length m') {r r' : Ended} {T T' : Tables} {O O' : LiftedTables}
    {memory memory' : List ℕ} (X : Ran bytes (given a b m) r T O memory) (Y : Ran bytes (given a b m') r' T' O' memory') where
  same-run : run_in bytes (given a b m) ≡ run_in bytes (given a b m')
  unfolding run_in
  same-run = ap (run bytes (plan_capacity a) (lifted_capacity b)) e

  pub run-fixed : Same r r' T T' O O'
  unfolding left
  run-fixed = record {
    ended = X.ended ∙ ap (λ (x : Outcome). x.ended) same-run ∙ sym Y.ended;
    plan = X.plan ∙ ap (λ (x : Outcome). plan_tables x.plan a) same-run ∙ sym Y.plan;
    lifted = X.lifted ∙ ap (λ (x : Outcome). lifted_tables x.lifted x.objects b) same-run ∙ sym Y.lifted;
  }

  pub replies-fixed : take (reply_width * r.taken) memory ≡ take (reply_width * r'.taken) memory'
  replies-fixed = first-replies X ∙ ap (λ (x : Outcome). reply_bytes x.replies) same-run ∙ sym (first-replies Y)
