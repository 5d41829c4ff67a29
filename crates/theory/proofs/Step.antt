-- Every command leaves two good maps: an accepted one by what it does, a refused one because it leaves both.
--     after-good       the maps after a command are good
--     blanks-good      both maps blank are good
--     LiftOf, Lifts    what the lift has to satisfy
use Rattle.std.proofs.Common.{◌≡◌, ℕ, ◌<◌, ◌≤◌, Bool, true, false, cond, ◌&&◌, ltb, leb, List, [], length, ℤ, sym, refl, ap, ◌∙◌, subst, zero-le, not-suc-le-zero, arith, ltb-false, eqb-true, leb-false}
use lib.Signed.{lt_z}
use Rattle.paper.specs.Width.{dim_limit, new_limit}
use Rattle.paper.specs.Map.{Owned, Dart, Map, spans_of, count, link, owned, free}
use Rattle.paper.specs.Span.{ordered, row_fits}
use Rattle.paper.specs.Sew.{sewable, agreeing}
use Rattle.paper.specs.Edit.{remade, empty, grown, relinked, sewn, unsewn, placed, respanned, adopted}
use Rattle.paper.specs.Join.{with_span}
use Rattle.paper.specs.Lift.{lifted_darts, lift, carried_objects}
use Rattle.paper.specs.Refusal.{accepted}
use Rattle.paper.specs.Step.{Maps, Room, owned_span, span_refusals, span_edit, refusals, writes_plan, effect_of, effect, value, reply, after}
use Rattle.paper.specs.Run.{blanks}
use Rattle.paper.specs.declared.Command.{Command}
use Rattle.paper.specs.declared.Command.TheVariants as command
use Rattle.theory.specs.Local.{Local}
use Rattle.theory.specs.Good.{Shared, Good}
use Rattle.theory.proofs.Bool.{and_both, or_off, on}
use Rattle.theory.proofs.Below.{list_length}
use Rattle.theory.proofs.Order.{le_not}
use Rattle.theory.proofs.Valid.{local-valid, of-cell}
use Rattle.theory.proofs.Edit.{unsewn-local, placed_local, respanned-local}
use Rattle.theory.proofs.Grow.{empty-local, grown-local, grown-count, grown-dim, adopted-local, adopted-told}
use Rattle.theory.proofs.Sew.{sewn-local}
use Rattle.theory.proofs.Join.{with_span-ordered}
use Rattle.theory.proofs.Judge.{Off, accept-off}

pub blanks-good : (R : Room) → Good R blanks
blanks-good R = record {
  plan = empty-local 0;
  lifted = empty-local 0;
  bare = λ d h. absurd (not-suc-le-zero h);
  objects = refl;
  shared = λ i d h l. absurd (not-suc-le-zero h);
  plan_fits = zero-le;
  lifted_fits = zero-le;
  plan_dim = zero-le;
  lifted_dim = zero-le;
}

remade-size : (M : Map) (f : ℕ → Dart) → (count (remade M f) ≡ count M) × ((remade M f).dim ≡ M.dim)
unfolding remade
remade-size M f = (list_length (count M) f, refl)

-- good maps with another plan that is valid, fits, and has the same dimension or another within the limit
replanned : (R : Room) (s : Maps) (P : Map) → Good R s → Local P → count P ≤ R.plan → P.dim ≤ dim_limit → Good R (effect_of writes_plan P s)
replanned R s P G L f d = record {
  plan = L;
  lifted = G.lifted;
  bare = G.bare;
  objects = G.objects;
  shared = G.shared;
  plan_fits = f;
  lifted_fits = G.lifted_fits;
  plan_dim = d;
  lifted_dim = G.lifted_dim;
}

-- a span into the rows of a whole top cell, whose darts have the row of the one that is named
span-local : (M : Map) (d : ℕ) (x : Owned) → Local M → d < count M → lt_z x.span.lo x.span.hi ≡ true
    → row_fits (spans_of (with_span x (owned M d))) ≡ true → Local (respanned M d (with_span x))
span-local M d x L h p f =
    respanned-local M L d (with_span x) h
    (λ e l t. let q = (local-valid M L).rows d e h (of-cell M L M.dim d e h l t) in
    (ap (λ r. row_fits (spans_of (with_span x r))) (sym q) ∙ f, ap (λ r. ordered (spans_of (with_span x r))) (sym q) ∙ with_span-ordered x (owned M d) p (L.order d h)))

clear-local : (M : Map) (d : ℕ) → Local M → d < count M → Local (respanned M d (λ r. []))
unfolding ordered
clear-local M d L h = respanned-local M L d (λ r. []) h (λ e l t. (refl, refl))

-- the edits change neither the number of darts nor the dimension
sewn-size : (M : Map) (i a b : ℕ) → (count (sewn M i a b) ≡ count M) × ((sewn M i a b).dim ≡ M.dim)
unfolding sewn relinked
sewn-size M i a b = remade-size M _

unsewn-size : (M : Map) (i a : ℕ) → (count (unsewn M i a) ≡ count M) × ((unsewn M i a).dim ≡ M.dim)
unfolding unsewn relinked
unsewn-size M i a = remade-size M _

placed-size : (M : Map) (d x : ℕ) (z : ℤ) → (count (placed M d x z) ≡ count M) × ((placed M d x z).dim ≡ M.dim)
unfolding placed
placed-size M d x z = remade-size M _

respanned-size : (M : Map) (d : ℕ) (f : List Owned → List Owned) → (count (respanned M d f) ≡ count M) × ((respanned M d f).dim ≡ M.dim)
unfolding respanned
respanned-size M d f = remade-size M _

-- a plan of the same size
resized : (R : Room) (s : Maps) (P : Map) → Good R s → Local P → (count P ≡ count s.plan) × (P.dim ≡ s.plan.dim) → Good R (effect_of writes_plan P s)
resized R s P G L z = replanned R s P G L (subst (λ (k : ℕ). k ≤ R.plan) (sym z.0) G.plan_fits) (subst (λ (k : ℕ). k ≤ dim_limit) (sym z.1) G.plan_dim)

pub record LiftOf (M : Map) : Type 0 where
  pub valid : Local (lift M)
  pub darts : count (lift M) ≡ length (lifted_darts M)
  pub bare : (d : ℕ) → d < count (lift M) → owned (lift M) d ≡ []
  pub objects : length (carried_objects M) ≡ count (lift M)
  pub shared : Shared (lift M) (carried_objects M)

abbrev pub Lifts : Type 0
Lifts = (M : Map) → Local M → LiftOf M

lifted-good : Lifts → (R : Room) (s : Maps) → Good R s → leb dim_limit s.plan.dim ≡ false → ltb R.lifted (length (lifted_darts s.plan)) ≡ false
    → Good R (record { plan = s.plan; lifted = lift s.plan; objects = carried_objects s.plan })
unfolding lift
lifted-good lifts R s G t u =
    let l = lifts s.plan G.plan in
    record {
      plan = G.plan;
      lifted = l.valid;
      bare = l.bare;
      objects = l.objects;
      shared = l.shared;
      plan_fits = G.plan_fits;
      lifted_fits = subst (λ (k : ℕ). k ≤ R.lifted) (sym l.darts) (ltb-false R.lifted (length (lifted_darts s.plan)) u);
      plan_dim = G.plan_dim;
      lifted_dim = leb-false dim_limit s.plan.dim t;
    }

module _ (lifts : Lifts) (R : Room) (s : Maps) (G : Good R s) where
  abbrev P : Map
  P = s.plan

  -- SPAN, of object 0, and SPAN of an object
  span-good : (d : ℕ) (x : Owned) → Off 0 (span_refusals s d x) → Good R (effect_of writes_plan (span_edit P d x) s)
  span-good d x o =
      resized R s (respanned P d (with_span x)) G
      (span-local P d x G.plan (leb-false (count P) d o.1.0) (on (lt_z x.span.lo x.span.hi) (sym (le_not x.span.hi x.span.lo) ∙ o.1.1.0))
      (on (row_fits (spans_of (with_span x (owned P d)))) o.1.1.1.1.0))
      (respanned-size P d (with_span x))

  effect-good : (c : Command) → Off 0 (refusals R s c) → Good R (effect s c)
  unfolding effect refusals
  effect-good (command.New m) o =
      let u = or_off (ltb m 1) (ltb new_limit m) o.0 in
      replanned R s (empty m) G (empty-local m) zero-le (let h = ltb-false new_limit m u.1 in omega arith)
  effect-good command.Dart o =
      replanned R s (grown P) G (grown-local P G.plan)
      (let h = leb-false R.plan (count P) o.1.0 in let e = grown-count P in omega arith) (grown-dim P G.plan_dim)
  effect-good (command.Sew i a b) o =
      let n = or_off (leb (count P) a) (leb (count P) b) o.1.1.0 in
      let f = and_both (free P i a) (free P i b) (on (free P i a && free P i b) o.1.1.1.0) in
      resized R s (sewn P i a b) G
      (sewn-local P G.plan i a b (ltb-false P.dim i o.1.0) (leb-false (count P) a n.0) (leb-false (count P) b n.1)
      (on (sewable P i a b) o.1.1.1.1.0) (eqb-true (link P i a) a f.0) (eqb-true (link P i b) b f.1) (on (agreeing P i a b) o.1.1.1.1.1.0))
      (sewn-size P i a b)
  effect-good (command.Unsew i a) o =
      resized R s (unsewn P i a) G (unsewn-local P G.plan i a (ltb-false P.dim i o.1.0) (leb-false (count P) a o.1.1.0)) (unsewn-size P i a)
  effect-good (command.Place d x z) o = resized R s (placed P d x z) G (placed_local P G.plan d x z (leb-false (count P) d o.1.1.0)) (placed-size P d x z)
  effect-good (command.Span d lo hi) o = span-good d (owned_span lo hi 0) o
  effect-good (command.SpanOf d lo hi object) o = span-good d (owned_span lo hi object) o
  effect-good (command.Clear d) o = resized R s (respanned P d (λ r. [])) G (clear-local P d G.plan (leb-false (count P) d o.1.0)) (respanned-size P d (λ r. []))
  effect-good command.Lift o = lifted-good lifts R s G o.1.0 o.1.1.0
  effect-good command.Adopt o =
      let t = adopted-told s.lifted G.lifted in
      replanned R s (adopted s.lifted) G (adopted-local s.lifted G.lifted)
      (subst (λ (k : ℕ). k ≤ R.plan) (sym t.darts) (ltb-false R.plan (count s.lifted) o.1.0))
      (subst (λ (k : ℕ). k ≤ dim_limit) (sym t.dims) G.lifted_dim)
  effect-good (command.Count x i) o = G
  effect-good (command.Unreadable n) o = G

  pub after-good : (c : Command) → Good R (after R s c)
  unfolding after
  after-good c = go (accepted (reply R s c)) refl
    where
      none : accepted (reply R s c) ≡ true → Off 0 (refusals R s c)
      none e = unfold reply in accept-off 0 (refusals R s c) (value s c) e

      go : (b : Bool) → accepted (reply R s c) ≡ b → Good R (cond b (effect s c) s)
      go true e = effect-good c (none e)
      go false e = G
