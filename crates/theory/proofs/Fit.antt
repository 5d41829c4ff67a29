-- Objects fit their 16 bits after every command, and so does what lifted darts carry.
--     fit-below        an object that fits is a number below 65,536
--     carried-below, objects-below      what a lifted dart carries, where the plan's objects fit; and all of them by number
--     blanks-fit       both maps blank
--     plan-fit         the plan after a command
--     after-fit        the maps after a command
--     commands-fit     the objects that commands bring, read from bytes
--     maps-fit         the maps after a list of such commands
use Rattle.std.proofs.Common.{◌≡◌, ℕ, zero, suc, ◌+◌, ◌*◌, ◌<◌, Bool, true, false, cond, eqb, ltb, leb, List, [], ◌∷◌, length, get_or, ℤ, pos, negsuc, nat_abs, sym, refl, subst, ⊎_elim, zero-le, not-suc-le-zero, arith, ltb-true, lt-ltb, le-leb, None, Option, Some}
use mathlib.Core.List.Memᴰ
use lib.ListN.{length-map}
use Rattle.paper.specs.Width.{byte_limit, object_limit, reply_width}
use Rattle.paper.specs.Map.{Owned, Dart, Map, no_span, no_dart, with_row, owned_of, count, dart, owned, row}
use Rattle.paper.specs.Orbit.{marked}
use Rattle.paper.specs.Cell.{top}
use Rattle.paper.specs.Span.{covering}
use Rattle.paper.specs.Table.{object_fits}
use Rattle.paper.specs.Lift.{Lifted, at, lifted_darts, object_at, carried, carried_objects}
use Rattle.paper.specs.Edit.{remade, grown, relinked, sewn, unsewn, placed, respanned, adopted}
use Rattle.paper.specs.Join.{with_span}
use Rattle.paper.specs.Refusal.{number, accepted}
use Rattle.paper.specs.declared.refusal.Refusal.TheVariants.{CutShort}
use Rattle.paper.specs.Command.{byte, word, unreadable, operands, Form, forms, read_by, read_after, read_at}
use Rattle.paper.specs.Step.{Maps, Room, owned_span, span_edit, Kind, writes_plan, writes_lifted, looks, ends_run, kind_of, edited, effect_of, effect, reply, after, is_run_end}
use Rattle.paper.specs.Run.{blanks}
use Rattle.paper.specs.declared.Command.{Command}
use Rattle.paper.specs.declared.Command.TheVariants as command
use Rattle.paper.specs.declared.Read.{Read}
use Rattle.theory.specs.Local.{Local}
use Rattle.theory.specs.Good.{Good}
use Rattle.theory.specs.Member.{◌∈◌}
use Rattle.theory.specs.History.{commands_from, maps_from}
use Rattle.theory.specs.Fit.{ObjectsFit, Fitting, Fit}
use Rattle.theory.proofs.Bool.{clash, and_both, and_intro}
use Rattle.theory.proofs.Below.{list_length, list_at}
use Rattle.theory.proofs.Member.{cond-out}
use Rattle.theory.proofs.Join.{with_span-member}
use Rattle.theory.proofs.Grow.{grown-told, grown-count, adopted-told}
use Rattle.theory.proofs.Step.{Lifts, after-good}
use Rattle.theory.proofs.Run.{turns, commands-turn}
use Rattle.theory.proofs.Over.{pick}
use Rattle.theory.proofs.Number.{at-member}
use Rattle.theory.proofs.Object.{object-at}

-- ---- one object, one row
pub fit-below : (z : ℤ) → object_fits z ≡ true → nat_abs z < object_limit
fit-below (pos a) e = ltb-true a object_limit (and_both (leb 0 a) (ltb a object_limit) e).1
fit-below (negsuc a) e = absurd (clash e refl)

word_fits : (a : ℕ) → a < object_limit → object_fits (pos a) ≡ true
word_fits a h = and_intro (leb 0 a) (ltb a object_limit) (le-leb 0 a zero-le) (lt-ltb a object_limit h)

-- the objects of a row fit
abbrev RowFits : List Owned → Type 0
RowFits r = (x : Owned) → x ∈ r → object_fits x.object ≡ true

none-fit : RowFits []
none-fit x h = absurd (Memᴰ.not-nil h)

at-fits : (r : List Owned) → RowFits r → (q : ℕ) → object_fits (get_or r q no_span).object ≡ true
at-fits [] f q = refl
at-fits (x ∷ r) f zero = f x (Memᴰ.head refl)
at-fits (x ∷ r) f (suc q) = at-fits r (λ y h. f y (Memᴰ.tail h)) q

object-below : (r : List Owned) → RowFits r → (c : Option ℕ) → object_at r c < object_limit
object-below r f (Some q) = fit-below (get_or r q no_span).object (at-fits r f q)
object-below r f None = omega arith

with_span-objects : (y : Owned) (r : List Owned) → object_fits y.object ≡ true → RowFits r → RowFits (with_span y r)
with_span-objects y r e f x h = ⊎_elim (λ q. subst (λ (z : Owned). object_fits z.object ≡ true) (sym q) e) (λ u. f x u.0) (with_span-member y r x h)

-- ---- what lifted darts carry
module _ (M : Map) (F : ObjectsFit M) where
  pub carried-below : (x : Lifted) → x.d < count M → carried M x < object_limit
  unfolding carried
  carried-below x h = object-below (owned M x.d) (F x.d h) (covering (row M x.d) x.t x.s)

  pub objects-below : (q : ℕ) → q < length (carried_objects M) → get_or (carried_objects M) q 0 < object_limit
  unfolding carried_objects
  objects-below q h =
      let l : q < length (lifted_darts M) = subst (λ (n : ℕ). q < n) (length-map (lifted_darts M) (carried M)) h in
      subst (λ (n : ℕ). n < object_limit) (sym (object-at M q l)) (carried-below (get_or (lifted_darts M) q (at 0 0 (pos 0) false)) (at-member M q (at 0 0 (pos 0) false) l).dart)

-- ---- edits
remade-fit : (M : Map) (f : ℕ → Dart) → ((d : ℕ) → d < count M → RowFits (owned_of (f d))) → ObjectsFit (remade M f)
unfolding remade
remade-fit M f g d h x w =
    let l : d < count M = subst (λ (k : ℕ). d < k) (list_length (count M) f) h in
    g d l x (subst (λ (y : Dart). x ∈ owned_of y) (list_at (count M) f no_dart d l) w)

module _ (M : Map) (F : ObjectsFit M) where
  relinked-fit : (i : ℕ) (φ : ℕ → ℕ) → ObjectsFit (relinked M i φ)
  unfolding relinked
  relinked-fit i φ = remade-fit M _ F

  sewn-fit : (i a b : ℕ) → ObjectsFit (sewn M i a b)
  unfolding sewn
  sewn-fit i a b = relinked-fit i _

  unsewn-fit : (i a : ℕ) → ObjectsFit (unsewn M i a)
  unfolding unsewn
  unsewn-fit i a = relinked-fit i _

  placed-fit : (d x : ℕ) (z : ℤ) → ObjectsFit (placed M d x z)
  unfolding placed
  placed-fit d x z = remade-fit M _ F

  respanned-fit : (d : ℕ) (f : List Owned → List Owned) → ((r : List Owned) → RowFits r → RowFits (f r)) → ObjectsFit (respanned M d f)
  unfolding respanned
  respanned-fit d f g =
      remade-fit M (λ e. with_row (cond (marked (top M d) e) (f (owned M e)) (owned M e)) (dart M e)) (λ e h. go e (F e h) (marked (top M d) e))
    where
      go : (e : ℕ) → RowFits (owned M e) → (b : Bool) → RowFits (cond b (f (owned M e)) (owned M e))
      go e h true = g (owned M e) h
      go e h false = h

  grown-fit : Local M → ObjectsFit (grown M)
  grown-fit L d h x w =
      let l : d < suc (count M) = subst (λ (k : ℕ). d < k) (grown-count M) h in
      let c = cond-out (ltb d (count M)) (owned M d) (subst (λ r. x ∈ r) ((grown-told M L).rows d l) w) in
      F d (ltb-true d (count M) c.0) x c.1

adopted-fit : (M : Map) → Local M → ObjectsFit (adopted M)
adopted-fit M L d h x w =
    let t = adopted-told M L in
    none-fit x (subst (λ r. x ∈ r) (t.rows d (subst (λ (k : ℕ). d < k) t.darts h)) w)

-- ---- commands
pub blanks-fit : Fit blanks
blanks-fit = record { plan = λ d h. absurd (not-suc-le-zero h); lifted = λ q h. absurd (not-suc-le-zero h) }

span-fit : (P : Map) → ObjectsFit P → (d : ℕ) (x : Owned) → object_fits x.object ≡ true → ObjectsFit (span_edit P d x)
span-fit P F d x e = respanned-fit P F d (with_span x) (λ r f. with_span-objects x r e f)

-- the plan that a command makes
module _ (P L : Map) (F : ObjectsFit P) (A : Local P) (B : Local L) where
  edited-fit : (c : Command) → Fitting c → ObjectsFit (edited P L c)
  unfolding edited
  edited-fit (command.New m) g = λ d h. absurd (not-suc-le-zero h)
  edited-fit command.Dart g = grown-fit P F A
  edited-fit (command.Sew i a b) g = sewn-fit P F i a b
  edited-fit (command.Unsew i a) g = unsewn-fit P F i a
  edited-fit (command.Place d x z) g = placed-fit P F d x z
  edited-fit (command.Span d lo hi) g = span-fit P F d (owned_span lo hi 0) refl
  edited-fit (command.SpanOf d lo hi object) g = span-fit P F d (owned_span lo hi object) (word_fits object g)
  edited-fit (command.Clear d) g = respanned-fit P F d (λ r. []) (λ r f. none-fit)
  edited-fit command.Lift g = F
  edited-fit command.Adopt g = adopted-fit L B
  edited-fit (command.Count x i) g = F
  edited-fit (command.Unreadable n) g = F

-- what the lifted darts carry fits
abbrev Below : Maps → Type 0
Below s = (q : ℕ) → q < length s.objects → get_or s.objects q 0 < object_limit

module _ (R : Room) (s : Maps) (G : Good R s) where
  pub plan-fit : ObjectsFit s.plan → (c : Command) → Fitting c → ObjectsFit (after R s c).plan
  unfolding after effect
  plan-fit F c g = go (accepted (reply R s c))
    where
      by : (k : Kind) → ObjectsFit (effect_of k (edited s.plan s.lifted c) s).plan
      by writes_plan = edited-fit s.plan s.lifted F G.plan G.lifted c g
      by writes_lifted = F
      by looks = F
      by ends_run = F

      go : (b : Bool) → ObjectsFit (cond b (effect s c) s).plan
      go true = by (kind_of c)
      go false = F

  pub after-fit : Fit s → (c : Command) → Fitting c → Fit (after R s c)
  unfolding after effect
  after-fit F c g = record { plan = plan-fit F.plan c g; lifted = go (accepted (reply R s c)) }
    where
      by : (k : Kind) → Below (effect_of k (edited s.plan s.lifted c) s)
      by writes_plan = F.lifted
      by writes_lifted = objects-below s.plan F.plan
      by looks = F.lifted
      by ends_run = F.lifted

      go : (b : Bool) → Below (cond b (effect s c) s)
      go true = by (kind_of c)
      go false = F.lifted

-- ---- a list of commands, as bytes have it
below_at : (n : ℕ) (l : List ℕ) → 0 < n → ((b : ℕ) → b ∈ l → b < n) → (p : ℕ) → get_or l p 0 < n
below_at n [] h f p = h
below_at n (x ∷ l) h f zero = f x (Memᴰ.head refl)
below_at n (x ∷ l) h f (suc p) = below_at n l h (λ b u. f b (Memᴰ.tail u)) p

module _ (bytes : List ℕ) (small : (b : ℕ) → b ∈ bytes → b < byte_limit) where
  -- the command that is read brings an object that fits, if any
  abbrev Reads : Read → Type 0
  Reads r = Fitting r.command

  word_below : (p : ℕ) → word bytes p < object_limit
  word_below p =
      let a : byte bytes p < byte_limit = below_at byte_limit bytes (omega arith) small p in
      let b : byte bytes (p + 1) < byte_limit = below_at byte_limit bytes (omega arith) small (p + 1) in
      omega arith

  operands-fit : (p k : ℕ) (c : Command) → Fitting c → Reads (operands bytes p k c)
  operands-fit p k c g = pick Reads (leb (p + k) (length bytes)) (record { command = c; next = p + k }) (unreadable bytes (number CutShort)) g tt

  -- so does what each form makes
  abbrev FormsFit : List Form → Type 0
  FormsFit [] = Unit {0}
  FormsFit (f ∷ l) = ((p : ℕ) → Fitting (f.makes bytes p)) × FormsFit l

  forms-fit : FormsFit forms
  forms-fit =
      (λ p. tt, (λ p. tt, (λ p. tt, (λ p. tt, (λ p. tt, (λ p. tt, (λ p. tt, (λ p. tt, (λ p. tt, (λ p. tt, (λ p. word_below (p + 10), tt)))))))))))

  after-byte : (op p : ℕ) → Reads (read_after bytes op p)
  unfolding read_after read_by
  after-byte op p = by forms forms-fit
    where
      by : (l : List Form) → FormsFit l → Reads (read_by l bytes op p)
      by [] r = tt
      by (x ∷ l) r = pick Reads (eqb op x.opcode) _ _ (operands-fit p x.width (x.makes bytes p) (r.0 p)) (by l r.1)

  read_fits : (p : ℕ) → Reads (read_at bytes p)
  unfolding read_at
  read_fits p = pick Reads (leb (length bytes) p) (unreadable bytes (number CutShort)) (read_after bytes (byte bytes p) (p + 1)) tt (after-byte (byte bytes p) (p + 1))

  pub commands-fit : (fuel room p k : ℕ) (c : Command) → c ∈ commands_from fuel room bytes p k → Fitting c
  unfolding commands_from
  commands-fit zero room p k c h = absurd (Memᴰ.not-nil h)
  commands-fit (suc fuel) room p k c h =
      go (leb (length bytes) p) (ltb room (reply_width * suc k)) (is_run_end (read_at bytes p).command)
      (subst (λ l. c ∈ l) (commands-turn fuel room bytes p k) h) (commands-fit fuel room (read_at bytes p).next (suc k) c)
    where
      rest : List Command
      rest = commands_from fuel room bytes (read_at bytes p).next (suc k)

      this : c ≡ (read_at bytes p).command → Fitting c
      this e = subst Fitting (sym e) (read_fits p)

      go : (x y z : Bool) → c ∈ turns bytes p x y z rest → (c ∈ rest → Fitting c) → Fitting c
      go true y z h f = unfold turns in absurd (Memᴰ.not-nil h)
      go false true z h f = unfold turns in absurd (Memᴰ.not-nil h)
      go false false true h f = unfold turns in this (Memᴰ.eq_of_singleton h)
      go false false false h f = unfold turns in ⊎_elim this f (Memᴰ.cases_cons h)

pub maps-fit : Lifts → (R : Room) (s : Maps) (cs : List Command) → Good R s → Fit s → ((c : Command) → c ∈ cs → Fitting c) → Fit (maps_from R s cs)
unfolding maps_from
maps-fit lifts R s [] G F f = F
maps-fit lifts R s (c ∷ cs) G F f =
    maps-fit lifts R (after R s c) cs (after-good lifts R s G c) (after-fit R s G F c (f c (Memᴰ.head refl))) (λ d h. f d (Memᴰ.tail h))
