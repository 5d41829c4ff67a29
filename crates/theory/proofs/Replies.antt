-- Replies fit: a number of one byte, a value of two.
--     Small            it does
--     judge-small, accept-small    what is refused and what is accepted
--     value-fits       the value of an accepted command fits two bytes
--     replies_small    every reply to a list of commands
--     bytes_small      reply bytes are bytes
use Rattle.std.proofs.Common.{◌≡◌, ℕ, ◌/◌, ◌%◌, ◌<◌, ◌≤◌, Bool, true, false, cond, ◌||◌, eqb, ltb, List, [], ◌∷◌, length, sym, refl, subst, ⊎_elim, zero-le, arith, ltb-false, ltb-true, eqb-true}
use mathlib.Core.List.Memᴰ
use Rattle.paper.specs.Width.{dart_limit, byte_limit, word_limit}
use Rattle.paper.specs.Below.{first_below}
use Rattle.paper.specs.Map.{Map, count}
use Rattle.paper.specs.Orbit.{marked, size}
use Rattle.paper.specs.Cell.{corner, top, lowest, cells}
use Rattle.paper.specs.Lift.{lifted_darts}
use Rattle.paper.specs.Sew.{wing}
use Rattle.paper.specs.Edit.{freed}
use Rattle.paper.specs.Refusal.{number, Test, ◌if◌, ◌among◌, answer, judge, accepted, accept}
use Rattle.paper.specs.Step.{Maps, Room, side_of, refusals, value, reply, after}
use Rattle.paper.specs.Run.{reply_bytes}
use Rattle.paper.specs.declared.Command.{Command}
use Rattle.paper.specs.declared.Command.TheVariants as command
use Rattle.paper.specs.declared.Answer.{Answer}
use Rattle.theory.specs.Member.{◌∈◌}
use Rattle.theory.specs.Good.{Good}
use Rattle.theory.specs.History.{replies_from}
use Rattle.theory.proofs.Below.{count-le}
use Rattle.theory.proofs.Judge.{Off, number-within, judge-off}
use Rattle.theory.proofs.Step.{Lifts, after-good}

abbrev pub Small : Answer → Type 0
Small a = (a.number < byte_limit) × (a.value < word_limit)

-- ---- one reply
-- a refusal's value is 0, or the dart at fault
judge-small : (n : ℕ) (l : List Test) → n ≤ word_limit → Small (judge n l)
unfolding judge
judge-small n [] h = (omega arith, omega arith)
judge-small n (r if b ∷ l) h = go b (judge-small n l h)
  where
    go : (b : Bool) → Small (judge n l) → Small (cond b (answer (number r) 0) (judge n l))
    go true f = ((number-within r).1, omega arith)
    go false f = f
judge-small n (r among p ∷ l) h = go (ltb (first_below n p) n) refl (judge-small n l h)
  where
    go : (b : Bool) → ltb (first_below n p) n ≡ b → Small (judge n l) → Small (cond b (answer (number r) (first_below n p)) (judge n l))
    go true e f = ((number-within r).1, let k = ltb-true (first_below n p) n e in omega arith)
    go false e f = f

accept-small : (l : List Test) (v : ℕ) → (Off 0 l → v < word_limit) → Small (accept (judge 0 l) v)
unfolding accept
accept-small l v f = go (accepted (judge 0 l)) refl
  where
    go : (b : Bool) → accepted (judge 0 l) ≡ b → Small (cond b (answer 0 v) (judge 0 l))
    go true e = (omega arith, f (judge-off 0 l (eqb-true (judge 0 l).number 0 e)))
    go false e = judge-small 0 l zero-le

size-le : (n : ℕ) (ms : List Bool) → size n ms ≤ n
unfolding size
size-le n ms = count-le n (marked ms)

cells-le : (M : Map) (i : ℕ) → cells M i ≤ count M
unfolding cells
cells-le M i = count-le (count M) (lowest M i)

module _ (R : Room) (roomy : (R.plan ≤ dart_limit) × (R.lifted ≤ dart_limit)) where
  side-fits : (s : Maps) → Good R s → (x : ℕ) → count (side_of s x) ≤ dart_limit
  side-fits s G x = go (eqb x 0)
    where
      go : (b : Bool) → count (cond b s.plan s.lifted) ≤ dart_limit
      go true = let h = G.plan_fits in let k = roomy.0 in omega arith
      go false = let h = G.lifted_fits in let k = roomy.1 in omega arith

  plan-size : (s : Maps) → Good R s → (ms : List Bool) → size (count s.plan) ms ≤ dart_limit
  plan-size s G ms = let h = size-le (count s.plan) ms in let k = side-fits s G 0 in omega arith

  value-fits : (s : Maps) → Good R s → (c : Command) → Off 0 (refusals R s c) → value s c < word_limit
  unfolding value refusals
  value-fits s G (command.New m) o = omega arith
  value-fits s G command.Dart o = let h = side-fits s G 0 in omega arith
  value-fits s G (command.Sew i a b) o =
      let h = count-le (count s.plan) (λ d. marked (wing s.plan i a) d || marked (wing s.plan i b) d) in
      let k = side-fits s G 0 in
      omega arith
  value-fits s G (command.Unsew i a) o = let h = plan-size s G (freed s.plan i a) in omega arith
  value-fits s G (command.Place d x z) o = let h = plan-size s G (corner s.plan d) in omega arith
  value-fits s G (command.Span d lo hi) o = let h = plan-size s G (top s.plan d) in omega arith
  value-fits s G (command.SpanOf d lo hi object) o = let h = plan-size s G (top s.plan d) in omega arith
  value-fits s G (command.Clear d) o = let h = plan-size s G (top s.plan d) in omega arith
  value-fits s G command.Lift o =
      let h = ltb-false R.lifted (length (lifted_darts s.plan)) o.1.1.0 in
      let k = roomy.1 in
      omega arith
  value-fits s G command.Adopt o = let h = side-fits s G 1 in omega arith
  value-fits s G (command.Count x i) o = let h = cells-le (side_of s x) i in let k = side-fits s G x in omega arith
  value-fits s G (command.Unreadable n) o = omega arith

  reply-small : (s : Maps) → Good R s → (c : Command) → Small (reply R s c)
  unfolding reply
  reply-small s G c = accept-small (refusals R s c) (value s c) (value-fits s G c)

  -- ---- all replies
  pub replies_small : Lifts → (s : Maps) (cs : List Command) → Good R s → (a : Answer) → a ∈ replies_from R s cs → Small a
  unfolding replies_from
  replies_small lifts s [] G a h = absurd (Memᴰ.not-nil h)
  replies_small lifts s (c ∷ cs) G a h =
      ⊎_elim (λ e. subst Small (sym e) (reply-small s G c)) (λ t. replies_small lifts (after R s c) cs (after-good lifts R s G c) a t) (Memᴰ.cases_cons h)

pub bytes_small : (l : List Answer) → ((a : Answer) → a ∈ l → Small a) → (b : ℕ) → b ∈ reply_bytes l → b < byte_limit
unfolding reply_bytes
bytes_small [] f b h = absurd (Memᴰ.not-nil h)
bytes_small (a ∷ l) f b h =
    let s = f a (Memᴰ.head refl) in
    let n = s.0 in
    let v = s.1 in
    ⊎_elim (λ (e : b ≡ a.number). omega arith)
    (λ t. ⊎_elim (λ (e : b ≡ a.value / byte_limit). omega arith)
    (λ u. ⊎_elim (λ (e : b ≡ a.value % byte_limit). omega arith) (λ w. bytes_small l (λ x k. f x (Memᴰ.tail k)) b w) (Memᴰ.cases_cons u))
    (Memᴰ.cases_cons t))
    (Memᴰ.cases_cons h)
