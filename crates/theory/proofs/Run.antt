-- The run on paper is the commands that it reads, one after the other.
--     took_all          the state after a list of commands
--     Done             a run that ends with the state after the commands that it reads
--     turn, turns      one turn of the run, and of the list of its commands
--     run-turn, commands-turn     the run and that list are such turns
--     run-done         every run does
--     all-maps, all-replies, all-taken       what that state holds
--     Accounts, all-accounts      it counts its replies
--     reply-bytes      a reply is three bytes
--     all-good         its maps are good
use Rattle.std.proofs.Common.{◌≡◌, ℕ, zero, suc, ◌+◌, ◌*◌, ◌≤◌, Bool, true, false, cond, ltb, leb, List, [], ◌∷◌, ◌++◌, length, sym, refl, ap, ◌∙◌, subst₂, append_assoc, append-nil, add-zero, add-one, arith, length-append, ltb-false}
use native.Mathlib.Nat.{add_left_comm}
use Rattle.paper.specs.Width.{reply_width}
use Rattle.paper.specs.Refusal.{number, accepted}
use Rattle.paper.specs.declared.refusal.Refusal.TheVariants.{RepliesFull}
use Rattle.paper.specs.Command.{read_at}
use Rattle.paper.specs.Step.{Maps, Room, reply, after, is_run_end}
use Rattle.paper.specs.Run.{State, took, Outcome, outcome, full, run_from, reply_bytes}
use Rattle.paper.specs.declared.Command.{Command}
use Rattle.paper.specs.declared.Answer.{Answer}
use Rattle.theory.specs.Good.{Good}
use Rattle.theory.specs.History.{commands_from, maps_from, replies_from, accepted_of, refused_of}
use Rattle.theory.proofs.Below.{suc-over}
use Rattle.theory.proofs.Step.{Lifts, after-good}

unfoldable pub took_all : Room → State → List Command → State
took_all R s [] = s
took_all R s (c ∷ cs) = took_all R (took R s c) cs

-- the run ends by some number with the state after these commands, whose replies had room
pub record Done (R : Room) (s : State) (cs : List Command) (o : Outcome) : Type 0 where
  pub number : ℕ
  pub state : o ≡ outcome number (took_all R s cs)
  pub fits : reply_width * (took_all R s cs).taken ≤ R.reply

-- one turn of the run and of the list of commands, by the three tests: no byte left, no room for a reply, an unreadable command
unfoldable pub turn : Room → List ℕ → ℕ → State → Bool → Bool → Bool → Outcome → Outcome
turn R bytes p s true y z rest = outcome 0 s
turn R bytes p s false true z rest = outcome (number RepliesFull) s
turn R bytes p s false false true rest = outcome (reply R s.maps (read_at bytes p).command).number (took R s (read_at bytes p).command)
turn R bytes p s false false false rest = rest

unfoldable pub turns : List ℕ → ℕ → Bool → Bool → Bool → List Command → List Command
turns bytes p true y z rest = []
turns bytes p false true z rest = []
turns bytes p false false true rest = (read_at bytes p).command ∷ []
turns bytes p false false false rest = (read_at bytes p).command ∷ rest

pub run-turn : (fuel : ℕ) (R : Room) (bytes : List ℕ) (p : ℕ) (s : State)
    → run_from (suc fuel) R bytes p s
    ≡ turn R bytes p s (leb (length bytes) p) (full R s) (is_run_end (read_at bytes p).command)
    (run_from fuel R bytes (read_at bytes p).next (took R s (read_at bytes p).command))
unfolding run_from turn
run-turn fuel R bytes p s = go (leb (length bytes) p) (full R s) (is_run_end (read_at bytes p).command)
  where
    r : Outcome
    r = run_from fuel R bytes (read_at bytes p).next (took R s (read_at bytes p).command)

    go : (x y z : Bool) → ◌≡◌ {A = Outcome}
        (elim x [
          | true ↦ outcome 0 s
          | false ↦ elim y [
            | true ↦ outcome (number RepliesFull) s
            | false ↦ elim z [ true ↦ outcome (reply R s.maps (read_at bytes p).command).number (took R s (read_at bytes p).command) | false ↦ r ]
          ]
        ])
        (turn R bytes p s x y z r)
    go true y z = refl
    go false true z = refl
    go false false true = refl
    go false false false = refl

pub commands-turn : (fuel room : ℕ) (bytes : List ℕ) (p k : ℕ)
    → commands_from (suc fuel) room bytes p k
    ≡ turns bytes p (leb (length bytes) p) (ltb room (reply_width * suc k)) (is_run_end (read_at bytes p).command) (commands_from fuel room bytes (read_at bytes p).next (suc k))
unfolding commands_from turns
commands-turn fuel room bytes p k = go (leb (length bytes) p) (ltb room (reply_width * suc k)) (is_run_end (read_at bytes p).command)
  where
    r : List Command
    r = commands_from fuel room bytes (read_at bytes p).next (suc k)

    go : (x y z : Bool) → ◌≡◌ {A = List Command}
        (elim x [ true ↦ [] | false ↦ elim y [ true ↦ [] | false ↦ elim z [ true ↦ (read_at bytes p).command ∷ [] | false ↦ (read_at bytes p).command ∷ r ] ] ])
        (turns bytes p x y z r)
    go true y z = refl
    go false true z = refl
    go false false true = refl
    go false false false = refl

turn-done : (R : Room) (bytes : List ℕ) (p : ℕ) (s : State) (cs : List Command) (o : Outcome) (x y z : Bool) → full R s ≡ y → reply_width * s.taken ≤ R.reply
    → (reply_width * suc s.taken ≤ R.reply → Done R (took R s (read_at bytes p).command) cs o) → Done R s (turns bytes p x y z cs) (turn R bytes p s x y z o)
unfolding turn turns took_all took
turn-done R bytes p s cs o true y z e f d = record { number = 0; state = refl; fits = f }
turn-done R bytes p s cs o false true z e f d = record { number = number RepliesFull; state = refl; fits = f }
turn-done R bytes p s cs o false false true e f d = record {
  number = (reply R s.maps (read_at bytes p).command).number;
  state = refl;
  fits = ltb-false R.reply (reply_width * suc s.taken) e;
}
turn-done R bytes p s cs o false false false e f d =
    let r = d (ltb-false R.reply (reply_width * suc s.taken) e) in
    record { number = r.number; state = r.state; fits = r.fits }

pub run-done : (fuel : ℕ) (R : Room) (bytes : List ℕ) (p : ℕ) (s : State) → reply_width * s.taken ≤ R.reply
    → Done R s (commands_from fuel R.reply bytes p s.taken) (run_from fuel R bytes p s)
unfolding run_from commands_from took_all
run-done zero R bytes p s f = record { number = 0; state = refl; fits = f }
run-done (suc fuel) R bytes p s f =
    let c = (read_at bytes p).command in
    let cs = commands_from fuel R.reply bytes (read_at bytes p).next (suc s.taken) in
    let o = run_from fuel R bytes (read_at bytes p).next (took R s c) in
    subst₂ (λ l x. Done R s l x) (sym (commands-turn fuel R.reply bytes p s.taken)) (sym (run-turn fuel R bytes p s))
    (turn-done R bytes p s cs o (leb (length bytes) p) (full R s) (is_run_end c) refl f
    (λ g. later fuel R bytes (read_at bytes p).next s c g (run-done fuel R bytes (read_at bytes p).next (took R s c))))
  where
    later : (fuel : ℕ) (R : Room) (bytes : List ℕ) (q : ℕ) (s : State) (c : Command) → reply_width * suc s.taken ≤ R.reply
        → (reply_width * (took R s c).taken ≤ R.reply
        → Done R (took R s c) (commands_from fuel R.reply bytes q (took R s c).taken) (run_from fuel R bytes q (took R s c)))
        → Done R (took R s c) (commands_from fuel R.reply bytes q (suc s.taken)) (run_from fuel R bytes q (took R s c))
    later fuel R bytes q s c g d = unfold took in d g

-- ---- the state after a list of commands
pub all-maps : (R : Room) (s : State) (cs : List Command) → (took_all R s cs).maps ≡ maps_from R s.maps cs
unfolding took_all maps_from took
all-maps R s [] = refl
all-maps R s (c ∷ cs) = all-maps R (took R s c) cs

pub all-replies : (R : Room) (s : State) (cs : List Command) → (took_all R s cs).replies ≡ s.replies ++ replies_from R s.maps cs
unfolding took_all replies_from took
all-replies R s [] = sym (append-nil s.replies)
all-replies R s (c ∷ cs) = all-replies R (took R s c) cs ∙ append_assoc s.replies (reply R s.maps c ∷ []) (replies_from R (after R s.maps c) cs)

pub all-taken : (R : Room) (s : State) (cs : List Command) → (took_all R s cs).taken ≡ s.taken + length cs
unfolding took_all took
all-taken R s [] = sym (add-zero s.taken)
all-taken R s (c ∷ cs) = all-taken R (took R s c) cs ∙ suc-over s.taken (length cs)

-- taken = accepted + refused, and these count the replies
pub record Accounts (s : State) : Type 0 where
  pub taken : s.taken ≡ length s.replies
  pub sum : s.taken ≡ s.accepts + s.refuses
  pub accepts : s.accepts ≡ accepted_of s.replies
  pub refuses : s.refuses ≡ refused_of s.replies

-- what counts a list reply by reply counts a reply at its end as one at its start
tally-append : (count : List Answer → ℕ) (each : Answer → ℕ) → ((a : Answer) (l : List Answer) → count (a ∷ l) ≡ each a + count l)
    → (l : List Answer) (a : Answer) → count (l ++ (a ∷ [])) ≡ each a + count l
tally-append count each e [] a = e a []
tally-append count each e (b ∷ l) a =
    e b (l ++ (a ∷ [])) ∙ ap (λ (n : ℕ). each b + n) (tally-append count each e l a) ∙ add_left_comm (each b) (each a) (count l)
    ∙ ap (λ (n : ℕ). each a + n) (sym (e b l))

took-accounts : (R : Room) (s : State) (c : Command) → Accounts s → Accounts (took R s c)
unfolding took accepted_of refused_of
took-accounts R s c A = record {
  taken = ap suc A.taken ∙ sym (length-append s.replies (a ∷ []) ∙ add-one (length s.replies));
  sum = ap suc A.sum ∙ shared (accepted a) s.accepts s.refuses;
  accepts = ap (λ (n : ℕ). cond (accepted a) 1 0 + n) A.accepts ∙ sym (tally-append accepted_of (λ b. cond (accepted b) 1 0) (λ b l. refl) s.replies a);
  refuses = ap (λ (n : ℕ). cond (accepted a) 0 1 + n) A.refuses ∙ sym (tally-append refused_of (λ b. cond (accepted b) 0 1) (λ b l. refl) s.replies a);
}
  where
    a : Answer
    a = reply R s.maps c

    shared : (b : Bool) (x y : ℕ) → suc (x + y) ≡ (cond b 1 0 + x) + (cond b 0 1 + y)
    shared true x y = omega arith
    shared false x y = omega arith

pub all-accounts : (R : Room) (s : State) (cs : List Command) → Accounts s → Accounts (took_all R s cs)
unfolding took_all
all-accounts R s [] A = A
all-accounts R s (c ∷ cs) A = all-accounts R (took R s c) cs (took-accounts R s c A)

pub reply-bytes : (l : List Answer) → length (reply_bytes l) ≡ reply_width * length l
unfolding reply_bytes
reply-bytes [] = refl
reply-bytes (a ∷ l) = let h = reply-bytes l in omega arith

pub all-good : Lifts → (R : Room) (s : Maps) (cs : List Command) → Good R s → Good R (maps_from R s cs)
unfolding maps_from
all-good lifts R s [] G = G
all-good lifts R s (c ∷ cs) G = all-good lifts R (after R s c) cs (after-good lifts R s G c)
