-- The run on paper keeps to document 01's rules, which leave it no choice: as many steps as there are bytes are enough.
--     next_more        a command that is read has a byte at least
--     unread-end       the place of an unreadable command is the end of the bytes
--     run-over         with as many steps as bytes are left, the run and its commands are those of the rules
--     over-only        the rules lead to one list of commands and one outcome
use Rattle.std.proofs.Common.{◌≡◌, ℕ, zero, suc, ◌+◌, ◌<◌, ◌≤◌, Bool, true, false, cond, eqb, leb, List, [], ◌∷◌, length, sym, refl, ap, subst₂, le_refl, arith, leb-false, leb-true}
use Rattle.paper.specs.Refusal.{number}
use Rattle.paper.specs.declared.refusal.Refusal.TheVariants.{UnknownCommand, CutShort}
use Rattle.paper.specs.Command.{byte, unreadable, operands, Form, forms, read_by, read_after, read_at}
use Rattle.paper.specs.Step.{Room, is_run_end}
use Rattle.paper.specs.Run.{State, took, Outcome, full, run_from}
use Rattle.paper.specs.declared.Command.{Command}
use Rattle.paper.specs.declared.Read.{Read}
use Rattle.theory.specs.History.{commands_from}
use Rattle.theory.specs.Over.{Over, no_byte, no_room, unread, more}
use Rattle.theory.proofs.Bool.{clash}
use Rattle.theory.proofs.Run.{turn, turns, run-turn, commands-turn}

-- ---- the place of the byte after a command
pub pick : (P : Read → Type 0) (b : Bool) (x y : Read) → P x → P y → P (cond b x y)
pick P true x y f g = f
pick P false x y f g = g

-- a command that is made by a form does not end the run
abbrev Readable : List Form → Type 0
Readable [] = Unit {0}
Readable (f ∷ l) = ((s : List ℕ) (p : ℕ) → is_run_end (f.makes s p) ≡ false) × Readable l

forms-readable : Readable forms
forms-readable =
    (λ s p. refl, (λ s p. refl, (λ s p. refl, (λ s p. refl, (λ s p. refl, (λ s p. refl, (λ s p. refl, (λ s p. refl, (λ s p. refl, (λ s p. refl, (λ s p. refl, tt)))))))))))

-- what holds of every command with its operands, and of an unreadable one, holds of what is read
read_all : (P : Read → Type 0) (s : List ℕ) (op p : ℕ) → ((k : ℕ) (c : Command) → is_run_end c ≡ false → P (operands s p k c)) → P (unreadable s (number UnknownCommand))
    → P (read_after s op p)
unfolding read_after read_by
read_all P s op p f g = by forms forms-readable
  where
    by : (l : List Form) → Readable l → P (read_by l s op p)
    by [] r = g
    by (x ∷ l) r = pick P (eqb op x.opcode) _ _ (f x.width (x.makes s p) (r.0 s p)) (by l r.1)

-- a command with so many bytes of operands
with_operands : (s : List ℕ) (p k : ℕ) (c : Command) → Read
with_operands s p k c = record { command = c; next = p + k }

pub next_more : (s : List ℕ) (p : ℕ) → p < length s → p < (read_at s p).next
unfolding read_at with_operands
next_more s p h =
    pick Past (leb (length s) p) _ _ h
    (read_all Past s (byte s p) (p + 1)
    (λ k c e. pick Past (leb (p + 1 + k) (length s)) (with_operands s (p + 1) k c) (unreadable s (number CutShort)) (omega arith) h) h)
  where
    Past : Read → Type 0
    Past r = p < r.next

pub unread-end : (s : List ℕ) (p : ℕ) → is_run_end (read_at s p).command ≡ true → length s ≤ (read_at s p).next
unfolding read_at with_operands
unread-end s p =
    pick AtEnd (leb (length s) p) _ _ (λ e. le_refl (length s))
    (read_all AtEnd s (byte s p) (p + 1)
    (λ k c f. pick AtEnd (leb (p + 1 + k) (length s)) (with_operands s (p + 1) k c) (unreadable s (number CutShort)) (λ e. absurd (clash e f)) (λ e. le_refl (length s)))
    (λ e. le_refl (length s)))
  where
    AtEnd : Read → Type 0
    AtEnd r = is_run_end r.command ≡ true → length s ≤ r.next

-- ---- the run by the rules
turn-rule : (R : Room) (bytes : List ℕ) (p : ℕ) (s : State) (x y z : Bool) (cs : List Command) (o : Outcome) → leb (length bytes) p ≡ x → full R s ≡ y
    → is_run_end (read_at bytes p).command ≡ z → (p < length bytes → Over R bytes (read_at bytes p).next (took R s (read_at bytes p).command) cs o)
    → Over R bytes p s (turns bytes p x y z cs) (turn R bytes p s x y z o)
unfolding turn turns
turn-rule R bytes p s true y z cs o e f g h = no_byte (leb-true (length bytes) p e)
turn-rule R bytes p s false true z cs o e f g h = let l = leb-false (length bytes) p e in no_room {p = p} (omega arith) f
turn-rule R bytes p s false false true cs o e f g h = unread (leb-false (length bytes) p e) f g
turn-rule R bytes p s false false false cs o e f g h = let l = leb-false (length bytes) p e in more l f g (h l)

pub run-over : (fuel : ℕ) (R : Room) (bytes : List ℕ) (p : ℕ) (s : State) → length bytes ≤ p + fuel
    → Over R bytes p s (commands_from fuel R.reply bytes p s.taken) (run_from fuel R bytes p s)
unfolding run_from commands_from
run-over zero R bytes p s h = no_byte {p = p} (omega arith)
run-over (suc fuel) R bytes p s h =
    let c = (read_at bytes p).command in
    let q = (read_at bytes p).next in
    let cs = commands_from fuel R.reply bytes q (suc s.taken) in
    let o = run_from fuel R bytes q (took R s c) in
    subst₂ (λ l x. Over R bytes p s l x) (sym (commands-turn fuel R.reply bytes p s.taken)) (sym (run-turn fuel R bytes p s))
    (turn-rule R bytes p s (leb (length bytes) p) (full R s) (is_run_end c) cs o refl refl refl
    (λ l. let n = next_more bytes p l in later fuel R bytes q s c (run-over fuel R bytes q (took R s c) (omega arith))))
  where
    later : (fuel : ℕ) (R : Room) (bytes : List ℕ) (q : ℕ) (s : State) (c : Command)
        → Over R bytes q (took R s c) (commands_from fuel R.reply bytes q (took R s c).taken) (run_from fuel R bytes q (took R s c))
        → Over R bytes q (took R s c) (commands_from fuel R.reply bytes q (suc s.taken)) (run_from fuel R bytes q (took R s c))
    later fuel R bytes q s c d = unfold took in d

-- ---- the rules leave no choice
pub over-only : (R : Room) (bytes : List ℕ) {p : ℕ} {s : State} {cs cs' : List Command} {o o' : Outcome} → Over R bytes p s cs o → Over R bytes p s cs' o'
    → (cs ≡ cs') × (o ≡ o')
over-only R bytes (no_byte h) (no_byte k) = (refl, refl)
over-only R bytes (no_byte h) (no_room l f) = absurd (omega arith)
over-only R bytes (no_byte h) (unread l f g) = absurd (omega arith)
over-only R bytes (no_byte h) (more l f g d) = absurd (omega arith)
over-only R bytes (no_room l f) (no_byte h) = absurd (omega arith)
over-only R bytes (no_room l f) (no_room k e) = (refl, refl)
over-only R bytes (no_room l f) (unread k e g) = absurd (clash f e)
over-only R bytes (no_room l f) (more k e g d) = absurd (clash f e)
over-only R bytes (unread l f g) (no_byte h) = absurd (omega arith)
over-only R bytes (unread l f g) (no_room k e) = absurd (clash e f)
over-only R bytes (unread l f g) (unread k e j) = (refl, refl)
over-only R bytes (unread l f g) (more k e j d) = absurd (clash g j)
over-only R bytes (more l f g d) (no_byte h) = absurd (omega arith)
over-only R bytes (more l f g d) (no_room k e) = absurd (clash e f)
over-only R bytes (more l f g d) (unread k e j) = absurd (clash j g)
over-only R bytes {p} (more l f g d) (more k e j b) = let r = over-only R bytes d b in (ap (λ cs. (read_at bytes p).command ∷ cs) r.0, r.1)
