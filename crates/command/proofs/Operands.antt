-- A command with k bytes of operands, by how many bytes are left.
--     cut              fewer than k: cut short
--     whole            k or more: the command, with the place after its operands
--     width_low        every width is low
--     no-width         a byte that no form has is an unknown command
--     by_width         of any other byte, the width and the command that it tells are its reading
use Rattle.std.proofs.Common.{◌≡◌, ℕ, ◌+◌, ◌<◌, ◌≤◌, Bool, true, false, cond, ◌&&◌, T, eqb, ltb, List, [], ◌∷◌, length, Option, Some, None, refl, ap, ◌∙◌, arith, ltb→lt, le-leb}
use borrow.Author.Tests.{lt-leb}
use Rattle.paper.specs.Command.{unreadable, operands, Form, forms, read_by, read_after}
use Rattle.paper.specs.Refusal.{number}
use Rattle.paper.specs.declared.refusal.Refusal.TheVariants.{UnknownCommand, CutShort}
use Rattle.paper.specs.declared.Command.{Command}
use Rattle.paper.specs.declared.Read.{Read}
use Rattle.paper.proofs.Same.{both}
use Rattle.command.specs.Operands.{width_by, operand_width, command_by, command_of}

module _ (s : List ℕ) (p k : ℕ) (c : Command) where
  pub cut : {r : Read} → length s < p + k → r ≡ unreadable s (number CutShort) → r ≡ operands s p k c
  cut l e = e ∙ rw (lt-leb (p + k) (length s) l)

  pub whole : {d : Command} → p + k ≤ length s → d ≡ c → ◌≡◌ {A = Read} (record { command = d; next = p + k }) (operands s p k c)
  whole l e = rw (e, le-leb (p + k) (length s) l)

-- No form has as many bytes of operands as a byte tells: a test over a list of forms, which antt computes.
abbrev narrow : List Form → Bool
narrow [] = true
narrow (f ∷ l) = ltb f.width 256 && narrow l

pub width_low : (op k : ℕ) → operand_width op ≡ Some k → k < 256
unfolding operand_width width_by
width_low op k e = by forms tt e
  where
    step : (b : Bool) (j : ℕ) (w : Option ℕ) → j < 256 → (w ≡ Some k → k < 256) → cond b (Some j) w ≡ Some k → k < 256
    step true j w h g e = let q : j ≡ k = cc in omega arith
    step false j w h g e = g e

    by : (l : List Form) → T (narrow l) → width_by l op ≡ Some k → k < 256
    by [] t e = absurd (cc)
    by (f ∷ l) t e =
        let h = both (ltb f.width 256) (narrow l) t in
        step (eqb op f.opcode) f.width (width_by l op) (ltb→lt f.width 256 h.0) (by l h.1) e

pub no-width : (s : List ℕ) (op p : ℕ) → operand_width op ≡ None → read_after s op p ≡ unreadable s (number UnknownCommand)
unfolding read_after read_by operand_width width_by
no-width s op p e = by forms e
  where
    step : (b : Bool) (k : ℕ) (w : Option ℕ) (x r : Read) {u : Read} → (w ≡ None → r ≡ u) → cond b (Some k) w ≡ None → cond b x r ≡ u
    step true k w x r g e = absurd (cc)
    step false k w x r g e = g e

    by : (l : List Form) → width_by l op ≡ None → read_by l s op p ≡ unreadable s (number UnknownCommand)
    by [] e = refl
    by (f ∷ l) e = step (eqb op f.opcode) f.width (width_by l op) (operands s p f.width (f.makes s p)) (read_by l s op p) (by l) e

pub by_width : (s : List ℕ) (op p k : ℕ) → operand_width op ≡ Some k → operands s p k (command_of s op p) ≡ read_after s op p
unfolding read_after read_by operand_width width_by
by_width s op p k e = by forms e
  where
    step : (b : Bool) (j : ℕ) (w : Option ℕ) (c d : Command) (r : Read) → (w ≡ Some k → operands s p k d ≡ r) → cond b (Some j) w ≡ Some k → operands s p k (cond b c d) ≡ cond b (operands s p j c) r
    step true j w c d r g e = let q : k ≡ j = cc in ap (λ i. operands s p i c) q
    step false j w c d r g e = g e

    by : (l : List Form) → width_by l op ≡ Some k → operands s p k (command_by l s op p) ≡ read_by l s op p
    by [] e = absurd (cc)
    by (f ∷ l) e = step (eqb op f.opcode) f.width (width_by l op) (f.makes s p) (command_by l s op p) (read_by l s op p) (by l) e
