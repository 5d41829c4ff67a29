-- A cell that a flood has listed: its rows, and its pieces in words of the paper.
--     darts_in         the listed darts, as a part of work; darts-length: how many
--     listed-room, listed-walk     work has room for them, and the walk may go over them
--     listed-pieces    the pieces of their spans are those of the cell
--     told-large, told-fits     the two answers
use Rattle.std.proofs.Common.{◌≡◌, ℕ, ◌+◌, ◌*◌, ◌-◌, ◌/◌, ◌<◌, ◌≤◌, Bool, true, false, cond, List, length, get_or, take, drop, length-take, length-drop, get_or-take, get_or-drop, ℤ, sym, refl, ap, ◌∙◌, subst, arith, le-ltb, lt-ltb}
use Rattle.paper.specs.Width.{dart_limit}
use Rattle.paper.specs.Below.{onto}
use Rattle.paper.specs.Map.{Span, Map, count, row}
use Rattle.paper.specs.Span.{ordered, ends_of}
use Rattle.paper.specs.Orbit.{marked, orbit}
use Rattle.paper.specs.Cell.{Cell, cell}
use Rattle.paper.specs.Ends.{pieces}
use Rattle.paper.specs.Table.{row_at}
use Rattle.paper.specs.Refusal.{number}
use Rattle.paper.specs.declared.refusal.Refusal.TheVariants.{TooLarge}
use Rattle.theory.specs.Member.{◌∈◌}
use Rattle.theory.specs.Walk.{pieces_of}
use Rattle.theory.proofs.Member.{join-of-in, join-of-out}
use Rattle.theory.proofs.Valid.{in_cell, of-cell, reach-within}
use Rattle.theory.proofs.Walk.{cell-pieces}
use Rattle.span.specs.Row.{RowIn}
use Rattle.kernel.specs.Link.{alpha}
use Rattle.hold.specs.Hold.{Reads}
use Rattle.orbit.specs.Flood.{axes, Ready, Listed}
use Rattle.orbit.proofs.Held.{cell-held}
use Rattle.orbit.proofs.Listed.{listed-few}
use Rattle.pieces.specs.Listed.{spans_of, RowsIn}
use Rattle.pieces.specs.Told.{is_too_large, Told}
use Rattle.hold.proofs.Hold.{reads-row}
use Rattle.pieces.proofs.Rows.{place-of, at-place}

-- the r darts that stand in work behind n numbers
abbrev pub darts_in : List ℕ → ℕ → ℕ → List ℕ
darts_in w n r = take (n + r - n) (drop n w)

darts-length : (w : List ℕ) (n r : ℕ) → n + r ≤ length w → length (darts_in w n r) ≡ r
darts-length w n r h = omega (arith, length-take (n + r - n) (drop n w), length-drop n w)

at-queue : (w : List ℕ) (n r q : ℕ) → q < r → get_or (darts_in w n r) q 0 ≡ get_or w (n + q) 0
at-queue w n r q h = get_or-take (n + r - n) (drop n w) q 0 (omega arith) ∙ get_or-drop n w q 0

dart-out : (w : List ℕ) (n r e : ℕ) → e ∈ darts_in w n r → (q : ℕ) × (q < r) × (get_or w (n + q) 0 ≡ e)
dart-out w n r e h =
    let p = place-of 0 (darts_in w n r) e h in
    let q : p.0 < r = let a = p.1 in omega (arith, length-take (n + r - n) (drop n w)) in
    (p.0, q, sym (at-queue w n r p.0 q) ∙ p.2)

dart-in : (w : List ℕ) (n r q : ℕ) → n + r ≤ length w → q < r → get_or w (n + q) 0 ∈ darts_in w n r
dart-in w n r q f h = subst (λ e. e ∈ darts_in w n r) (at-queue w n r q h) (at-place (darts_in w n r) q 0 (omega (arith, darts-length w n r f)))

module _ (n : ℕ) (ms : List Bool) (w : List ℕ) (r : ℕ) (K : Listed n ms w r) where
  listed-rows : (s : List ℤ) → ((e : ℕ) → e < n → RowIn s e × (ordered (row_at s e) ≡ true)) → RowsIn s (darts_in w n r)
  listed-rows s f k z h =
      let q = dart-out w n r (get_or (darts_in w n r) k z) (at-place (darts_in w n r) k z h) in
      f (get_or (darts_in w n r) k z) (subst (λ (e : ℕ). e < n) q.2 (K.set.below q.0 q.1))

-- work has room for the listed darts behind n numbers
pub listed-room : (m n r : ℕ) (ms : List Bool) (ls w w' : List ℕ) → Ready m n ls w → length w' ≡ length w → Listed n ms w' r → n + r ≤ length w'
listed-room m n r ms ls w w' Y q K = let few = listed-few K in omega (arith, Y.room)

-- what the walk asks of them
pub listed-walk : (m n r : ℕ) (ms : List Bool) (ls w w' : List ℕ) → Ready m n ls w → length w' ≡ length w → Listed n ms w' r → (s : List ℤ)
    → ((e : ℕ) → e < n → RowIn s e × (ordered (row_at s e) ≡ true)) → (length (darts_in w' n r) ≤ dart_limit) × RowsIn s (darts_in w' n r)
listed-walk m n r ms ls w w' Y q K s f =
    let few = listed-few K in
    (omega (arith, Y.darts, darts-length w' n r (listed-room m n r ms ls w w' Y q K)), listed-rows n ms w' r K s f)

-- M's links and rows stand in the tables, and work lists the k-cell of d
pub listed-pieces : (M : Map) (m n k d r : ℕ) (ls w : List ℕ) (s : List ℤ) → Reads M m n ls s → Ready m n ls w → d < n → (w' : List ℕ)
    → Listed n (orbit (alpha ls) m (axes k (k + 1)) n d) w' r → n + r ≤ length w' → pieces M k d ≡ pieces_of (spans_of s (darts_in w' n r))
listed-pieces M m n k d r ls w s I Y dn w' K room = cell-pieces M I.valid k d (nd d dn) (spans_of s (darts_in w' n r)) out into
  where
    nd : (e : ℕ) → e < n → e < count M
    nd e h = subst (λ (c : ℕ). e < c) (sym I.holds.darts) h

    dn' : (e : ℕ) → e < count M → e < n
    dn' e h = subst (λ (c : ℕ). e < c) I.holds.darts h

    is-cell : orbit (alpha ls) m (axes k (k + 1)) n d ≡ cell M k d
    is-cell = cell-held M m n ls I.holds Y.links k d dn

    out : (x : Span) → x ∈ spans_of s (darts_in w' n r) → (e : ℕ) × Cell M k d e × (x ∈ row M e)
    out x h =
        let j = join-of-out (darts_in w' n r) (row_at s) h in
        let q = dart-out w' n r j.0 j.1 in
        let en = subst (λ (c : ℕ). c < n) q.2 (K.set.below q.0 q.1) in
        let mark = subst (λ (c : ℕ). marked (cell M k d) c ≡ true) q.2 (subst (λ l. marked l (get_or w' (n + q.0) 0) ≡ true) is-cell (K.marks q.0 q.1)) in
        (j.0, of-cell M I.valid k d j.0 (nd d dn) (nd j.0 en) mark, subst (λ l. x ∈ l) (sym (reads-row I j.0 en)) j.2)

    into : (e : ℕ) (x : Span) → Cell M k d e → x ∈ row M e → x ∈ spans_of s (darts_in w' n r)
    into e x c h =
        let en = dn' e (reach-within M I.valid (nd d dn) c) in
        let q = K.all e en (subst (λ l. marked l e ≡ true) (sym is-cell) (in_cell M I.valid k d e (nd d dn) c)) in
        join-of-in (darts_in w' n r) (row_at s) (subst (λ (c : ℕ). c ∈ darts_in w' n r) q.2 (dart-in w' n r q.0 room q.1)) (subst (λ l. x ∈ l) (reads-row I e en) h)

-- the answers, by whether the pairs fit
pub told-large : (P Q : List Span) (before : List ℤ) (c : ℕ) → P ≡ Q → c ≡ length Q → length before / 2 < c → Told P before (record { number = number TooLarge; pairs = 0 }) before
told-large P Q before c e f h =
    let t : is_too_large P before ≡ true = lt-ltb (length before) (2 * length P) (let g = ap length e in omega arith) in
    record { answer = rw t refl; memory = rw t refl }

pub told-fits : (P Q : List Span) (before after : List ℤ) (c : ℕ) → P ≡ Q → c ≡ length Q → c ≤ length before / 2 → after ≡ onto (ends_of Q) before
    → Told P before (record { number = 0; pairs = c }) after
told-fits P Q before after c e f h w =
    let t : is_too_large P before ≡ false = le-ltb (length before) (2 * length P) (let g = ap length e in omega arith) in
    record {
      answer = (λ i. record { number = 0; pairs = (f ∙ ap length (sym e)) i }) ∙ sym (ap (λ b. cond b (record { number = number TooLarge; pairs = 0 }) (record { number = 0; pairs = length P })) t);
      memory = w ∙ ap (λ l. onto (ends_of l) before) (sym e) ∙ sym (ap (λ b. cond b before (onto (ends_of P) before)) t);
    }
