-- E1 to E12, by one computed theorem; and what each row says.
use Rattle.std.proofs.Common.{◌≡◌, ℕ, suc, Bool, ◌&&◌, T, eqb, ltb, List, [], ◌∷◌, length, sym, refl, subst, ⊎_elim, eqb→eq, ltb→lt}
use mathlib.Core.List.Memᴰ
use mathlib.Core.List.{Memᴰ}
use Rattle.paper.specs.Width.{plan_room, lifted_room, reply_room}
use Rattle.paper.specs.Map.{Map, link, owned}
use Rattle.paper.specs.Cell.{cells}
use Rattle.paper.specs.Ends.{pieces}
use Rattle.paper.specs.Lift.{eq_lifted, lifted_darts, number_in, target, lift}
use Rattle.paper.specs.Table.{lifted_capacity}
use Rattle.paper.specs.Run.{run}
use Rattle.paper.specs.Call.{check}
use Rattle.paper.specs.Print.{Line, lines, liftrun, text}
use Rattle.paper.specs.Print as print
use Rattle.paper.specs.Example.{LinkRow, PieceRow, plan_of, Example, prints, writes, lifts, leaves_row, carries, has_room, checks, Each, CellsAre, LinkIs, PiecesAre, states, eq_line, every, cells_are, link_is, pieces_are, right, passes}
use Rattle.paper.specs.Examples.{e1, e1_lines, e1_text, edge, two_edges, e7, stretches, full_row, full_row_lines, bare, lone, edge_of, twist, rows}
use Rattle.paper.proofs.Same.{both, same-list, same_row, same-lifted}

-- every row passes the test
pub examples : T (passes rows)
unfolding passes rows e1 e1_lines e1_text edge two_edges e7 stretches full_row full_row_lines bare lone edge_of twist
examples = tt

-- what passes the test of an example is so
every-each : {A : Type 0} (p : A → Bool) (P : A → Type 0) → ((x : A) → T (p x) → P x) → (l : List A) → T (every p l) → Each P l
unfolding every
every-each p P f [] t = tt
every-each p P f (x ∷ l) t = let h = both (p x) (every p l) t in (f x h.0, every-each p P f l h.1)

same_line : (x y : Line) → T (eq_line x y) → x ≡ y
same_line print.long print.long t = refl
same_line print.long (print.reply n v) t = absurd t
same_line print.long (print.end n u a r) t = absurd t
same_line (print.reply n v) print.long t = absurd t
same_line (print.reply n v) (print.reply k w) t =
    let h = both (eqb n k) (eqb v w) t in
    λ i. print.reply (eqb→eq n k h.0 i) (eqb→eq v w h.1 i)
same_line (print.reply n v) (print.end k u a r) t = absurd t
same_line (print.end n u a r) print.long t = absurd t
same_line (print.end n u a r) (print.reply k w) t = absurd t
same_line (print.end n u a r) (print.end k v b s) t =
    let h = both (eqb n k) (eqb u v && (eqb a b && eqb r s)) t in
    let g = both (eqb u v) (eqb a b && eqb r s) h.1 in
    let f = both (eqb a b) (eqb r s) g.1 in
    λ i. print.end (eqb→eq n k h.0 i) (eqb→eq u v g.0 i) (eqb→eq a b f.0 i) (eqb→eq r s f.1 i)

cells-are : (M : Map) (i : ℕ) (l : List ℕ) → T (cells_are M i l) → CellsAre M i l
unfolding cells_are
cells-are M i [] t = tt
cells-are M i (c ∷ l) t = let h = both (eqb (cells M i) c) (cells_are M (suc i) l) t in (eqb→eq (cells M i) c h.0, cells-are M (suc i) l h.1)

four : (a b c d : Bool) → T (a && (b && (c && d))) → T a × (T b × (T c × T d))
four a b c d t =
    let h = both a (b && (c && d)) t in
    let g = both b (c && d) h.1 in
    (h.0, (g.0, both c d g.1))

link-is : (P : Map) (l : LinkRow) → T (link_is P l) → LinkIs P l
unfolding link_is
link-is P l t =
    let all = lifted_darts P in
    let x = number_in all l.x in
    let y = number_in all l.y in
    let h = four (ltb x (length all)) (ltb y (length all)) (eq_lifted (target P l.i l.x) l.y) (eqb (link (lift P) l.i x) y) t in
    (ltb→lt x (length all) h.0, (ltb→lt y (length all) h.1.0, (same-lifted (target P l.i l.x) l.y h.1.1.0, eqb→eq (link (lift P) l.i x) y h.1.1.1)))

pieces-are : (P : Map) (c : PieceRow) → T (pieces_are P c) → PiecesAre P c
pieces-are P c t = eqb→eq (length (pieces P c.k c.d)) c.pieces t

right-states : (e : Example) → T (right e) → states e
unfolding right
right-states (prints bytes plan lifted reply l) t = same-list eq_line same_line (lines (run bytes plan lifted reply)) l t
right-states (writes bytes l) t = same-list eqb eqb→eq (text (liftrun bytes)) l t
right-states (lifts bytes n cs ls ps) t =
    let P = plan_of bytes in
    let h = four (eqb (length (lifted_darts P)) n) (cells_are (lift P) 0 cs) (every (link_is P) ls) (every (pieces_are P) ps) t in (
      eqb→eq (length (lifted_darts P)) n h.0,
      (cells-are (lift P) 0 cs h.1.0, (every-each (link_is P) (LinkIs P) (link-is P) ls h.1.1.0, every-each (pieces_are P) (PiecesAre P) (pieces-are P) ps h.1.1.1)),
    )
right-states (leaves_row bytes d r) t = same_row (owned (plan_of bytes) d) r t
right-states (carries bytes l) t = same-list eqb eqb→eq (run bytes plan_room lifted_room reply_room).objects l t
right-states (has_room l n) t = eqb→eq (lifted_capacity l) n t
right-states (checks tables m n x v) t =
    let a = check tables m n in
    let h = both (eqb a.number x) (eqb a.value v) t in
    λ i. record { number = eqb→eq a.number x h.0 i; value = eqb→eq a.value v h.1 i }

each_right : (l : List Example) → T (every right l) → (e : Example) → Memᴰ e l → states e
unfolding every
each_right [] t e h = absurd (Memᴰ.not-nil h)
each_right (x ∷ l) t e h =
    let p = both (right x) (every right l) t in
    ⊎_elim (λ q. subst states (sym q) (right-states x p.0)) (each_right l p.1 e) (Memᴰ.cases_cons h)

all_right : (l : List Example) → T (passes l) → T (every right l)
unfolding passes
all_right l t = t

-- each row of the list: what it says is so
pub examples-hold : (e : Example) → Memᴰ e rows → states e
examples-hold e h = each_right rows (all_right rows examples) e h
