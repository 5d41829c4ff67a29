-- Document 01's examples E1 to E12, E7 as document 02 has it, as rows of one list, and some rows of our own for what no example shows.
-- Bytes are written by the commands that they stand for. Where the document gives none: places stay 0, and the room is that of `liftrun`.
use Rattle.std.specs.Prelude.{ℕ, ◌+◌, ◌-◌, ◌*◌, true, false, List, [], ◌∷◌, ◌++◌, length, replicate, ℤ, pos, negsuc}
use Rattle.paper.specs.Width.{link_width, place_width, per_span, span_width, object_width, work_width, input_limit, plan_room, lifted_room, reply_room}
use Rattle.paper.specs.Below.{join_below}
use Rattle.paper.specs.Map.{Owned}
use Rattle.paper.specs.Table.{Tables}
use Rattle.paper.specs.Lift.{at}
use Rattle.paper.specs.Step.{owned_span}
use Rattle.paper.specs.Print.{Line, reply, end}
use Rattle.paper.specs.Example.{Example, prints, writes, lifts, leaves_row, carries, has_room, checks}

-- the commands as bytes, with operands below 256
abbrev pub new : ℕ → List ℕ
new m = 0x10 ∷ m ∷ []

abbrev pub dart : List ℕ
dart = 0x11 ∷ []

abbrev pub sew : ℕ → ℕ → ℕ → List ℕ
sew i a b = 0x12 ∷ i ∷ 0 ∷ a ∷ 0 ∷ b ∷ []

abbrev pub unsew : ℕ → ℕ → List ℕ
unsew i a = 0x13 ∷ i ∷ 0 ∷ a ∷ []

abbrev pub span : ℕ → ℕ → ℕ → List ℕ
span d lo hi = 0x15 ∷ 0 ∷ d ∷ 0 ∷ 0 ∷ 0 ∷ lo ∷ 0 ∷ 0 ∷ 0 ∷ hi ∷ []

abbrev pub span_of : ℕ → ℕ → ℕ → ℕ → List ℕ
span_of d lo hi object = 0x1A ∷ 0 ∷ d ∷ 0 ∷ 0 ∷ 0 ∷ lo ∷ 0 ∷ 0 ∷ 0 ∷ hi ∷ 0 ∷ object ∷ []

abbrev pub lift : List ℕ
lift = 0x17 ∷ []

abbrev pub adopt : List ℕ
adopt = 0x18 ∷ []

abbrev pub count : ℕ → ℕ → List ℕ
count side i = 0x19 ∷ side ∷ i ∷ []

-- a run in the room of `liftrun`
abbrev pub says : List ℕ → List Line → Example
says bytes l = prints bytes plan_room lifted_room reply_room l

-- E1's bytes, as document 01 has them
unfoldable pub e1 : List ℕ
e1 = 0x10 ∷ 0x01 ∷ 0x11 ∷ 0x11
    ∷ 0x12 ∷ 0x00 ∷ 0x00 ∷ 0x00 ∷ 0x00 ∷ 0x01
    ∷ 0x14 ∷ 0x00 ∷ 0x01 ∷ 0x00 ∷ 0x00 ∷ 0x00 ∷ 0x00 ∷ 0x04
    ∷ 0x15 ∷ 0x00 ∷ 0x00 ∷ 0x00 ∷ 0x00 ∷ 0x00 ∷ 0x00 ∷ 0x00 ∷ 0x00 ∷ 0x00 ∷ 0x03
    ∷ 0x17 ∷ 0x19 ∷ 0x01 ∷ 0x00 ∷ []

unfoldable pub e1_lines : List Line
e1_lines = reply 0 0 ∷ reply 0 0 ∷ reply 0 1 ∷ reply 0 2 ∷ reply 0 1 ∷ reply 0 2 ∷ reply 0 8 ∷ reply 0 4 ∷ end 0 8 8 0 ∷ []

-- the same as printed: a line each, in ASCII
unfoldable pub e1_text : List ℕ
e1_text = 48 ∷ 32 ∷ 48 ∷ 10
    ∷ 48 ∷ 32 ∷ 48 ∷ 10
    ∷ 48 ∷ 32 ∷ 49 ∷ 10
    ∷ 48 ∷ 32 ∷ 50 ∷ 10
    ∷ 48 ∷ 32 ∷ 49 ∷ 10
    ∷ 48 ∷ 32 ∷ 50 ∷ 10
    ∷ 48 ∷ 32 ∷ 56 ∷ 10
    ∷ 48 ∷ 32 ∷ 52 ∷ 10
    ∷ 101 ∷ 110 ∷ 100 ∷ 32 ∷ 48 ∷ 32 ∷ 56 ∷ 32 ∷ 56 ∷ 32 ∷ 48 ∷ 10 ∷ []

-- an edge, two darts linked along 0; two edges joined at a corner, the darts 1 and 2, with a span each
unfoldable pub edge : List ℕ
edge = new 1 ++ dart ++ dart ++ sew 0 0 1

unfoldable pub two_edges : ℕ → ℕ → ℕ → ℕ → List ℕ
two_edges a b c d = new 1 ++ dart ++ dart ++ dart ++ dart ++ sew 0 0 1 ++ sew 0 2 3 ++ sew 1 1 2 ++ span 0 a b ++ span 2 c d

-- a plan of one dart: E7's spans, and three spans apart of object 7
unfoldable pub e7 : List ℕ
e7 = new 1 ++ dart ++ span 0 0 3 ++ span 0 3 5 ++ span 0 2 5

unfoldable pub stretches : List ℕ
stretches = new 1 ++ dart ++ span_of 0 0 2 7 ++ span_of 0 4 6 7 ++ span_of 0 8 10 7

abbrev pub stretch : ℕ → ℕ → ℕ → Owned
stretch lo hi object = owned_span (pos lo) (pos hi) object

-- as many spans as E8 says that a row holds; the document's own number, so that another limit fails here
abbrev eight : ℕ
eight = 8

-- a dart whose row holds so many, 0..1, 2..3 and so on; and the replies to these commands
unfoldable pub full_row : List ℕ
full_row = new 1 ++ dart ++ join_below eight (λ q. span 0 (2 * q) (2 * q + 1))

unfoldable pub full_row_lines : List Line
full_row_lines = reply 0 0 ∷ reply 0 0 ∷ replicate eight (reply 0 1)

-- tables of darts with these links, all places 0 and no spans
unfoldable pub bare : ℕ → List ℕ → Tables
bare n links = record {
  links = links;
  places = replicate (n * place_width) (pos 0);
  spans = replicate (n * span_width) (pos 0);
  work = n * work_width;
}

-- one dart, linked to itself, whose row begins with these numbers; the rest is 0
unfoldable pub lone : List ℤ → Tables
lone row = record {
  links = replicate link_width 0;
  places = replicate place_width (pos 0);
  spans = row ++ replicate (span_width - length row) (pos 0);
  work = work_width;
}

-- an edge whose darts have a span 0..3 each, of objects a and b; an unused number of their rows, where a next span would have its object, is z
unfoldable pub edge_of : ℤ → ℤ → ℤ → Tables
edge_of a b z =
    let row : ℤ → List ℤ = λ x. pos 1 ∷ pos 0 ∷ pos 3 ∷ x ∷ pos 0 ∷ pos 0 ∷ z ∷ replicate (span_width - (1 + 2 * per_span)) (pos 0) in
    record {
      links = 1 ∷ 0 ∷ 0 ∷ 0 ∷ 0 ∷ 0 ∷ 0 ∷ 1 ∷ 1 ∷ 1 ∷ 1 ∷ 1 ∷ [];
      places = replicate (2 * place_width) (pos 0);
      spans = row a ++ row b;
      work = 2 * work_width;
    }

-- four darts, so twisted that the darts reached from 0 by axes 2 and 3 hold their own partners along 0
unfoldable pub twist : List ℕ
twist = new 3 ++ dart ++ dart ++ dart ++ dart ++ sew 0 0 1 ++ sew 0 2 3 ++ sew 2 0 2 ++ sew 3 0 3 ++ unsew 0 0

unfoldable pub rows : List Example
rows =
    -- E1
    says e1 e1_lines
    ∷ writes e1 e1_text
    -- E2
    ∷ lifts (two_edges 0 3 1 5) 20 []
    (record { i = 2; x = at 1 0 (pos 1) true; y = at 2 0 (pos 1) true } ∷ record { i = 2; x = at 1 0 (pos 1) false; y = at 1 0 (pos 1) false } ∷ [])
    (record { k = 0; d = 1; pieces = 3 } ∷ [])
    -- E3
    ∷ lifts (edge ++ span 0 0 2 ++ span 0 2 5) 16 (6 ∷ 7 ∷ 2 ∷ []) [] []
    -- E4
    ∷ lifts (two_edges 0 1 1 2) 16 (8 ∷ []) [] []
    -- E5
    ∷ says (new 1 ++ dart ++ sew 0 0 0) (reply 0 0 ∷ reply 0 0 ∷ reply 15 0 ∷ end 0 3 2 1 ∷ [])
    -- E6
    ∷ says (new 1 ++ dart ++ span 0 3 3 ++ span 0 3 4) (reply 0 0 ∷ reply 0 0 ∷ reply 5 0 ∷ reply 0 1 ∷ end 0 4 3 1 ∷ [])
    -- E7 by document 02, in a plan of one dart: the last span overlaps both, and leaves one
    ∷ says e7 (reply 0 0 ∷ reply 0 0 ∷ reply 0 1 ∷ reply 0 1 ∷ reply 0 1 ∷ end 0 5 5 0 ∷ [])
    ∷ leaves_row e7 0 (stretch 0 5 0 ∷ [])
    -- E8: as many separate spans as a row holds, and one more
    ∷ says (full_row ++ span 0 (2 * eight) (2 * eight + 1)) (full_row_lines ++ (reply 19 0 ∷ end 0 (eight + 3) (eight + 2) 1 ∷ []))
    -- E9, at capacity 8 and at 7
    ∷ prints e1 plan_room 8 reply_room e1_lines
    ∷ prints e1 plan_room 7 reply_room
    (reply 0 0 ∷ reply 0 0 ∷ reply 0 1 ∷ reply 0 2 ∷ reply 0 1 ∷ reply 0 2 ∷ reply 20 0 ∷ reply 21 0 ∷ end 0 8 6 2 ∷ [])
    -- E10
    ∷ checks (bare 2 (1 ∷ 0 ∷ 0 ∷ 0 ∷ 0 ∷ 0 ∷ 1 ∷ 1 ∷ 1 ∷ 1 ∷ 1 ∷ 1 ∷ [])) 1 2 7 0
    -- E11
    ∷ checks (bare 3 (1 ∷ 0 ∷ 0 ∷ 0 ∷ 0 ∷ 0 ∷ 0 ∷ 1 ∷ 2 ∷ 1 ∷ 1 ∷ 1 ∷ 2 ∷ 2 ∷ 1 ∷ 2 ∷ 2 ∷ 2 ∷ [])) 2 3 8 0
    -- E12, an edge without spans and a plan without darts
    ∷ says (edge ++ lift) (reply 0 0 ∷ reply 0 0 ∷ reply 0 1 ∷ reply 0 2 ∷ reply 0 0 ∷ end 0 5 5 0 ∷ [])
    ∷ says (new 1 ++ lift) (reply 0 0 ∷ reply 0 0 ∷ end 0 2 2 0 ∷ [])
    -- E3 with objects 7 and 9: the lifted darts carry that of the span on their side
    ∷ lifts (edge ++ span_of 0 0 2 7 ++ span_of 0 2 5 9) 16 (6 ∷ 7 ∷ 2 ∷ []) [] []
    ∷ carries (edge ++ span_of 0 0 2 7 ++ span_of 0 2 5 9 ++ lift) (7 ∷ 7 ∷ 9 ∷ 9 ∷ 7 ∷ 7 ∷ 9 ∷ 9 ∷ 7 ∷ 7 ∷ 9 ∷ 9 ∷ 7 ∷ 7 ∷ 9 ∷ 9 ∷ [])
    -- SPAN is of object 0; a plan that was adopted has no object of the lift that it came from
    ∷ carries (new 1 ++ dart ++ span 0 0 3 ++ span_of 0 3 5 4 ++ lift) (0 ∷ 0 ∷ 4 ∷ 4 ∷ 0 ∷ 0 ∷ 4 ∷ 4 ∷ [])
    ∷ carries (new 1 ++ dart ++ span_of 0 0 3 4 ++ lift ++ adopt ++ lift) []
    ∷ carries (new 1 ++ dart ++ span_of 0 0 3 4 ++ lift ++ adopt ++ span 0 0 1 ++ lift) (replicate 24 0)
    -- edits leave them, ADOPT too, and so does a LIFT that is refused, here by 22
    ∷ carries (new 1 ++ dart ++ span_of 0 0 3 4 ++ lift ++ new 1 ++ dart ++ span_of 0 0 3 5) (4 ∷ 4 ∷ 4 ∷ 4 ∷ [])
    ∷ carries (new 1 ++ dart ++ span_of 0 0 3 4 ++ lift ++ adopt) (4 ∷ 4 ∷ 4 ∷ 4 ∷ [])
    ∷ carries (new 4 ++ dart ++ span_of 0 0 3 4 ++ lift ++ adopt ++ lift) (replicate 10 4)
    -- the objects' table counts for the lifted side's capacity as the others do
    ∷ has_room (record { links = 8 * link_width; places = 8 * place_width; objects = 8 * object_width; work = 8 * work_width }) 8
    ∷ has_room (record { links = 8 * link_width; places = 8 * place_width; objects = 7 * object_width; work = 8 * work_width }) 7
    -- SPAN of an object is refused by 12, 4, 5, 18 and 19 as SPAN is; cut short by a byte, too
    ∷ says (span_of 0 3 3 1 ++ new 1 ++ span_of 0 3 3 1 ++ dart ++ span_of 0 3 3 1 ++ span_of 0 0 3 1 ++ span_of 0 2 5 2)
    (reply 12 0 ∷ reply 0 0 ∷ reply 4 0 ∷ reply 0 0 ∷ reply 5 0 ∷ reply 0 1 ∷ reply 18 0 ∷ end 0 7 3 4 ∷ [])
    ∷ says (full_row ++ span_of 0 (2 * eight) (2 * eight + 1) 1) (full_row_lines ++ (reply 19 0 ∷ end 0 (eight + 3) (eight + 2) 1 ∷ []))
    ∷ says (0x1A ∷ replicate 11 0) (reply 2 0 ∷ end 2 1 0 1 ∷ [])
    -- rows that differ in an object only: 16 in SEW, 11 in the check
    ∷ says (new 1 ++ dart ++ dart ++ span_of 0 0 3 1 ++ span_of 1 0 3 2 ++ sew 0 0 1 ++ sew 1 0 1)
    (reply 0 0 ∷ reply 0 0 ∷ reply 0 1 ∷ reply 0 1 ∷ reply 0 1 ∷ reply 16 0 ∷ reply 0 2 ∷ end 0 7 6 1 ∷ [])
    ∷ checks (edge_of (pos 1) (pos 2) (pos 0)) 1 2 11 0
    -- an object is a number from 0 to 65535; one that is not used is not looked at
    ∷ checks (edge_of (pos 0) (pos 65536) (pos 0)) 1 2 10 1
    ∷ checks (edge_of (negsuc 0) (negsuc 0) (pos 0)) 1 2 10 0
    ∷ checks (edge_of (pos 65535) (pos 65535) (pos 65536)) 1 2 0 0
    ∷ checks (edge_of (pos 0) (pos 0) (negsuc 0)) 1 2 0 0
    -- an unknown dart is refused before an empty span, an overlap with another object before a full row
    ∷ says (new 1 ++ span 0 3 3) (reply 0 0 ∷ reply 4 0 ∷ end 0 2 1 1 ∷ [])
    ∷ says (full_row ++ span_of 0 0 2 1) (full_row_lines ++ (reply 18 0 ∷ end 0 (eight + 3) (eight + 2) 1 ∷ []))
    -- a span that overlaps three of its object joins them; one that touches two stays by itself between them
    ∷ leaves_row (stretches ++ span_of 0 1 9 7) 0 (stretch 0 10 7 ∷ [])
    ∷ leaves_row (stretches ++ span_of 0 2 4 7) 0 (stretch 0 2 7 ∷ stretch 2 4 7 ∷ stretch 4 6 7 ∷ stretch 8 10 7 ∷ [])
    -- what is joined touches its neighbours, and joining does not go on to them
    ∷ leaves_row (new 1 ++ dart ++ span 0 0 3 ++ span 0 3 5 ++ span 0 8 9 ++ span 0 4 8) 0 (stretch 0 3 0 ∷ stretch 3 8 0 ∷ stretch 8 9 0 ∷ [])
    -- a ninth span of the object is accepted where it overlaps, and refused where it touches
    ∷ says (full_row ++ span 0 0 2) (full_row_lines ++ (reply 0 1 ∷ end 0 (eight + 3) (eight + 3) 0 ∷ []))
    ∷ says (full_row ++ span 0 (2 * eight - 1) (2 * eight)) (full_row_lines ++ (reply 19 0 ∷ end 0 (eight + 3) (eight + 2) 1 ∷ []))
    -- the whole top cell has what was joined, here both darts of an edge
    ∷ says (edge ++ span 0 0 3 ++ span 1 2 5) (reply 0 0 ∷ reply 0 0 ∷ reply 0 1 ∷ reply 0 2 ∷ reply 0 2 ∷ reply 0 2 ∷ end 0 6 6 0 ∷ [])
    ∷ leaves_row (edge ++ span 0 0 3 ++ span 1 2 5) 0 (stretch 0 5 0 ∷ [])
    -- over a span of its own object and one of another: refused, and nothing is joined
    ∷ says (stretches ++ span_of 0 2 4 9 ++ span_of 0 1 3 7) (reply 0 0 ∷ reply 0 0 ∷ reply 0 1 ∷ reply 0 1 ∷ reply 0 1 ∷ reply 0 1 ∷ reply 18 0 ∷ end 0 7 6 1 ∷ [])
    ∷ leaves_row (stretches ++ span_of 0 2 4 9 ++ span_of 0 1 3 7) 0 (stretch 0 2 7 ∷ stretch 2 4 9 ∷ stretch 4 6 7 ∷ stretch 8 10 7 ∷ [])
    -- a span inside one of its object: accepted, and the row is as it was
    ∷ says (stretches ++ span_of 0 8 9 7) (reply 0 0 ∷ reply 0 0 ∷ reply 0 1 ∷ reply 0 1 ∷ reply 0 1 ∷ reply 0 1 ∷ end 0 6 6 0 ∷ [])
    ∷ leaves_row (stretches ++ span_of 0 8 9 7) 0 (stretch 0 2 7 ∷ stretch 4 6 7 ∷ stretch 8 10 7 ∷ [])
    -- the check joins nothing: spans of one object that overlap in a table are refused
    ∷ checks (lone (pos 2 ∷ pos 0 ∷ pos 3 ∷ pos 7 ∷ pos 2 ∷ pos 5 ∷ pos 7 ∷ [])) 1 1 10 0
    ∷ checks (lone (pos 2 ∷ pos 0 ∷ pos 3 ∷ pos 7 ∷ pos 3 ∷ pos 5 ∷ pos 7 ∷ [])) 1 1 0 0
    -- NEW takes a dimension from 1 to 4
    ∷ says (new 0 ++ new 1 ++ new 4 ++ new 5) (reply 3 0 ∷ reply 0 0 ∷ reply 0 0 ∷ reply 3 0 ∷ end 0 4 2 2 ∷ [])
    -- COUNT: side, then 12 or 21, then the axis
    ∷ says (count 2 9 ++ count 0 9 ++ count 1 9 ++ new 1 ++ count 0 9) (reply 3 0 ∷ reply 12 0 ∷ reply 21 0 ∷ reply 0 0 ∷ reply 3 0 ∷ end 0 5 1 4 ∷ [])
    -- a second lift is that of the plan as it stands then
    ∷ says (edge ++ span 0 0 3 ++ lift ++ span 0 3 5 ++ lift ++ count 1 0)
    (reply 0 0 ∷ reply 0 0 ∷ reply 0 1 ∷ reply 0 2 ∷ reply 0 2 ∷ reply 0 8 ∷ reply 0 2 ∷ reply 0 16 ∷ reply 0 6 ∷ end 0 9 9 0 ∷ [])
    -- a plan climbs to dimension 5 without a dart, and its lift is refused by 22
    ∷ says (new 4 ++ lift ++ adopt ++ lift) (reply 0 0 ∷ reply 0 0 ∷ reply 0 0 ∷ reply 22 0 ∷ end 0 4 3 1 ∷ [])
    -- a twist: UNSEW frees four darts, each counted once
    ∷ says twist (reply 0 0 ∷ reply 0 0 ∷ reply 0 1 ∷ reply 0 2 ∷ reply 0 3 ∷ reply 0 2 ∷ reply 0 2 ∷ reply 0 4 ∷ reply 0 4 ∷ reply 0 4 ∷ end 0 10 10 0 ∷ [])
    -- one byte more than `liftrun` takes; numbers of two digits
    ∷ writes (replicate (input_limit + 1) 0) (108 ∷ 111 ∷ 110 ∷ 103 ∷ 10 ∷ [])
    ∷ writes (count 0 0) (49 ∷ 50 ∷ 32 ∷ 48 ∷ 10 ∷ 101 ∷ 110 ∷ 100 ∷ 32 ∷ 48 ∷ 32 ∷ 49 ∷ 32 ∷ 48 ∷ 32 ∷ 49 ∷ 10 ∷ [])
    -- an unknown byte and operands cut short end the run; two reply bytes are too few; no byte ends it before that is seen
    ∷ says (0x77 ∷ 0x11 ∷ []) (reply 1 0 ∷ end 1 1 0 1 ∷ [])
    ∷ says (0x10 ∷ []) (reply 2 0 ∷ end 2 1 0 1 ∷ [])
    ∷ prints (new 1 ++ dart) plan_room lifted_room 5 (reply 0 0 ∷ end 23 1 1 0 ∷ [])
    ∷ prints [] plan_room lifted_room 0 (end 0 0 0 0 ∷ [])
    ∷ []
