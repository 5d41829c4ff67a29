-- What `liftrun` prints.
--     Line             a line of its output
--     lines            an outcome as lines: its replies, and `end` with what the run came to
--     liftrun          the lines for an input: `long` only, where it has more than 2,048 bytes
--     decimal          a number in decimal digits
--     text             lines as bytes, a newline after each
use Rattle.std.specs.Prelude.{ℕ, zero, suc, ◌+◌, ◌/◌, ◌%◌, true, false, List, [], ◌∷◌, ◌++◌, map, length, nat_lt}
use Rattle.paper.specs.Width.{input_limit, plan_room, lifted_room, reply_room}
use Rattle.paper.specs.Run.{Outcome, run}
use Rattle.paper.specs.Below.{join_of}

pub data Line : Type 0 where
  long : Line
  reply : ℕ → ℕ → Line
  end : ℕ → ℕ → ℕ → ℕ → Line

unfoldable pub lines : Outcome → List Line
lines o =
    let e = o.ended in
    map (λ a. reply a.number a.value) o.replies ++ (end e.number e.taken e.accepted e.refused ∷ [])

unfoldable pub liftrun : List ℕ → List Line
liftrun bytes = elim (nat_lt input_limit (length bytes)) [ true ↦ long ∷ [] | false ↦ lines (run bytes plan_room lifted_room reply_room) ]

-- at most c + 1 digits
unfoldable pub digits : ℕ → ℕ → List ℕ
digits zero x = (48 + x) ∷ []
digits (suc c) x = elim (nat_lt x 10) [ true ↦ (48 + x) ∷ [] | false ↦ digits c (x / 10) ++ ((48 + x % 10) ∷ []) ]

abbrev pub decimal : ℕ → List ℕ
decimal x = digits x x

-- a blank and a number
abbrev pub spaced : ℕ → List ℕ
spaced x = 32 ∷ decimal x

unfoldable pub line_text : Line → List ℕ
line_text long = 108 ∷ 111 ∷ 110 ∷ 103 ∷ 10 ∷ []
line_text (reply n v) = decimal n ++ spaced v ++ (10 ∷ [])
line_text (end n t a r) = (101 ∷ 110 ∷ 100 ∷ []) ++ spaced n ++ spaced t ++ spaced a ++ spaced r ++ (10 ∷ [])

unfoldable pub text : List Line → List ℕ
text l = join_of l line_text
