-- The room that lines take.
--     byte_room, word_room, size_room     the most digits of numbers of one byte, two and eight
--     reply-room, end-room                the line of a reply, and of a run's four numbers
use Rattle.std.proofs.Common.{ℕ, ◌^◌, ◌<◌, ◌≤◌, List, [], ◌∷◌, ◌++◌, length, arith, length-append}
use Rattle.paper.specs.Width.{byte_limit, word_limit}
use Rattle.paper.specs.Print.{decimal, spaced, reply, end, line_text}
use Rattle.print.specs.Lines.{end_word, byte_digits, word_digits, size_digits, reply_line, end_line}
use Rattle.print.proofs.Digits.{decimal-room}

pub byte_room : (x : ℕ) → x < byte_limit → length (decimal x) ≤ byte_digits
byte_room x h = decimal-room 2 x (omega arith)

pub word_room : (x : ℕ) → x < word_limit → length (decimal x) ≤ word_digits
word_room x h = decimal-room 4 x (omega arith)

pub size_room : (x : ℕ) → x < 2 ^ 64 → length (decimal x) ≤ size_digits
size_room x h = decimal-room 19 x (omega arith)

pub reply-room : (n v : ℕ) → n < byte_limit → v < word_limit → length (line_text (reply n v)) ≤ reply_line
unfolding line_text
reply-room n v h k =
    let a = byte_room n h in
    let b = word_room v k in
    let e = length-append (decimal n) (spaced v) in
    let f = length-append (decimal n ++ spaced v) (10 ∷ []) in
    omega arith

-- the line of a run's four numbers but for its newline
abbrev told : ℕ → ℕ → ℕ → ℕ → List ℕ
told n t a r = end_word ++ spaced n ++ spaced t ++ spaced a ++ spaced r

module _ (n t a r : ℕ) (hn : n < byte_limit) (ht : t < 2 ^ 64) (ha : a < 2 ^ 64) (hr : r < 2 ^ 64) where
  told-room : length (told n t a r) < end_line
  told-room =
      let e = byte_room n hn in
      let f = size_room t ht in
      let g = size_room a ha in
      let h = size_room r hr in
      let x = length-append end_word (spaced n) in
      let y = length-append (end_word ++ spaced n) (spaced t) in
      let z = length-append (end_word ++ spaced n ++ spaced t) (spaced a) in
      let w = length-append (end_word ++ spaced n ++ spaced t ++ spaced a) (spaced r) in
      omega arith

  pub end-room : length (line_text (end n t a r)) ≤ end_line
  unfolding line_text
  end-room = let h = told-room in let e = length-append (told n t a r) (10 ∷ []) in omega arith
