-- What is printed from the memory that a run leaves.
--     replies-of       the replies that stand in the reply memory
--     lines-of         the lines for what an outcome leaves there are the outcome's lines
--     run-printed      the text for what a run leaves is that of the run on paper
--     replies-there    its replies are all in the reply memory
--     text-room        where the memory has bytes and the numbers are of their widths, that text has room
use Rattle.std.proofs.Common.{◌≡◌, ℕ, zero, suc, ◌+◌, ◌*◌, ◌/◌, ◌%◌, ◌^◌, ◌<◌, ◌≤◌, List, [], ◌∷◌, ◌++◌, map, length, get_or, drop, sym, refl, ap, ◌∙◌, div-add-mod', add-one, arith, length-append}
use Rattle.paper.specs.Width.{reply_width, byte_limit}
use Rattle.paper.specs.Below.{list_onto, join_of, onto}
use Rattle.paper.specs.Table.{plan_capacity, lifted_capacity}
use Rattle.paper.specs.Command.{byte, word}
use Rattle.paper.specs.Run.{Outcome, Lent, reply_bytes, reply_memory, run, run_in, left}
use Rattle.paper.specs.Print.{reply, end, line_text, text, lines}
use Rattle.paper.specs.declared.Answer.{Answer}
use Rattle.paper.specs.declared.Ended.{Ended}
use Rattle.theory.proofs.Run.{reply-bytes}
use Rattle.theory.proofs.Found.{found}
use Rattle.print.specs.Lines.{reply_at, replies_of, lines_of, reply_line, room_for}
use Rattle.print.proofs.Room.{reply-room, end-room}
use Rattle.print.proofs.Lines.{text-more, replies-more}

-- the first of the values, then the rest
list-first : {A : Type 0} (n : ℕ) (f : ℕ → A) (l : List A) → list_onto (suc n) f l ≡ f 0 ∷ list_onto n (λ k. f (suc k)) l
unfolding list_onto
list-first zero f l = refl
list-first (suc n) f l = list-first n f (f (suc n) ∷ l)

-- past the first reply
later : (a b c : ℕ) (m : List ℕ) (k : ℕ) → reply_at (a ∷ b ∷ c ∷ m) (suc k) ≡ reply_at m k
later a b c m k =
    let l = a ∷ b ∷ c ∷ m in
    let p : reply_width * suc k ≡ suc (suc (suc (reply_width * k))) = omega arith in
    let q : reply_width * suc k + 1 ≡ suc (suc (suc (reply_width * k + 1))) = omega arith in
    let r : reply_width * suc k + 1 + 1 ≡ suc (suc (suc (reply_width * k + 1 + 1))) = omega arith in
    λ i. reply (get_or l (p i) 0) (get_or l (q i) 0 * byte_limit + get_or l (r i) 0)

pub replies-of : (l : List Answer) (m : List ℕ) → replies_of (reply_bytes l ++ m) (length l) ≡ map (λ a. reply a.number a.value) l
unfolding reply_bytes list_onto
replies-of [] m = refl
replies-of (a ∷ l) m =
    let n = a.number in
    let high = a.value / byte_limit in
    let low = a.value % byte_limit in
    let rest = reply_bytes l ++ m in
    list-first (length l) (reply_at (n ∷ high ∷ low ∷ rest)) []
    ∙ (λ i. reply n (div-add-mod' a.value byte_limit i) ∷ list_onto (length l) (λ k. later n high low rest k i) [])
    ∙ ap (λ t. reply n a.value ∷ t) (replies-of l m)

pub lines-of : (o : Outcome) (before : List ℕ) → o.ended.taken ≡ length o.replies → lines_of (reply_memory o.replies before) o.ended ≡ lines o
unfolding lines_of lines reply_memory
lines-of o before h =
    let e = o.ended in
    let m = onto (reply_bytes o.replies) before in
    ap (λ l. l ++ (end e.number e.taken e.accepted e.refused ∷ []))
    (ap (replies_of m) h ∙ replies-of o.replies (drop (length (reply_bytes o.replies)) before))

module _ (bytes : List ℕ) (L : Lent) where
  abbrev outcome : Outcome
  outcome = run bytes (plan_capacity L.plan) (lifted_capacity L.lifted) (length L.memory)

  all-taken : outcome.ended.taken ≡ length outcome.replies
  all-taken =
      let h = (found bytes (plan_capacity L.plan) (lifted_capacity L.lifted) (length L.memory)).replies_bytes in
      let k = reply-bytes outcome.replies in
      omega arith

  pub run-printed : text (lines_of (left bytes L).memory (left bytes L).ended) ≡ text (lines (run_in bytes L))
  unfolding left run_in
  run-printed = ap text (lines-of outcome L.memory all-taken)

  pub replies-there : reply_width * (left bytes L).ended.taken ≤ length L.memory
  unfolding left run_in
  replies-there = (found bytes (plan_capacity L.plan) (lifted_capacity L.lifted) (length L.memory)).replies_fit

no-replies : (m : List ℕ) → text (replies_of m 0) ≡ []
unfolding text join_of list_onto
no-replies m = refl

module _ (m : List ℕ) (small : (i : ℕ) → byte m i < byte_limit) where
  replies-room : (k : ℕ) → length (text (replies_of m k)) ≤ reply_line * k
  replies-room zero = let e = ap length (no-replies m) in omega arith
  replies-room (suc k) =
      let h = small (reply_width * k + 1) in
      let l = small (reply_width * k + 1 + 1) in
      let a = reply-room (byte m (reply_width * k)) (word m (reply_width * k + 1)) (small (reply_width * k)) (omega arith) in
      let b = replies-room k in
      let c : length (text (replies_of m (suc k))) ≡ length (text (replies_of m k)) + length (line_text (reply_at m k)) = ap (λ n. length (text (replies_of m n))) (sym (add-one k)) ∙ ap length (replies-more m k) ∙ length-append (text (replies_of m k)) (line_text (reply_at m k)) in
      omega arith

  pub text-room : (e : Ended) → e.number < byte_limit → e.taken < 2 ^ 64 → e.accepted < 2 ^ 64 → e.refused < 2 ^ 64
      → length (text (lines_of m e)) ≤ room_for e.taken
  unfolding lines_of
  text-room e hn ht ha hr =
      let last = end e.number e.taken e.accepted e.refused in
      let a = end-room e.number e.taken e.accepted e.refused hn ht ha hr in
      let b = replies-room e.taken in
      let c = ap length (text-more (replies_of m e.taken) last) ∙ length-append (text (replies_of m e.taken)) (line_text last) in
      omega arith
