-- The reply memory, reply by reply.
--     reply-length     it stays as long as it was
--     reply-more       one more reply, written behind the others
use Rattle.std.proofs.Common.{◌≡◌, ℕ, suc, ◌+◌, ◌*◌, ◌/◌, ◌%◌, ◌≤◌, List, [], ◌∷◌, ◌++◌, length, set, sym, refl, ap, ◌∙◌, append_assoc, arith, length-append}
use Rattle.paper.specs.Width.{reply_width, byte_limit}
use Rattle.paper.specs.Below.{onto}
use Rattle.paper.specs.Run.{reply_bytes, reply_memory}
use Rattle.paper.specs.declared.Answer.{Answer}
use Rattle.paper.proofs.Onto.{onto-length, onto-more}
use Rattle.theory.proofs.Run.{reply-bytes}
use Rattle.progress.specs.Reply.{replied}

pub reply-length : (l : List Answer) (before : List ℕ) → reply_width * length l ≤ length before → length (reply_memory l before) ≡ length before
unfolding reply_memory
reply-length l before h = onto-length (reply_bytes l) before (let c = reply-bytes l in omega arith)

-- three numbers behind those that are written
write-three : (l m : List ℕ) (a b c k : ℕ) → length l ≡ k → k + 3 ≤ length m
    → set (set (set (onto l m) k a) (k + 1) b) (k + 2) c ≡ onto (l ++ (a ∷ (b ∷ (c ∷ [])))) m
write-three l m a b c k e h =
    let l₁ = l ++ (a ∷ []) in
    let l₂ = l₁ ++ (b ∷ []) in
    let e₁ : length l₁ ≡ k + 1 = let n = length-append l (a ∷ []) in omega arith in
    let e₂ : length l₂ ≡ k + 2 = let n = length-append l₁ (b ∷ []) in omega arith in
    ap (λ x. set (set x (k + 1) b) (k + 2) c) (onto-more l m a k e (omega arith))
    ∙ ap (λ x. set x (k + 2) c) (onto-more l₁ m b (k + 1) e₁ (omega arith))
    ∙ onto-more l₂ m c (k + 2) e₂ (omega arith)
    ∙ ap (λ x. onto x m) (append_assoc l₁ (b ∷ []) (c ∷ []) ∙ append_assoc l (a ∷ []) (b ∷ (c ∷ [])))

bytes-more : (l : List Answer) (a : Answer)
    → reply_bytes (l ++ (a ∷ [])) ≡ reply_bytes l ++ (a.number ∷ (a.value / byte_limit ∷ (a.value % byte_limit ∷ [])))
unfolding reply_bytes
bytes-more [] a = refl
bytes-more (x ∷ l) a = ap (λ r. x.number ∷ (x.value / byte_limit ∷ (x.value % byte_limit ∷ r))) (bytes-more l a)

pub reply-more : (l : List Answer) (a : Answer) (before : List ℕ) → reply_width * suc (length l) ≤ length before
    → replied (reply_memory l before) (reply_width * length l) a ≡ reply_memory (l ++ (a ∷ [])) before
unfolding replied reply_memory
reply-more l a before h =
    write-three (reply_bytes l) before a.number (a.value / byte_limit) (a.value % byte_limit) (reply_width * length l) (reply-bytes l) (omega arith)
    ∙ ap (λ x. onto x before) (sym (bytes-more l a))
