-- Texts written to memory, line by line.
--     text-more, replies-more  the text of one line more, and of one reply more
--     reply-lays, end-lays     the line of a reply, and of a run's four numbers, told by numbers that are equal to theirs
--     none-lays, more-lays     the lines of no reply, and of one more
--     lines-lays       the lines of the replies, then `end`
--     long-lays        the line `long`
use Rattle.std.proofs.Common.{◌≡◌, ℕ, ◌+◌, List, [], ◌∷◌, ◌++◌, length, sym, refl, ap, ◌∙◌, subst, append_assoc, append-nil, add-one, arith}
use Rattle.paper.specs.Below.{join_of, list_onto, onto}
use Rattle.paper.specs.Print.{Line, long, reply, end, decimal, spaced, line_text, text}
use Rattle.paper.specs.declared.Ended.{Ended}
use Rattle.theory.proofs.Below.{list-more}
use Rattle.print.specs.Laid.{Lays}
use Rattle.print.specs.Lines.{reply_at, replies_of, lines_of, end_word}
use Rattle.print.proofs.Laid.{laid_none, lays_more, lays-onto}

join-append : {A B : Type 0} (l m : List A) (f : A → List B) → join_of (l ++ m) f ≡ join_of l f ++ join_of m f
unfolding join_of
join-append [] m f = refl
join-append (x ∷ l) m f = ap (λ t. f x ++ t) (join-append l m f) ∙ sym (append_assoc (f x) (join_of l f) (join_of m f))

-- a text goes on by a line's
pub text-more : (l : List Line) (x : Line) → text (l ++ (x ∷ [])) ≡ text l ++ line_text x
unfolding text join_of
text-more l x = join-append l (x ∷ []) line_text ∙ ap (λ t. join_of l line_text ++ t) (append-nil (line_text x))

pub replies-more : (m : List ℕ) (k : ℕ) → text (replies_of m (k + 1)) ≡ text (replies_of m k) ++ line_text (reply_at m k)
replies-more m k = ap (λ n. text (replies_of m n)) (add-one k) ∙ ap text (list-more k (reply_at m)) ∙ text-more (replies_of m k) (reply_at m k)

module _ {p : ℕ} {x : List ℕ} {q : ℕ} {y : List ℕ} where
  pub reply-lays : (m k n v : ℕ) → m ≡ n → k ≡ v → Lays p (decimal m ++ spaced k ++ (10 ∷ [])) x q y → Lays p (line_text (reply n v)) x q y
  unfolding line_text
  reply-lays m k n v e f a = subst (λ l. Lays p l x q y) (λ i. decimal (e i) ++ spaced (f i) ++ (10 ∷ [])) a

  pub end-lays : (m n t a r : ℕ) → m ≡ n → Lays p (end_word ++ spaced m ++ spaced t ++ spaced a ++ spaced r ++ (10 ∷ [])) x q y
      → Lays p (line_text (end n t a r)) x q y
  unfolding line_text
  end-lays m n t a r e w = subst (λ k. Lays p (end_word ++ spaced k ++ spaced t ++ spaced a ++ spaced r ++ (10 ∷ [])) x q y) e w

pub none-lays : (m x : List ℕ) {q : ℕ} → q ≡ 0 → Lays 0 (text (replies_of m 0)) x q x
unfolding text join_of list_onto
none-lays m x e = record { room = omega arith; place = e; memory = laid_none 0 x }

module _ {x : List ℕ} {q : ℕ} {y : List ℕ} where
  pub more-lays : (m : List ℕ) (k : ℕ) {r : ℕ} {z : List ℕ} → Lays 0 (text (replies_of m k)) x q y → Lays q (line_text (reply_at m k)) y r z
      → Lays 0 (text (replies_of m (k + 1))) x r z
  more-lays m k {r} {z} a b = subst (λ l. Lays 0 l x r z) (sym (replies-more m k)) (lays_more a b)

  pub lines-lays : (m : List ℕ) (e : Ended) {r : ℕ} {z : List ℕ} → Lays 0 (text (replies_of m e.taken)) x q y
      → Lays q (line_text (end e.number e.taken e.accepted e.refused)) y r z
      → (r ≡ length (text (lines_of m e))) × (z ≡ onto (text (lines_of m e)) x)
  unfolding lines_of
  lines-lays m e {r} {z} a b =
      lays-onto (subst (λ l. Lays 0 l x r z) (sym (text-more (replies_of m e.taken) (end e.number e.taken e.accepted e.refused))) (lays_more a b))

  pub long-lays : Lays 0 (108 ∷ 111 ∷ 110 ∷ 103 ∷ 10 ∷ []) x q y → (q ≡ length (text (long ∷ []))) × (y ≡ onto (text (long ∷ [])) x)
  unfolding text join_of line_text
  long-lays a = lays-onto a
