-- The walk that writes: what memory holds while it goes.
--     Writing          the pieces passed are written, the rest of memory is as it was
--     write-start, write-more, write-end      the walk, turn by turn; write-none: where there is no end
--     Walked           the pieces passed are counted, and written where all of them have room
--     walk-start, walk-past, walk-piece       that walk, turn by turn
use Rattle.std.proofs.Common.{◌≡◌, ℕ, ◌+◌, ◌*◌, ◌≤◌, Bool, true, false, cond, List, [], ◌∷◌, ◌++◌, length, set, ℤ, sym, refl, ap, ◌∙◌, subst, append_assoc, append-nil, Some, None, arith, length-append, subst₂, add-zero, ltb, lt-ltb, ◌/◌}
use lib.Signed.{lt_z}
use Rattle.paper.specs.Below.{only, onto}
use Rattle.paper.specs.Map.{Span}
use Rattle.paper.specs.Span.{covered, ends_of}
use Rattle.paper.specs.Ends.{next}
use Rattle.paper.proofs.Onto.{onto-more}
use Rattle.theory.specs.Walk.{pieces_of, pieces_from}
use Rattle.theory.proofs.Piece.{ends-length}
use Rattle.theory.proofs.Walk.{walk_start, walk_more, walk_end}
use Rattle.theory.proofs.Stretch.{stretch}
use Rattle.pieces.specs.Listed.{next_above, NoneBelow}
use Rattle.pieces.proofs.Next.{is-next, no-next}
use Rattle.span.proofs.Row.{ends-append}
use Rattle.pieces.proofs.Count.{Counting, count-start, count-more, no-pieces}

-- memory before is m₀, now m
pub record Writing (r : List Span) (m₀ m : List ℤ) (t : ℤ) (c : ℕ) : Type 0 where
  pub counting : Counting r t c
  -- the pieces passed, c of them, with those to come
  pub passed : List Span
  pub many : length passed ≡ c
  pub split : passed ++ pieces_from r t ≡ pieces_of r
  -- they are written, and the rest is untouched
  pub held : m ≡ onto (ends_of passed) m₀

-- two numbers behind those that are written
write_two : (l m : List ℤ) (a b : ℤ) (k : ℕ) → length l ≡ k → k + 2 ≤ length m → set (set (onto l m) k a) (k + 1) b ≡ onto (l ++ (a ∷ (b ∷ []))) m
write_two l m a b k e h =
    ap (λ x. set x (k + 1) b) (onto-more l m a k e (omega arith))
    ∙ onto-more (l ++ (a ∷ [])) m b (k + 1) (length-append l (a ∷ []) ∙ ap (λ (n : ℕ). n + 1) e) (omega arith)
    ∙ ap (λ x. onto x m) (append_assoc l (a ∷ []) (b ∷ []))

module _ (r : List Span) (m₀ : List ℤ) where
  pub write-start : (t : ℤ) → NoneBelow (ends_of r) t → Writing r m₀ m₀ t 0
  unfolding ends_of
  write-start t f = record { counting = count-start r t f; passed = []; many = refl; split = sym (walk_start r t f).0; held = refl }

  -- where there is a piece, it has room
  pub write-room : (t u : ℤ) (c : ℕ) → Counting r t c → next_above t (ends_of r) ≡ Some u → covered r t true ≡ true → 2 * length (pieces_of r) ≤ length m₀ → 2 * c + 2 ≤ length m₀
  write-room t u c K e b h =
      let n = (count-more r t u c K e).left in
      omega (arith, one (covered r t true) b)
    where
      one : (x : Bool) → x ≡ true → ◌≡◌ {A = ℕ} (cond x 1 0) 1
      one x e = rw e refl

  pub write-more : (m : List ℤ) (t u : ℤ) (c : ℕ) → Writing r m₀ m t c → next_above t (ends_of r) ≡ Some u → 2 * length (pieces_of r) ≤ length m₀
      → Writing r m₀ (cond (covered r t true) (set (set m (2 * c) t) (2 * c + 1) u) m) u (c + cond (covered r t true) 1 0)
  write-more m t u c K e h = go (covered r t true) refl
    where
      n : (u ≡ next true t (ends_of r)) × (lt_z t u ≡ true)
      n = is-next t u (ends_of r) e

      up : lt_z t (next true t (ends_of r)) ≡ true
      up = ap (λ z. lt_z t z) (sym n.0) ∙ n.1

      step : pieces_from r t ≡ only (covered r t true) (stretch t u) ++ pieces_from r u
      step = subst (λ (z : ℤ). pieces_from r t ≡ only (covered r t true) (stretch t z) ++ pieces_from r z) (sym n.0) (walk_more r t K.counting.stands up)

      counted : Counting r u (c + cond (covered r t true) 1 0)
      counted = count-more r t u c K.counting e

      written : List ℤ
      written = ends_of K.passed

      size : length written ≡ 2 * c
      size = ends-length K.passed ∙ ap (λ (n : ℕ). 2 * n) K.many

      two-more : 2 * c + 2 ≤ length m₀ → set (set m (2 * c) t) (2 * c + 1) u ≡ onto (ends_of (K.passed ++ (stretch t u ∷ []))) m₀
      two-more room = unfold ends_of in
          ap (λ x. set (set x (2 * c) t) (2 * c + 1) u) K.held
          ∙ write_two written m₀ t u (2 * c) size room
          ∙ ap (λ l. onto l m₀) (sym (ends-append K.passed (stretch t u ∷ [])))

      go : (b : Bool) → covered r t true ≡ b → Writing r m₀ (cond (covered r t true) (set (set m (2 * c) t) (2 * c + 1) u) m) u (c + cond (covered r t true) 1 0)
      go true q = record {
        counting = counted;
        passed = K.passed ++ (stretch t u ∷ []);
        many = length-append K.passed (stretch t u ∷ []) ∙ (λ i. K.many i + 1) ∙ ap (λ x. c + cond x 1 0) (sym q);
        split =
            append_assoc K.passed (stretch t u ∷ []) (pieces_from r u)
            ∙ ap (λ l. K.passed ++ l) (sym (step ∙ one q)) ∙ K.split;
        held = ap (λ x. cond x (set (set m (2 * c) t) (2 * c + 1) u) m) q ∙ two-more (write-room t u c K.counting e q h);
      }
        where
          one : covered r t true ≡ true → only (covered r t true) (stretch t u) ++ pieces_from r u ≡ stretch t u ∷ pieces_from r u
          one q = unfold only in ap (λ b. only b (stretch t u) ++ pieces_from r u) q
      go false q = record {
        counting = counted;
        passed = K.passed;
        many = K.many ∙ plus_none c ∙ ap (λ x. c + cond x 1 0) (sym q);
        split = ap (λ l. K.passed ++ l) (sym (step ∙ none q)) ∙ K.split;
        held = ap (λ x. cond x (set (set m (2 * c) t) (2 * c + 1) u) m) q ∙ K.held;
      }
        where
          none : covered r t true ≡ false → only (covered r t true) (stretch t u) ++ pieces_from r u ≡ pieces_from r u
          none q = unfold only in ap (λ b. only b (stretch t u) ++ pieces_from r u) q

          plus_none : (c : ℕ) → c ≡ c + 0
          plus_none c = omega arith

  pub write-end : (m : List ℤ) (t : ℤ) (c : ℕ) → Writing r m₀ m t c → next_above t (ends_of r) ≡ None → m ≡ onto (ends_of (pieces_of r)) m₀
  write-end m t c K e =
      K.held
      ∙ ap (λ l. onto (ends_of l) m₀) (sym (append-nil K.passed) ∙ ap (λ l. K.passed ++ l) (sym (walk_end r t (no-next t (ends_of r) e))) ∙ K.split)

  -- where the walk stands: the pieces passed are counted, and written where all have room
  abbrev pub Walked : List ℤ → ℤ → ℕ → Type 0
  Walked m t c = Counting r t c × (2 * length (pieces_of r) ≤ length m₀ → Writing r m₀ m t c)

  pub walk-start : (t : ℤ) → NoneBelow (ends_of r) t → Walked m₀ t 0
  walk-start t f = (count-start r t f, λ h. write-start t f)

  -- a stretch that is no piece
  pub walk-past : (m : List ℤ) (t u : ℤ) (c : ℕ) → Walked m t c → next_above t (ends_of r) ≡ Some u → covered r t true ≡ false → Walked m u c
  walk-past m t u c K e q =
      let none : c + cond (covered r t true) 1 0 ≡ c = ap (λ b. c + cond b 1 0) q ∙ add-zero c in (
        subst (Counting r u) none (count-more r t u c K.0 e),
        λ h. let k = ap (λ b. cond b (set (set m (2 * c) t) (2 * c + 1) u) m) q in subst₂ (λ l n. Writing r m₀ l u n) k none (write-more m t u c (K.1 h) e h),
      )

  -- a piece, which is put to its place where there is room for it
  pub walk-piece : (m m' : List ℤ) (t u : ℤ) (c : ℕ) → Walked m t c → next_above t (ends_of r) ≡ Some u → covered r t true ≡ true → length m ≡ length m₀
      → m' ≡ cond (ltb c (length m / 2)) (set (set m (2 * c) t) (2 * c + 1) u) m → Walked m' u (c + 1)
  walk-piece m m' t u c K e q s p =
      let one : c + cond (covered r t true) 1 0 ≡ c + 1 = ap (λ b. c + cond b 1 0) q in (
        subst (Counting r u) one (count-more r t u c K.0 e),
        λ h. let room = write-room t u c K.0 e q h in
            let k = ap (λ b. cond b (set (set m (2 * c) t) (2 * c + 1) u) m) q
            ∙ sym (p ∙ ap (λ b. cond b (set (set m (2 * c) t) (2 * c + 1) u) m) (lt-ltb c (length m / 2) (omega arith))) in
            subst₂ (λ l n. Writing r m₀ l u n) k one (write-more m t u c (K.1 h) e h),
      )

  -- a walk over no end
  pub write-none : ends_of r ≡ [] → m₀ ≡ onto (ends_of (pieces_of r)) m₀
  unfolding ends_of
  write-none e = sym (ap (λ l. onto (ends_of l) m₀) (no-pieces r e))
