-- A list written to memory from a place on.
--     laid_none               nothing
--     laid-length             the memory's length stays
--     laid_more               a list written right after another: both are written as one
--     laid-onto               from the start on
--     lays-length, lays_more  laid-length, and laid_more with the room and the places
--     lays-onto               what was written from the start on
use Rattle.std.proofs.Common.{◌≡◌, ℕ, ◌+◌, ◌≤◌, List, [], ◌++◌, length, take, drop, sym, ap, ◌∙◌, append_assoc, add-zero, add_assoc, zero-add, arith, length-append, length-drop, take-append-drop, length-take-le, drop-drop, take_at}
use lib.Seq.{drop-append-add}
use Rattle.paper.specs.Below.{onto}
use Rattle.print.specs.Laid.{laid, Lays}

module _ {A : Type 0} where
  pub laid_none : (p : ℕ) (x : List A) → x ≡ laid p [] x
  unfolding laid
  laid_none p x = sym (ap (λ k. take p x ++ drop k x) (add-zero p) ∙ take-append-drop p x)

  front : (p : ℕ) (l x : List A) → p ≤ length x → length (take p x ++ l) ≡ p + length l
  front p l x h = length-append (take p x) l ∙ ap (λ k. k + length l) (length-take-le p x h)

  -- what is written, after what stood before it
  parts : (p : ℕ) (l x : List A) → laid p l x ≡ (take p x ++ l) ++ drop (p + length l) x
  unfolding laid
  parts p l x = sym (append_assoc (take p x) l (drop (p + length l) x))

  module _ (p : ℕ) (l x : List A) (fits : p + length l ≤ length x) where
    pub laid-length : length (laid p l x) ≡ length x
    laid-length =
        let a = front p l x (omega arith) in
        let b = length-drop (p + length l) x in
        ap length (parts p l x) ∙ length-append (take p x ++ l) (drop (p + length l) x) ∙ omega arith

    pub laid_more : (m : List A) → laid (p + length l) m (laid p l x) ≡ laid p (l ++ m) x
    unfolding laid
    laid_more m =
        let f = take p x ++ l in
        let q = p + length l in
        let e : length f ≡ q = front p l x (omega arith) in
        let before : take q (f ++ drop q x) ≡ f = take_at f (drop q x) q e in
        let after : drop (q + length m) (f ++ drop q x) ≡ drop (q + length m) x = ap (λ k. drop (k + length m) (f ++ drop q x)) (sym e) ∙ drop-append-add f (drop q x) (length m) ∙ drop-drop (length m) q x in
        let n : q + length m ≡ p + length (l ++ m) = add_assoc p (length l) (length m) ∙ ap (λ k. p + k) (sym (length-append l m)) in
        (λ i. take q (parts p l x i) ++ (m ++ drop (q + length m) (parts p l x i)))
        ∙ (λ i. before i ++ (m ++ after i))
        ∙ append_assoc (take p x) l (m ++ drop (q + length m) x)
        ∙ ap (λ t. take p x ++ t) (sym (append_assoc l m (drop (q + length m) x)) ∙ ap (λ k. (l ++ m) ++ drop k x) n)

  pub laid-onto : (l x : List A) → laid 0 l x ≡ onto l x
  unfolding laid
  laid-onto l x = ap (λ k. l ++ drop k x) (zero-add (length l))

pub lays-length : {p : ℕ} {l x : List ℕ} {q : ℕ} {y : List ℕ} → Lays p l x q y → length y ≡ length x
lays-length {p} {l} {x} a = ap length a.memory ∙ laid-length p l x a.room

pub lays_more : {p : ℕ} {l x : List ℕ} {q : ℕ} {y m : List ℕ} {r : ℕ} {z : List ℕ} → Lays p l x q y → Lays q m y r z → Lays p (l ++ m) x r z
lays_more {p} {l} {x} {q} {y} {m} {r} {z} a b =
    let both = length-append l m in
    let same = lays-length a in
    let h = b.room in
    let k = a.place in
    let k' = b.place in
    record {
      room = omega arith;
      place = omega arith;
      memory = b.memory ∙ (λ i. laid (a.place i) m (a.memory i)) ∙ laid_more p l x a.room m;
    }

pub lays-onto : {l x : List ℕ} {q : ℕ} {y : List ℕ} → Lays 0 l x q y → (q ≡ length l) × (y ≡ onto l x)
lays-onto {l} {x} a = (a.place ∙ zero-add (length l), a.memory ∙ laid-onto l x)
