-- Decimal digits.
--     decimal-one, decimal-more     a number below ten, and one that is not: the digits of its tenth, and its last
--     tenth                         it has one digit more than its tenth
--     digit-lays, digits-lays       its digits, written so
--     decimal-room                  a number below 10 ^ c has at most c digits
use Rattle.std.proofs.Common.{◌≡◌, ℕ, zero, suc, ◌+◌, ◌-◌, ◌/◌, ◌%◌, ◌^◌, ◌<◌, ◌≤◌, Bool, true, false, ltb, List, [], ◌∷◌, ◌++◌, length, sym, refl, ap, ◌∙◌, subst, pow-suc, arith, length-append, ltb-false, ltb-true, le-ltb, lt-ltb}
use Rattle.paper.specs.Print.{digits, decimal}
use Rattle.print.specs.Laid.{Lays}
use Rattle.print.proofs.Laid.{lays_more}

digits-one : (c x : ℕ) → x < 10 → digits c x ≡ (48 + x) ∷ []
unfolding digits
digits-one zero x h = refl
digits-one (suc c) x h = rw (lt-ltb x 10 h, digits)

digits_more : (c x : ℕ) → 10 ≤ x → digits (suc c) x ≡ digits c (x / 10) ++ ((48 + x % 10) ∷ [])
unfolding digits
digits_more c x h = rw (le-ltb x 10 h, digits)

-- where more digits are allowed than there are, it makes no difference how many
enough : (c d x : ℕ) → x ≤ c → x ≤ d → digits c x ≡ digits d x
enough zero d x h k = let l : x < 10 = omega arith in digits-one 0 x l ∙ sym (digits-one d x l)
enough (suc c) zero x h k = let l : x < 10 = omega arith in digits-one (suc c) x l ∙ sym (digits-one 0 x l)
enough (suc c) (suc d) x h k = go (ltb x 10) refl (λ l. enough c d (x / 10) (omega arith) (omega arith))
  where
    go : (b : Bool) → ltb x 10 ≡ b → (10 ≤ x → digits c (x / 10) ≡ digits d (x / 10)) → digits (suc c) x ≡ digits (suc d) x
    go true e f = let l = ltb-true x 10 e in digits-one (suc c) x l ∙ sym (digits-one (suc d) x l)
    go false e f = let l = ltb-false x 10 e in digits_more c x l ∙ ap (λ t. t ++ ((48 + x % 10) ∷ [])) (f l) ∙ sym (digits_more d x l)

pub decimal-one : (x : ℕ) → x < 10 → decimal x ≡ (48 + x) ∷ []
decimal-one x h = digits-one x x h

pub decimal-more : (x : ℕ) → 10 ≤ x → decimal x ≡ decimal (x / 10) ++ ((48 + x % 10) ∷ [])
decimal-more x h =
    let e : x ≡ suc (x - 1) = omega arith in
    ap (λ c. digits c x) e ∙ digits_more (x - 1) x h ∙ ap (λ t. t ++ ((48 + x % 10) ∷ [])) (enough (x - 1) (x / 10) (x / 10) (omega arith) (omega arith))

pub tenth : (x : ℕ) → 10 ≤ x → length (decimal x) ≡ length (decimal (x / 10)) + 1
tenth x h = ap length (decimal-more x h) ∙ length-append (decimal (x / 10)) ((48 + x % 10) ∷ [])

pub decimal-room : (c x : ℕ) → x < 10 ^ suc c → length (decimal x) ≤ suc c
decimal-room zero x h = let e = ap length (decimal-one x h) in omega arith
decimal-room (suc c) x h = go (ltb x 10) refl (decimal-room c (x / 10) (let e = pow-suc 10 (suc c) in omega arith))
  where
    go : (b : Bool) → ltb x 10 ≡ b → length (decimal (x / 10)) ≤ suc c → length (decimal x) ≤ suc (suc c)
    go true e k = let f = ap length (decimal-one x (ltb-true x 10 e)) in omega arith
    go false e k = let f = tenth x (ltb-false x 10 e) in omega arith

-- what a last digit is told by, d, is equal to it
module _ {p : ℕ} {a : List ℕ} {q : ℕ} {b : List ℕ} (x d : ℕ) where
  pub digit-lays : x < 10 → d ≡ 48 + x → Lays p (d ∷ []) a q b → Lays p (decimal x) a q b
  digit-lays h e w = subst (λ l. Lays p l a q b) (ap (λ (k : ℕ). k ∷ []) e ∙ sym (decimal-one x h)) w

  pub digits-lays : {r : ℕ} {c : List ℕ} → 10 ≤ x → d ≡ 48 + x % 10 → Lays p (decimal (x / 10)) a q b → Lays q (d ∷ []) b r c → Lays p (decimal x) a r c
  digits-lays {r} {c} h e v w = subst (λ l. Lays p l a r c) (ap (λ (k : ℕ). decimal (x / 10) ++ (k ∷ [])) e ∙ sym (decimal-more x h)) (lays_more v w)
