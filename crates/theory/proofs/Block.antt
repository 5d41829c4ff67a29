-- The lifted darts of a plan dart at one level, two for each stretch that its row covers; and room for the ends of a cell.
--     block            the lifted darts of d at level k: for each stretch covered for d, up at its foot and down at its head
--     block-length     their number is twice that of the stretches that d's row covers
--     end-covered      an end of a row in order has a covered side
--     room             no cell has more ends than there are lifted darts
use Rattle.std.proofs.Common.{◌≡◌, ℕ, ◌+◌, ◌*◌, ◌<◌, ◌≤◌, Bool, true, false, ◌⊎◌, List, [], ◌∷◌, ◌++◌, map, length, ℤ, sym, refl, ap, ◌∙◌, subst, inl, inr, ⊎_elim, append_assoc, arith, length-append}
use mathlib.Core.List.Memᴰ
use lib.ListN.{length-map}
use lib.Signed.{lt_z}
use Rattle.paper.specs.Below.{join_of, only}
use Rattle.paper.specs.Map.{Span, Map, count, row}
use Rattle.paper.specs.Span.{ordered, covered, ends_of}
use Rattle.paper.specs.Ends.{ascending, ends, stretches_from, stretches, covered_by}
use Rattle.paper.specs.Lift.{at, lifted_at, lifted_darts}
use Rattle.theory.specs.Local.{Local}
use Rattle.theory.specs.Member.{◌∈◌}
use Rattle.theory.specs.Ascending.{Ascends}
use Rattle.theory.proofs.Bool.{clash, not-true}
use Rattle.theory.proofs.Member.{map-in, end-in}
use Rattle.theory.proofs.Order.{Z-order, asym, le-le, least, ascends-sub}
use Rattle.theory.proofs.Valid.{reach-within}
use Rattle.theory.proofs.Height.{covered-in, end-span, foot-covered, head-covered, reaches}
use Rattle.theory.proofs.Ascending.{ascending-ascends, ascending-in, ascending-short}
use Rattle.theory.proofs.Ends.{ends-ascends, ends-out, ends-own}
use Rattle.theory.proofs.Row.{ordered-proper}
use Rattle.theory.proofs.Number.{lifted-in}
use Rattle.theory.proofs.Stretch.{stretch, held, stretch-facing, stretch-held}

-- ---- the covered sides at the members of a list, in order
module _ {A : Type 0} (r : List Span) (down up : ℤ → A) where
  abbrev sides : ℤ → List A
  sides t = only (covered r t false) (down t) ++ only (covered r t true) (up t)

  abbrev both : Span → List A
  both p = only (covered r p.lo true) (up p.lo) ++ only (covered r p.lo true) (down p.hi)

  -- from b on, where both ends of a stretch are covered alike and nothing is above the last member
  sides-from : (b : ℤ) (l : List ℤ) → Ascends lt_z (b ∷ l) → ((p : Span) → p ∈ stretches_from b l → covered r p.lo true ≡ covered r p.hi false)
      → ((z : ℤ) → ((e : ℤ) → e ∈ b ∷ l → lt_z z e ≡ false) → covered r z true ≡ false)
      → only (covered r b true) (up b) ++ join_of l sides ≡ join_of (stretches_from b l) both
  unfolding join_of stretches_from
  sides-from b [] o f g =
      ap (λ v. only v (up b) ++ []) (g b (λ e h. subst (λ (z : ℤ). lt_z b z ≡ false) (sym (Memᴰ.eq_of_singleton h)) (Z-order.irrefl b))) ∙ (unfold only in refl)
  sides-from b (c ∷ l) o f g =
      let J = join_of (stretches_from c l) both in
      let X = only (covered r b true) (up b) in
      let Y = only (covered r c false) (down c) in
      let Z = only (covered r c true) (up c) in
      let rest : Z ++ join_of l sides ≡ J = sides-from c l o.1 (λ p h. f p (Memᴰ.tail h)) last in
      ap (λ w. X ++ w) (append_assoc Y Z (join_of l sides) ∙ ap (λ w. Y ++ w) rest) ∙ sym (append_assoc X Y J)
      ∙ ap (λ v. (X ++ only v (down c)) ++ J) (sym (f (stretch b c) (Memᴰ.head refl)))
    where
      last : (z : ℤ) → ((e : ℤ) → e ∈ c ∷ l → lt_z z e ≡ false) → covered r z true ≡ false
      last z k = g z (λ e h. ⊎_elim
          (λ (q : e ≡ b). subst (λ (y : ℤ). lt_z z y ≡ false) (sym q) (le-le lt_z Z-order b c z (asym lt_z Z-order b c o.0.0) (k c (Memᴰ.head refl))))
          (k e) (Memᴰ.cases_cons h))

  sides-both : (l : List ℤ) → Ascends lt_z l → ((e : ℤ) → e ∈ ends_of r → e ∈ l) → join_of l sides ≡ join_of (stretches l) both
  unfolding join_of only
  sides-both [] o has = refl
  sides-both (b ∷ l) o has =
      append_assoc (only (covered r b false) (down b)) (only (covered r b true) (up b)) (join_of l sides)
      ∙ ap (λ v. only v (down b) ++ (only (covered r b true) (up b) ++ join_of l sides)) below
      ∙ sides-from b l o (λ p h. stretch-facing r (b ∷ l) o has p h) last
    where
      below : covered r b false ≡ false
      below = not-true (covered r b false) (λ c. let e = reaches r b false c in clash e.2 (least lt_z Z-order b e.0 l o (has e.0 e.1)))

      last : (z : ℤ) → ((e : ℤ) → e ∈ b ∷ l → lt_z z e ≡ false) → covered r z true ≡ false
      last z k = not-true (covered r z true) (λ c. let e = reaches r z true c in clash e.2 (k e.0 (has e.0 e.1)))

  both-length : (l : List Span) → ((p : Span) → p ∈ l → held r p ≡ covered r p.lo true) → length (join_of l both) ≡ 2 * length (covered_by r l)
  unfolding join_of covered_by only
  both-length [] f = refl
  both-length (p ∷ l) f =
      length-append (both p) (join_of l both) ∙ ap (λ v. length (only v (up p.lo) ++ only v (down p.hi)) + length (join_of l both)) (sym (f p (Memᴰ.head refl)))
      ∙ go (held r p) (both-length l (λ q h. f q (Memᴰ.tail h)))
    where
      go : (a : Bool) → length (join_of l both) ≡ 2 * length (covered_by r l)
          → length (only a (up p.lo) ++ only a (down p.hi)) + length (join_of l both) ≡ 2 * length (only a p ++ covered_by r l)
      go true h = omega arith
      go false h = omega arith

-- ---- ends
end-covered : (r : List Span) (t : ℤ) → ordered r ≡ true → t ∈ ends_of r → (s : Bool) × (covered r t s ≡ true)
end-covered r t o h = let x = end-span r t h in go x.0 x.1 (ordered-proper r x.0 o x.1) x.2
  where
    go : (x : Span) → x ∈ r → lt_z x.lo x.hi ≡ true → (t ≡ x.lo) ⊎ (t ≡ x.hi) → (s : Bool) × (covered r t s ≡ true)
    go x k p (inl e) = (true, covered-in r x t true k (rw e (foot-covered x p)))
    go x k p (inr e) = (false, covered-in r x t false k (rw e (head-covered x p)))

-- ---- the lifted darts
module _ (M : Map) (L : Local M) where
  pub block : (d k : ℕ) → d < count M
      → lifted_at M d k
      ≡ join_of (stretches (ends M k d)) (λ p. only (covered (row M d) p.lo true) (at d k p.lo true) ++ only (covered (row M d) p.lo true) (at d k p.hi false))
  unfolding lifted_at
  block d k h = sides-both (row M d) (λ t. at d k t false) (λ t. at d k t true) (ends M k d) (ends-ascends M k d) (λ e. ends-own M L k d e h)

  pub block-length : (d k : ℕ) → d < count M → length (lifted_at M d k) ≡ 2 * length (covered_by (row M d) (stretches (ends M k d)))
  block-length d k h =
      ap length (block d k h) ∙ both-length (row M d) (λ t. at d k t false) (λ t. at d k t true) (stretches (ends M k d))
      (stretch-held (row M d) (ends M k d) (ends-ascends M k d) (λ e. ends-own M L k d e h))

  pub room : (k d : ℕ) → d < count M → k ≤ M.dim → length (ends M k d) ≤ length (lifted_darts M)
  room k d h l =
      let ts = map (λ x. x.t) (lifted_darts M) in
      let a = ascends-sub lt_z Z-order (ends M k d) (ascending ts) (ends-ascends M k d) (ascending-ascends ts) (λ t w. ascending-in t ts (found t w)) in
      let b = ascending-short ts in
      let e = length-map (lifted_darts M) (λ x. x.t) in
      omega arith
    where
      found : (t : ℤ) → t ∈ ends M k d → t ∈ map (λ x. x.t) (lifted_darts M)
      found t w =
          let c = ends-out M L k d t h w in
          let en = reach-within M L h c.1 in
          let s = end-covered (row M c.0) t (L.order c.0 en) c.2 in
          map-in (λ x. x.t) (lifted_darts M)
          (lifted-in M (at c.0 k t s.0) (record { dart = en; level = l; end = end-in (ends M k c.0) t (ends-own M L k c.0 t en c.2); side = s.1 }))
