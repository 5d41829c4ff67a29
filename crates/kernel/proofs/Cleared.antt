-- Where the rows end that are in use no more.
--     rows-within            fewer rows than a table has are within it
--     tail_from, tail-to     within the table, and not before the rows that are in use
--     tail-past              at the table's end, or past all that were in use
use Rattle.std.proofs.Common.{◌≡◌, ℕ, ◌*◌, ◌/◌, ◌<◌, ◌≤◌, Bool, true, false, cond, ltb, leb, ◌⊎◌, refl, inl, inr, le_trans, le_refl, mul-le-mul_right, div-mul-le_self, arith, ltb-false, ltb-true, leb-false}
use Rattle.kernel.specs.Tail.{tail_end}

module _ (len w k old : ℕ) where
  -- fewer rows than the table has, times the width
  pub rows-within : old < len / w → old * w ≤ len
  rows-within h = let l : old ≤ len / w = omega arith in le_trans (mul-le-mul_right w l) (div-mul-le_self len w)

  pub tail_from : k * w ≤ len → k * w ≤ tail_end len w k old
  unfolding tail_end
  tail_from h = go (leb (len / w) old) (ltb old k) refl
    where
      go : (a b : Bool) → ltb old k ≡ b → k * w ≤ cond a len (cond b (k * w) (old * w))
      go true b t = h
      go false true t = le_refl (k * w)
      go false false t = mul-le-mul_right w (ltb-false old k t)

  pub tail-to : k * w ≤ len → tail_end len w k old ≤ len
  unfolding tail_end
  tail-to h = go (leb (len / w) old) (ltb old k) refl
    where
      go : (a b : Bool) → leb (len / w) old ≡ a → cond a len (cond b (k * w) (old * w)) ≤ len
      go true b s = le_refl len
      go false true s = h
      go false false s = rows-within (leb-false (len / w) old s)

  pub tail-past : (tail_end len w k old ≡ len) ⊎ (old * w ≤ tail_end len w k old)
  unfolding tail_end
  tail-past = go (leb (len / w) old) (ltb old k) refl
    where
      go : (a b : Bool) → ltb old k ≡ b → (cond a len (cond b (k * w) (old * w)) ≡ len) ⊎ (old * w ≤ cond a len (cond b (k * w) (old * w)))
      go true b t = inl refl
      go false true t = let l = ltb-true old k t in let m : old ≤ k = omega arith in inr (mul-le-mul_right w m)
      go false false t = inr (le_refl (old * w))
