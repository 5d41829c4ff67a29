-- Where every block is written, the tables are those of the lifted map.
--     axis-done        each axis of each row leads where document 01 says
--     links-done       the links, number by number
--     places-done      the places
use Rattle.std.proofs.Common.{◌≡◌, ℕ, suc, ◌<◌, ◌≤◌, Bool, false, List, [], ◌∷◌, ◌++◌, length, get_or, ℤ, pos, sym, refl, ap, ◌∙◌, subst, ⊎_elim, le_of_suc-le-suc, eq-or-lt_of_le, arith, le-leb}
use borrow.Author.Tests.{lt-leb}
use Rattle.paper.specs.Width.{link_width, place_width}
use Rattle.paper.specs.Map.{Map, count, place}
use Rattle.paper.specs.Lift.{Lifted, at, lifted_darts, number_in, target, lift}
use Rattle.paper.specs.Table.{link_at, place_at}
use Rattle.theory.specs.Local.{Local}
use Rattle.theory.proofs.Bool.{eq-or, less-or}
use Rattle.theory.proofs.Number.{number-at, number_lt}
use Rattle.theory.proofs.LiftValid.{lift-dim, lift-link, lift-place}
use Rattle.number.specs.Count.{piece_count}
use Rattle.number.specs.First.{end_of, dart_of, number_of}
use Rattle.number.specs.Targets.{target_of}
use Rattle.number.proofs.First.{dart-member, dart-number, number-found}
use Rattle.number.proofs.Target.{targets}
use Rattle.places.specs.Write.{coord_at}
use Rattle.over.specs.Over.{link_of}
use Rattle.visit.specs.Block.{Linked}
use Rattle.sweep.specs.Drawn.{Drawn}

-- ---- a row of the lifted map's tables
module _ (M : Map) (L : Local M) (d k j : ℕ) (s : Bool) (hd : d < count M) (hk : k ≤ M.dim) (hj : j < piece_count M d k) where
  abbrev none : Lifted
  none = at 0 0 (pos 0) false

  row_within : number_of M d k j s < length (lifted_darts M)
  row_within =
      subst (λ (q : ℕ). q < length (lifted_darts M)) (dart-number M L d k j s hd hk hj)
      (number_lt M (dart_of M d k j s) (dart-member M L d k j s hd hk hj))

  row-dart : get_or (lifted_darts M) (number_of M d k j s) none ≡ dart_of M d k j s
  row-dart =
      ap (λ (q : ℕ). get_or (lifted_darts M) q none) (sym (dart-number M L d k j s hd hk hj))
      ∙ number-at M (dart_of M d k j s) none (dart-member M L d k j s hd hk hj)

  row-axis : (i : ℕ) → i ≤ suc M.dim → link_at (lift M) (number_of M d k j s) i ≡ target_of M d k i j s
  unfolding link_at target_of
  row-axis i h =
      let q = number_of M d k j s in
      rw (lift-dim M, le-leb i (suc M.dim) h)
      (lift-link M i q none row_within h ∙ ap (λ (x : Lifted). number_in (lifted_darts M) (target M i x)) row-dart)

  row-free : (i : ℕ) → suc M.dim < i → link_at (lift M) (number_of M d k j s) i ≡ number_of M d k j s
  unfolding link_at
  row-free i h = rw (lift-dim M, lt-leb i (suc M.dim) h) refl

  row-place : (a : ℕ) → place_at (lift M) (number_of M d k j s) a ≡ get_or (place M d ++ (end_of M d k j s ∷ [])) a (pos 0)
  unfolding place_at
  row-place a =
      ap (λ (p : List ℤ). get_or p a (pos 0))
      (lift-place M (number_of M d k j s) none row_within ∙ ap (λ (x : Lifted). place M x.d ++ (x.t ∷ [])) row-dart)

-- ---- every block is written
module _ (M : Map) (L : Local M) {D O : ℕ → ℕ → Type 0} {op : List ℤ} {ol : List ℕ} (B : Drawn M D O op ol)
    (all : (d k : ℕ) → d < count M → k ≤ M.dim → D d k) (all-over : (d k : ℕ) → d < count M → k < M.dim → O d k) where
  -- the axis to the next level: past the top one, it joins pieces that touch
  top : (d k : ℕ) → d < count M → k ≡ M.dim → Linked M ol d k (suc k)
  top d k hd e j s hj =
      let hk : k ≤ M.dim = omega arith in
      let T = B.touched d k (all d k hd hk) (λ x. let y = (B.within d (suc k) x).1 in omega arith) in
      ⊎_elim
      (λ f. T.met j f.0 s hj f.1 f.2 ∙ sym f.3)
      (λ f. T.missed j s hj f.0 ∙ sym f.1)
      ((targets M L d k j s hd hk hj).top e)

  next : (d k : ℕ) → d < count M → k ≤ M.dim → Linked M ol d k (suc k)
  next d k hd hk = ⊎_elim (top d k hd) (λ (h : k < M.dim). B.joined d k (all d (suc k) hd h)) (eq-or-lt_of_le hk)

  pub axis-done : (d k i : ℕ) → d < count M → k ≤ M.dim → i ≤ suc M.dim → Linked M ol d k i
  axis-done d k i hd hk hi = ⊎_elim
      (λ (e : i ≡ suc k). subst (Linked M ol d k) (sym e) (next d k hd hk))
      (λ ne. ⊎_elim
      (λ (e : i ≡ suc M.dim).
      let h : k < M.dim = ⊎_elim (λ (x : k ≡ M.dim). absurd (ne (e ∙ ap suc (sym x)))) (λ (h : k < M.dim). h) (eq-or-lt_of_le hk) in
      subst (Linked M ol d k) (sym e) (B.over d k (all-over d k hd h) h))
      (λ h. (B.inner d k (all d k hd hk)).right i (le_of_suc-le-suc h) ne)
      (eq-or-lt_of_le hi))
      (eq-or i (suc k))

  -- what holds of the rows of every block holds of every row
  each : (P : ℕ → Type 0) → ((d k j : ℕ) (s : Bool) → d < count M → k ≤ M.dim → j < piece_count M d k → P (number_of M d k j s))
      → (q : ℕ) → q < length (lifted_darts M) → P q
  each P f q h =
      let x = number-found M L q h in
      subst P (sym x.7) (f x.0 x.1 x.2 x.3 x.4 x.5 x.6)

  pub links-done : (q i : ℕ) → q < length (lifted_darts M) → i < link_width → link_of ol q i ≡ link_at (lift M) q i
  links-done q i h hi = each
      (λ q. link_of ol q i ≡ link_at (lift M) q i)
      (λ d k j s hd hk hj. ⊎_elim
      (λ (l : suc M.dim < i). (B.inner d k (all d k hd hk)).free i l hi j s hj ∙ sym (row-free M L d k j s hd hk hj i l))
      (λ (l : i ≤ suc M.dim). axis-done d k i hd hk l j s hj ∙ sym (row-axis M L d k j s hd hk hj i l))
      (less-or (suc M.dim) i))
      q h

  pub places-done : (q a : ℕ) → q < length (lifted_darts M) → a < place_width → coord_at op q a ≡ place_at (lift M) q a
  places-done q a h ha = each
      (λ q. coord_at op q a ≡ place_at (lift M) q a)
      (λ d k j s hd hk hj. B.placed d k (all d k hd hk) j s a hj ha ∙ sym (row-place M L d k j s hd hk hj a))
      q h
