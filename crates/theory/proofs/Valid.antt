-- Valid maps: link by link and over whole cells are the same; links two or more axes apart commute; cells of a valid map.
--     but_in, but_out  the axes other than one
--     commute          two links two or more axes apart can be taken in either order
--     pair_of          and links that commute and undo themselves, taken together, undo themselves
--     reach-within, reach-sym     what is reached is a dart, and leads back
--     in-orbit, of-orbit          marks of an orbit and paths of links
--     orbit-same       darts that reach each other have the same orbit
--     in_cell, of-cell, in-wing, of-wing     the same for cells, and for the orbits that SEW pairs
--     local-valid, valid-local    the two forms of validity
--     local-row, top-row          along a link and in a top cell, rows without their objects
use Rattle.std.proofs.Common.{◌≡◌, ℕ, ◌+◌, ◌<◌, ◌≤◌, Bool, true, not, sym, refl, ap, ◌∙◌, arith, eq-eqb, ne_eqb}
use Rattle.paper.specs.Map.{Map, spans_of, count, link, place, owned, row}
use Rattle.paper.specs.Orbit.{Reach, here, step, marked, orbit}
use Rattle.paper.specs.Cell.{but, Cell, cell}
use Rattle.paper.specs.Sew.{far, Far, wing}
use Rattle.paper.specs.Valid.{Valid}
use Rattle.theory.specs.Local.{Local}
use Rattle.theory.proofs.Bool.{clash, bool-ext}
use Rattle.theory.proofs.Orbit.{orbit-complete, orbit-sound, reach-trans, closed-holds}

pub but_in : (k j : ℕ) → (j ≡ k → ⊥) → but k j ≡ true
but_in k j ne = ap not (ne_eqb j k ne)

pub but_out : (k j : ℕ) → but k j ≡ true → j ≡ k → ⊥
but_out k j t e = clash t (ap not (eq-eqb j k e))

module _ (M : Map) (L : Local M) where
  pub commute : (i j d : ℕ) → d < count M → i + 2 ≤ j → j ≤ M.dim → link M i (link M j d) ≡ link M j (link M i d)
  commute i j d h f l =
      let a = L.within j d h l in
      let b = L.within i (link M j d) a (omega arith) in
      let c = L.within j (link M i (link M j d)) b l in
      sym (L.undo j (link M i (link M j d)) b l)
      ∙ ap (link M j) (sym (L.undo i (link M j (link M i (link M j d))) c (omega arith)) ∙ ap (link M i) (L.pair i j d h f l))

  pub reach-within : {S : ℕ → Bool} {d e : ℕ} → d < count M → Reach (link M) M.dim S d e → e < count M
  reach-within h r = closed-holds (λ x. x < count M) (λ x j g l t. L.within j x g l) h r

  pub reach-sym : {S : ℕ → Bool} {d e : ℕ} → d < count M → Reach (link M) M.dim S d e → Reach (link M) M.dim S e d
  reach-sym h here = here
  reach-sym h (step {e = e} r j l x p) =
      reach-trans (step here j l x (ap (link M j) (sym p) ∙ L.undo j e (reach-within h r) l)) (reach-sym h r)

  pub in-orbit : (S : ℕ → Bool) (d e : ℕ) → d < count M → Reach (link M) M.dim S d e → marked (orbit (link M) M.dim S (count M) d) e ≡ true
  in-orbit S d e h r = (orbit-complete (link M) M.dim S (count M) d h L.within L.undo r).1

  pub of-orbit : (S : ℕ → Bool) (d e : ℕ) → d < count M → e < count M → marked (orbit (link M) M.dim S (count M) d) e ≡ true → Reach (link M) M.dim S d e
  of-orbit S d e h g t = orbit-sound (link M) M.dim S (count M) d h L.within L.undo e g t

  -- darts that reach each other mark the same darts
  pub orbit-same : (S : ℕ → Bool) (d e x : ℕ) → d < count M → x < count M → Reach (link M) M.dim S d e
      → marked (orbit (link M) M.dim S (count M) d) x ≡ marked (orbit (link M) M.dim S (count M) e) x
  orbit-same S d e x h g r =
      let k = reach-within h r in
      bool-ext (marked (orbit (link M) M.dim S (count M) d) x) (marked (orbit (link M) M.dim S (count M) e) x)
      (λ t. in-orbit S e x k (reach-trans (reach-sym h r) (of-orbit S d x h g t)))
      (λ t. in-orbit S d x h (reach-trans r (of-orbit S e x k g t)))

  pub in_cell : (k d e : ℕ) → d < count M → Cell M k d e → marked (cell M k d) e ≡ true
  unfolding cell
  in_cell k d e h r = in-orbit (but k) d e h r

  pub of-cell : (k d e : ℕ) → d < count M → e < count M → marked (cell M k d) e ≡ true → Cell M k d e
  unfolding cell
  of-cell k d e h g t = of-orbit (but k) d e h g t

  pub in-wing : (i a d : ℕ) → a < count M → Far M i a d → marked (wing M i a) d ≡ true
  unfolding wing
  in-wing i a d h r = in-orbit (far i) a d h r

  pub of-wing : (i a d : ℕ) → a < count M → d < count M → marked (wing M i a) d ≡ true → Far M i a d
  unfolding wing
  of-wing i a d h g t = of-orbit (far i) a d h g t

  pub local-valid : Valid M
  local-valid = record {
    axes = L.axes;
    coordinates = L.coordinates;
    within = L.within;
    undo = L.undo;
    pair = L.pair;
    places = λ d e h r. corners d e h r;
    rows = λ d e h r. tops d e h r;
    short = L.short;
    order = L.order;
  }
    where
      corners : (d e : ℕ) → d < count M → Cell M 0 d e → place M d ≡ place M e
      corners d e h here = refl
      corners d e h (step {e = g} r j l x p) =
          let ne = but_out 0 j x in
          corners d g h r ∙ sym (ap (place M) (sym p) ∙ L.places j g (reach-within h r) (omega (arith, ne)) l)

      tops : (d e : ℕ) → d < count M → Cell M M.dim d e → owned M d ≡ owned M e
      tops d e h here = refl
      tops d e h (step {e = g} r j l x p) =
          let ne = but_out M.dim j x in
          tops d g h r ∙ sym (ap (owned M) (sym p) ∙ L.rows j g (reach-within h r) (omega (arith, ne)))

-- the same of rows without their objects
pub local-row : (M : Map) → Local M → (j d : ℕ) → d < count M → j < M.dim → row M (link M j d) ≡ row M d
local-row M L j d h l = ap spans_of (L.rows j d h l)

pub top-row : (M : Map) → Local M → (d e : ℕ) → d < count M → Cell M M.dim d e → row M d ≡ row M e
top-row M L d e h c = ap spans_of ((local-valid M L).rows d e h c)

pub valid-local : (M : Map) → Valid M → Local M
valid-local M A = record {
  axes = A.axes;
  coordinates = A.coordinates;
  within = A.within;
  undo = A.undo;
  pair = A.pair;
  places = λ j d h o l. sym (A.places d (link M j d) h (step here j l (but_in 0 j (λ e. omega arith)) refl));
  rows = λ j d h l. sym (A.rows d (link M j d) h (step here j (omega arith) (but_in M.dim j (λ e. omega arith)) refl));
  short = A.short;
  order = A.order;
}

-- links that undo themselves and commute, taken together, undo themselves
pub pair_of : (α : ℕ → ℕ → ℕ) (i j d : ℕ) → α i (α j (α j (α i d))) ≡ d → α i (α j d) ≡ α j (α i d) → α i (α j (α i (α j d))) ≡ d
pair_of α i j d u c = ap (λ (x : ℕ). α i (α j x)) c ∙ u
