-- A table that holds a map's links: orbits and cells by the table are those of the map.
--     holds-links            its links are darts and undo themselves where the map's do
--     reads-ready            a flood may walk in tables where a valid map can be read
--     accepted-ready         so it may in tables that the check accepts
--     orbit-held             orbits
--     cell-held              i-cells
--     wing-held              what SEW and UNSEW reach from a dart
--     cells-held             the number of i-cells
use Rattle.std.proofs.Common.{◌≡◌, ℕ, ◌+◌, ◌-◌, ◌*◌, ◌<◌, ◌≤◌, Bool, true, not, List, length, ℤ, sym, ap, ◌∙◌, subst, arith}
use Rattle.paper.specs.Width.{link_width, dim_limit}
use Rattle.paper.specs.Below.{any_below, count_below}
use Rattle.paper.specs.Map.{Map, count, link}
use Rattle.paper.specs.Orbit.{marked, orbit}
use Rattle.paper.specs.Cell.{cell, lowest, cells}
use Rattle.paper.specs.Sew.{wing}
use Rattle.paper.specs.Table.{lengths, lent}
use Rattle.theory.specs.Accepted.{Accepted}
use Rattle.theory.specs.Local.{Local}
use Rattle.theory.proofs.Below.{count-into}
use Rattle.kernel.specs.Link.{alpha}
use Rattle.hold.specs.Hold.{HasLinks, Reads}
use Rattle.hold.proofs.Room.{plan-room}
use Rattle.hold.proofs.Hold.{accepted-reads}
use Rattle.orbit.specs.Flood.{axes, Links, Ready, least}
use Rattle.orbit.proofs.Links.{agree-links, agree-orbit}
use Rattle.orbit.proofs.Cell.{axes-but, axes-far}

-- ---- a table that holds a map's links
module _ (M : Map) (m n : ℕ) (ls : List ℕ) (H : HasLinks M m n ls) where
  pub holds-links : Local M → Links (alpha ls) m n
  holds-links L = agree-links
      (record {
        within = λ j e h l. subst (λ (k : ℕ). link M j e < k) H.darts (L.within j e (nd h) (dm l));
        undo = λ j e h l. L.undo j e (nd h) (dm l);
      })
      H.links
    where
      nd : {e : ℕ} → e < n → e < count M
      nd {e} h = subst (λ (k : ℕ). e < k) (sym H.darts) h

      dm : {j : ℕ} → j ≤ m → j ≤ M.dim
      dm {j} l = subst (λ (k : ℕ). j ≤ k) (sym H.dims) l

  module _ (K : Links (alpha ls) m n) where
    pub orbit-held : (S : ℕ → Bool) (d : ℕ) → d < n → orbit (alpha ls) m S n d ≡ orbit (link M) M.dim S (count M) d
    orbit-held S d h = agree-orbit K (λ j e g l. sym (H.links j e g l)) S d h ∙ (λ k. orbit (link M) (sym H.dims k) S (sym H.darts k) d)

    pub cell-held : (i d : ℕ) → d < n → orbit (alpha ls) m (axes i (i + 1)) n d ≡ cell M i d
    unfolding cell
    cell-held i d h = orbit-held (axes i (i + 1)) d h ∙ ap (λ (S : ℕ → Bool). orbit (link M) M.dim S (count M) d) (axes-but i)

    pub wing-held : (i d : ℕ) → d < n → orbit (alpha ls) m (axes (i - 1) (i + 2)) n d ≡ wing M i d
    unfolding wing
    wing-held i d h = orbit-held (axes (i - 1) (i + 2)) d h ∙ ap (λ (S : ℕ → Bool). orbit (link M) M.dim S (count M) d) (axes-far i)

    pub cells-held : (i : ℕ) → count_below n (least (alpha ls) m (axes i (i + 1)) n) ≡ cells M i
    unfolding cells
    cells-held i =
        let a = at_most (least (alpha ls) m (axes i (i + 1)) n) (lowest M i) (λ d h s. sym (same d h) ∙ s) in
        let b = at_most (lowest M i) (least (alpha ls) m (axes i (i + 1)) n) (λ d h s. same d h ∙ s) in
        let c : count_below n (least (alpha ls) m (axes i (i + 1)) n) ≡ count_below n (lowest M i) = omega arith in
        c ∙ ap (λ (k : ℕ). count_below k (lowest M i)) (sym H.darts)
      where
        same : (d : ℕ) → d < n → least (alpha ls) m (axes i (i + 1)) n d ≡ lowest M i d
        same d h = unfold least lowest in ap (λ c. not (any_below d (marked c))) (cell-held i d h)

        at_most : (p q : ℕ → Bool) → ((d : ℕ) → d < n → p d ≡ true → q d ≡ true) → count_below n p ≤ count_below n q
        at_most p q f = count-into n n p q (λ d. d) (λ d h s. (h, f d h s)) (λ d e g h s u z. z)

pub reads-ready : {M : Map} {m n : ℕ} {ls w : List ℕ} {ss : List ℤ} → Reads M m n ls ss → m ≤ dim_limit → n * link_width ≤ length ls → n + n ≤ length w
    → Ready m n ls w
reads-ready {M} {m} {n} {ls} R high rows room =
    record { darts = R.few; dims = high; rows = rows; room = room; links = holds-links M m n ls R.holds R.valid }

pub accepted-ready : (ls : List ℕ) (ps ss : List ℤ) (m n : ℕ) (w : List ℕ) → Accepted (record { links = ls; places = ps; spans = ss; work = length w }) m n → Ready m n ls w
accepted-ready ls ps ss m n w A =
    let R = plan-room (lengths (lent ls ps ss (length w))) n A.fits in
    let l = R.work in
    reads-ready (accepted-reads ls ps ss m n (length w) A) A.high R.links (omega arith)
