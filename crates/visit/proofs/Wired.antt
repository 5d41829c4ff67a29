-- What the calls that write a block's links ask, and what they leave.
--     wire-fill                  the columns
--     wire-touch, wire-stacked   pieces that touch
--     wire-low                   at level 0 that is all
--     below_rows, below-count    the block below ends where this one starts
--     wire-levels                the walk that joins the two
--     wire-high                  above level 0
--     wire-alike, wire-same      the same where both have as many pieces
use Rattle.std.proofs.Common.{◌≡◌, ℕ, zero, suc, ◌+◌, ◌-◌, ◌*◌, ◌/◌, ◌<◌, ◌≤◌, List, length, ℤ, sym, refl, ap, ◌∙◌, subst, add-one, arith}
use Rattle.paper.specs.Width.{link_width}
use Rattle.paper.specs.Map.{Map}
use Rattle.number.specs.Count.{piece_count}
use Rattle.number.specs.First.{first}
use Rattle.number.proofs.First.{first_next}
use Rattle.base.specs.Base.{base}
use Rattle.over.specs.Block.{Crossable, Crossed, Stacked, Joinable, Joined, Facing, Same}
use Rattle.follow.specs.Fill.{Fillable, Filled}
use Rattle.visit.specs.Block.{Cross, Wired}
use Rattle.visit.specs.Stead.{Stead}
use Rattle.visit.specs.Visit.{Wireable}
use Rattle.visit.proofs.Blocks.{block_room, stacked, crossable, cross-read, joinable, joined-read, same_read}
use Rattle.visit.proofs.Wiring.{fillable, wired-low, wired-high}

module _ {M : Map} {m n e k h x c : ℕ} {links : List ℕ} {places spans : List ℤ} {w : List ℕ} {op : List ℤ} {ol : List ℕ} {room : ℕ}
    (S : Stead M m n links places spans w op ol room) (A : Wireable M m n e k h x c w op ol) where
  abbrev he : e < n
  he = A.below.dart

  abbrev hk : k ≤ m
  hk = A.below.level

  long : (ol' : List ℕ) → length ol' ≡ length ol → room * link_width ≤ length ol'
  long ol' p = let l = S.lifted_links in omega arith

  pub wire-fill : Fillable links w m n k h e ol x c
  wire-fill = fillable S k h e x c he hk A.below.either A.below.own A.first A.count ol S.lifted_links

  -- ---- pieces of the block that touch: heads above feet, feet below heads
  pub wire-touch : {ol' : List ℕ} → length ol' ≡ length ol → Crossable op m ol' (k + 1) x c (x + 1) x c
  wire-touch {ol'} p =
      let d = S.dims in
      let f = hk in
      crossable S op e k he hk A.here x c A.first A.count (k + 1) ol' (omega arith) S.lifted_places (long ol' p)

  pub wire-stacked : Stacked op m x c
  wire-stacked = stacked S op e k x c he A.here A.first A.count

  touched : {ol₁ ol₂ : List ℕ} → Crossed op m (k + 1) x c (x + 1) x c ol₁ ol₂ → Cross M (suc k) e k ol₁ ol₂
  touched {ol₁} {ol₂} C = subst (λ (a : ℕ). Cross M a e k ol₁ ol₂) (add-one k)
      (cross-read S op e k he hk A.here x c A.first A.count (k + 1) C)

  pub wire-low : {ol₁ ol₂ : List ℕ} → Filled links w m n k h e x c ol ol₁ → Crossed op m (k + 1) x c (x + 1) x c ol₁ ol₂ → k ≡ 0 → Wired M e k ol ol₂
  wire-low F C z = wired-low S k h e x c he hk A.below.either A.below.own A.first A.count F (touched C) z

  -- ---- the block below
  module _ (nz : k ≡ 0 → ⊥) {y : ℕ} (ey : y ≡ base w n (1 - h) e) where
    abbrev l : ℕ
    l = k - 1

    up : suc l ≡ k
    up = go k nz
      where
        go : (k : ℕ) → (k ≡ 0 → ⊥) → suc (k - 1) ≡ k
        go zero o = absurd (o refl)
        go (suc k) o = omega arith

    hl : l ≤ m
    hl = let a = hk in let b = up in omega arith

    first-below : y ≡ first M e l
    first-below = ey ∙ A.below.before l up

    next_row : x ≡ y + piece_count M e l * 2
    next_row =
        let a = first_next M e l in
        let b = first-below in
        A.first ∙ ap (first M e) (sym up) ∙ omega arith

    pub below_rows : y ≤ x
    below_rows = let a = next_row in omega arith

    pub below-count : (x - y) / 2 ≡ piece_count M e l
    below-count = let a = next_row in omega arith

    axis : k < link_width
    axis = let a = hk in let d = S.dims in omega arith

    pub wire-levels : {ol' : List ℕ} → length ol' ≡ length ol → Joinable op m ol' k x c y ((x - y) / 2)
    wire-levels {ol'} p =
        joinable S op e k e l he hk he hl A.here (A.below.placed l up) x c y ((x - y) / 2) A.first A.count first-below below-count
        (λ q. omega (arith, q.1)) k ol' axis S.lifted_places (long ol' p)

    pub wire-high : {ol₁ ol₂ ol₃ : List ℕ} → Filled links w m n k h e x c ol ol₁ → Crossed op m (k + 1) x c (x + 1) x c ol₁ ol₂
        → Joined op m k x c y ((x - y) / 2) ol₂ ol₃ → Wired M e k ol ol₃
    wire-high F C D = wired-high S k h e x c he hk A.below.either A.below.own A.first A.count F (touched C) l up
        (joined-read S op e k e l he hk he hl A.here (A.below.placed l up) x c y ((x - y) / 2) A.first A.count first-below below-count k D)
        (A.below.touched l up)

    -- ---- as many pieces
    pub wire-alike : {len : ℕ} → c ≤ (x - y) / 2 → len ≡ length ol → Facing k x c y len
    wire-alike g p =
        let r = block_room S e k he hk in
        let f = S.few in
        let a = A.first in
        let b = A.count in
        let u = next_row in
        let l = S.lifted_links in
        record { axis = axis; below = omega arith; own = omega arith; own_links = omega arith }

    pub wire-same : (x - y) / 2 ≡ c → {ol₁ ol₂ ol₃ : List ℕ} → Filled links w m n k h e x c ol ol₁ → Crossed op m (k + 1) x c (x + 1) x c ol₁ ol₂
        → Same k x c y ol₂ ol₃ → Wired M e k ol ol₃
    wire-same many F C D = wired-high S k h e x c he hk A.below.either A.below.own A.first A.count F (touched C) l up
        (same_read S e k l x c y k up he hk A.first A.count first-below (sym many ∙ below-count) D)
        (A.below.touched l up)
